use Rattle.std.proofs.Common.{ap, ◌∙◌}
use Rattle.away_values.specs.Results.{and_then, mapped}
use Rattle.sql_meaning.specs.Context.{at}
use Rattle.sql_meaning.specs.OneReturn.{body}
use Rattle.plsql_meaning.specs.Conversions.{converted_value}
use Rattle.select_into.specs.Laws.{first_row}
use Rattle.select_into.proofs.Casts.{picked_same, picked_reads}
use Rattle.select_into.proofs.SourceReads.{rows_inside}
use Rattle.select_into.proofs.Values.{no_row_is, more_rows_is, cast_pick_is}
use Rattle.select_into.proofs.laws.entries_ask_the_select.Goals as goal

pub returns-clause-asked : goal.returns-clause-asked
returns-clause-asked c slots tables s x over env =
    let same = rows_inside slots tables s x over env in
    record {
      none = no_row_is s (body over env) ∙ ap (mapped _) same;
      more = more_rows_is s (body over env) ∙ ap (mapped _) same;
      picks = λ cast place. cast_pick_is cast s place (body over env) ∙ ap (λ o. and_then o (λ rows. converted_value cast (at (first_row rows) place))) same;
    }

pub returns-clause-typed : goal.returns-clause-typed
returns-clause-typed c types s = (picked_same types s, picked_reads types s)
