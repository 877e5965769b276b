use Rattle.std.proofs.Common.{ap, ◌∙◌}
use Rattle.away_types.specs.declared.checked_function.CheckedFunction.{CheckedFunction}
use Rattle.plsql_meaning.specs.Equivalent.{answers}
use Rattle.away_types.specs.TypedSlots.{typed_slots}
use Rattle.sql_meaning.specs.AtBound.{rows_of_tables}
use Rattle.demonstration.specs.Summary.{turns}
use Rattle.demonstration.proofs.summary.runs_of.Goals as goal

pub returns : goal.returns
returns c = record {
  function_is = c.in_ok-run_function.ensures
      ∙ ap (λ (f : CheckedFunction). answers f.function (typed_slots f.slots) (rows_of_tables c.args.trial.now.tables.list) c.args.args.now turns) c.get-function.ensures;
  query_is = c.in_ok-run_query.ensures;
  iterations_are = c.in_ok-query_length.ensures;
}
