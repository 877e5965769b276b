use Rattle.std.proofs.Common.{◌≡◌, ◌∙◌, ap, sym, subst, [], string_bytes}
use Rattle.std.proofs.lemmas.Result.{err_from_is_err_and}
use Rattle.away_types.specs.CheckedQueries.{resolved_query}
use Rattle.away_values.specs.declared.values.Answer.{Answer}
use Rattle.sql_meaning.specs.AtBound.{rows_of_tables}
use Rattle.sql_meaning.specs.Names.{bare}
use Rattle.sql_meaning.specs.Working.{sql}
use Rattle.away_top.specs.declared.over_tables.program.Reply.TheVariants as reply
use Rattle.away_top.specs.RunCourse.{Tells}
use Rattle.away_top.proofs.over_tables.unrolled.answered.Goals as goal

pub returns-in_err-made : goal.returns-in_err-made
returns-in_err-made c =
    let p = err_from_is_err_and c.from_residual.result c.from_residual.ensures.1 in
    rw (p.1, p.2) ([], tt)

pub returns-in_err-answer : goal.returns-in_err-answer
returns-in_err-answer c =
    let p = err_from_is_err_and c.from_residual-in_err-answer.result c.from_residual-in_err-answer.ensures.1 in
    rw (p.1, p.2) ([], tt)

pub returns-in_err-answer_ending : goal.returns-in_err-answer_ending
returns-in_err-answer_ending c =
    let p = err_from_is_err_and c.from_residual-in_err-answer_ending.result c.from_residual-in_err-answer_ending.ensures.1 in
    rw (p.1, p.2) ([], tt)

pub returns : goal.returns
returns c =
    let made = c.in_ok-made.made in
    let tables = rows_of_tables c.args.tables.now.list in
    let values = c.args.values.now in
    let q = resolved_query c.args.s.now.schema made.query in
    let same : bare c.get.result.now ≡ bare q = ap bare c.get.ensures ∙ sym c.in_ok-made.ensures.tree in
    let answer : c.in_ok-answer.answer ≡ sql q tables values c.args.bound = c.in_ok-answer.ensures ∙ c.names_mean_nothing.ensures.answer c.get.result.now q tables values c.args.bound same in
    let ending = c.in_ok-answer_ending.ensures in (
      string_bytes made.text,
      (
        record { query = made.query; unrolled = c.in_ok-made.ensures.unrolled; equivalent = c.in_ok-made.ensures.equivalent },
        subst (λ (a : Answer). Tells (reply.Answer a) c.in_ok-answer_ending.field-0.status c.in_ok-answer_ending.field-0.output.items) answer (ending.status_is, ending.output_is),
      ),
    )
