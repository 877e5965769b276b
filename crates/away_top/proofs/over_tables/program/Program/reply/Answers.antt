use Rattle.std.proofs.Common.{ap, sym, ◌∙◌}
use Rattle.away_types.specs.declared.checked_function.CheckedFunction.{CheckedFunction}
use Rattle.sql_meaning.specs.AtBound.{rows_of_tables}
use Rattle.plsql_meaning.specs.Equivalent.{answers}
use Rattle.away_types.specs.TypedSlots.{typed_slots}
use Rattle.away_top.specs.declared.over_tables.program.Reply.TheVariants as reply
use Rattle.away_top.specs.Programs.{as_program, reply_of}
use Rattle.away_top.proofs.over_tables.program.Program.reply.Goals as goal

pub returns-in_ok-answer-in-Function : goal.returns-in_ok-answer-in-Function
returns-in_ok-answer-in-Function c =
    let tables = rows_of_tables c.args.tables.now.list in
    ap (λ a. reply.Answer a)
    (c.in_ok-answer-in-Function.ensures
    ∙ ap (λ (f : CheckedFunction). answers f.function (typed_slots f.slots) tables c.args.values.now c.args.bound) c.get-in-Function.ensures)
    ∙ ap (λ p. reply_of (as_program p) tables c.args.values.now c.args.bound) (sym c.in-Function.is)
