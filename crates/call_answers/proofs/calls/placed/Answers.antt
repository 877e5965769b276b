use Rattle.std.proofs.Common.{ap, ◌∙◌}
use Rattle.away_trees.specs.declared.statements.Stmt.TheVariants as stmt
use Rattle.call_answers.specs.declared.walking.To.TheVariants as to
use Rattle.call_answers.proofs.CallBlockRules.{if_some, placed_is}
use Rattle.call_answers.proofs.calls.placed.Goals as goal

pub returns-in-Some : goal.returns-in-Some
returns-in-Some c = if_some _ _ c.placed_at.result (λ g h. placed_is c.args.w.now c.in-Expanded.x (to.Slot c.in-Some.i) c.in-Assign.e c.args.s.now g c.in-Expanded.is (c.in-Assign.field-0, c.in-Assign.is ∙ ap (λ z. stmt.Assign c.in-Assign.field-0 z c.in-Assign.e) c.in-Some.is) h) c.placed_at.ensures

pub returns-in-Return : goal.returns-in-Return
returns-in-Return c = if_some _ _ c.placed_at-in-Return.result (λ g h. placed_is c.args.w.now c.in-Expanded.x to.Result c.in-Return.e c.args.s.now g c.in-Expanded.is c.in-Return.is h) c.placed_at-in-Return.ensures
