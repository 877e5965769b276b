use Rattle.std.proofs.Common.{◌∙◌, sym, ap}
use Rattle.away_trees.specs.declared.statements.Stmt.TheVariants as stmt
use Rattle.call_answers.proofs.LeafRules.{leaf_by}
use Rattle.call_answers.proofs.leaves.leaf_becomes.Goals as goal

pub returns-in-Assign : goal.returns-in-Assign
returns-in-Assign c = λ yes. leaf_by c.args.w.now c.args.c.now c.args.s.now _ c.args.x.now c.in-Assign.is (c.assign_becomes.ensures yes c.in-Assign.field-0)

pub returns-in-Return : goal.returns-in-Return
returns-in-Return c = λ yes. leaf_by c.args.w.now c.args.c.now c.args.s.now _ c.args.x.now c.in-Return.is (c.return_becomes.ensures yes)

pub returns-in-Exit : goal.returns-in-Exit
returns-in-Exit c = λ yes. leaf_by c.args.w.now c.args.c.now c.args.s.now _ c.args.x.now c.in-Exit.is (c.exit_becomes.ensures yes)

pub returns-in-Continue : goal.returns-in-Continue
returns-in-Continue c = λ yes. leaf_by c.args.w.now c.args.c.now c.args.s.now _ c.args.x.now c.in-Continue.is (c.continue_becomes.ensures yes)

pub returns-in-Raise : goal.returns-in-Raise
returns-in-Raise c = λ yes. leaf_by c.args.w.now c.args.c.now c.args.s.now _ c.args.x.now c.in-Raise.is (c.raise_becomes.ensures yes)

pub returns-in-Into : goal.returns-in-Into
returns-in-Into c = λ yes. leaf_by c.args.w.now c.args.c.now c.args.s.now _ c.args.x.now (c.in-Into.is ∙ ap (λ ts. stmt.Into c.in-Into.strict ts c.in-Into.query) (sym c.as_slice.ensures)) (c.into_becomes.ensures yes)
