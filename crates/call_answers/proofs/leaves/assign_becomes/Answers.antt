use Rattle.away_trees.specs.declared.statements.Stmt.TheVariants as stmt
use Rattle.call_answers.proofs.CallBlockRules.{assign_stands}
use Rattle.call_answers.proofs.LeafRules.{by_turns}
use Rattle.call_answers.proofs.leaves.assign_becomes.Goals as goal

pub returns-in-Turns : goal.returns-in-Turns
returns-in-Turns c = λ yes name. by_turns c.args.w.now c.args.c.now c.in-Turns.label (stmt.Assign name c.args.slot.now c.args.e.now) c.args.x.now c.in-Turns.is (c.assign_stays.ensures yes name)

pub returns-in-Some : goal.returns-in-Some
returns-in-Some c = λ yes name. assign_stands c.args.w.now c.args.c.now name c.args.slot.now c.in-Some.i c.in-Expanded.by c.args.e.now c.args.x.now c.in-Expanded.is c.in-Some.is (c.value_stands.ensures yes)
