use Rattle.away_trees.specs.declared.statements.Stmt.TheVariants as stmt
use Rattle.call_answers.proofs.CallBlockRules.{return_stands}
use Rattle.call_answers.proofs.LeafRules.{by_turns}
use Rattle.call_answers.proofs.leaves.return_becomes.Goals as goal

pub returns-in-Turns : goal.returns-in-Turns
returns-in-Turns c = λ yes. by_turns c.args.w.now c.args.c.now c.in-Turns.label (stmt.Return c.args.e.now) c.args.x.now c.in-Turns.is (c.return_turns.ensures yes)

pub returns-in-Expanded : goal.returns-in-Expanded
returns-in-Expanded c = λ yes. return_stands c.args.w.now c.args.c.now c.in-Expanded.by c.args.e.now c.args.x.now c.in-Expanded.is (c.value_stands.ensures yes)
