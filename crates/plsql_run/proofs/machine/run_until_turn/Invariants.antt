use Rattle.std.proofs.Common.{◌≡◌, ℕ}
use Rattle.plsql_meaning.specs.Outcomes.{done}
use Rattle.plsql_run.specs.Continues.{unwound, outcome, load}
use Rattle.plsql_run.specs.Settings.{meant}
use Rattle.plsql_run.proofs.machine.run_until_turn.Given as goal

abbrev pub invariant-frames : goal.invariant-frames
invariant-frames l = (n : ℕ) → let set = meant l.setting in unwound set l.stack (done (outcome l.way) l.env n) ≡ unwound set l.initial.stack (done (outcome l.initial.way) l.initial.env n)

abbrev pub decreases-frames : goal.decreases-frames
decreases-frames l = load l.stack
