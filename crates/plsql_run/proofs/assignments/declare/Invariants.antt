use Rattle.std.proofs.Common.{◌≡◌, ℕ, ◌+◌, drop}
use Rattle.plsql_meaning.specs.Statements.{declare}
use Rattle.plsql_run.specs.Settings.{meant}
use Rattle.plsql_run.proofs.assignments.declare.Given as goal

abbrev pub invariant-loop-i : goal.invariant-loop-i
invariant-loop-i l = (n : ℕ) → declare (meant l.setting) (drop l.i l.decls) (l.at + l.i) l.env n ≡ declare (meant l.setting) l.decls l.at l.initial.env n
