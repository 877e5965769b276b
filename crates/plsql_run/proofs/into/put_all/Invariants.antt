use Rattle.std.proofs.Common.{◌≡◌, ℕ, drop}
use Rattle.plsql_meaning.specs.Statements.{put_all}
use Rattle.plsql_run.specs.Settings.{meant}
use Rattle.plsql_run.proofs.into.put_all.Given as goal

abbrev pub invariant-loop-i : goal.invariant-loop-i
invariant-loop-i l = (n : ℕ) → put_all (meant l.setting) (drop l.i l.targets) (drop l.i l.row) l.env n ≡ put_all (meant l.setting) l.targets l.row l.initial.env n
