use Rattle.std.proofs.Common.{◌≡◌, ℕ, ◌+◌, drop, sum_by, map, option_map}
use Rattle.away_trees.specs.StatementAlgebra.{branch_of}
use Rattle.plsql_meaning.specs.Slots.{slots_of_arm}
use Rattle.plsql_meaning.specs.Statements.{in_arms, in_else, running, meanings}
use Rattle.plsql_run.specs.Continues.{lacking}
use Rattle.plsql_run.specs.Settings.{meant}
use Rattle.plsql_run.proofs.enter.enter_arms.Given as goal

abbrev pub invariant-loop-i : goal.invariant-loop-i
invariant-loop-i l =
    (l.next + sum_by slots_of_arm (drop l.i l.arms) ≡ l.at + sum_by slots_of_arm l.arms)
    × ((n : ℕ) → let set = meant l.setting in
    let other = in_else set (option_map (λ body. meanings set body) l.other) (lacking l.missing) in
    in_arms set (map (λ x. branch_of (running set) x) (drop l.i l.arms)) other l.next l.env n ≡ in_arms set (map (λ x. branch_of (running set) x) l.arms) other l.at l.env n)
    × (l.stack ≡ l.initial.stack)
