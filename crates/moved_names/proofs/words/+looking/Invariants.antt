use Rattle.std.proofs.Common.{◌≡◌, drop}
use Rattle.std.specs.List.{list_any}
use Rattle.moved_names.specs.Seeking.{looking}
use Rattle.moved_names.specs.Words.{in_branch, in_stmt}
use Rattle.moved_names.proofs.words.+looking.Given as goal

abbrev pub invariant-in_body-loop-x : goal.invariant-in_body-loop-x
invariant-in_body-loop-x l = list_any (in_stmt (looking l.l)) l.list ≡ list_any (in_stmt (looking l.l)) (drop l.x-index l.list)

abbrev pub invariant-in_arms-loop-a : goal.invariant-in_arms-loop-a
invariant-in_arms-loop-a l = list_any (in_branch (looking l.l)) l.list ≡ list_any (in_branch (looking l.l)) (drop l.a-index l.list)
