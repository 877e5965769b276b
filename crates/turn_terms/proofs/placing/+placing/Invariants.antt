use Rattle.std.proofs.Common.{◌≡◌, map, take}
use Rattle.turn_terms.specs.Placing.{expr_in, link_in, arm_in, item_in, from_in, key_in, select_in}
use Rattle.turn_terms.proofs.placing.+placing.Given as goal

abbrev pub invariant-place_exprs-loop-i : goal.invariant-place_exprs-loop-i
invariant-place_exprs-loop-i l = l.all ≡ map (expr_in l.leaves l.d) (take l.i l.list)

abbrev pub invariant-place_links-loop-i : goal.invariant-place_links-loop-i
invariant-place_links-loop-i l = l.all ≡ map (link_in l.leaves l.d) (take l.i l.list)

abbrev pub invariant-place_arms-loop-i : goal.invariant-place_arms-loop-i
invariant-place_arms-loop-i l = l.all ≡ map (arm_in l.leaves l.d) (take l.i l.list)

abbrev pub invariant-place_items-loop-i : goal.invariant-place_items-loop-i
invariant-place_items-loop-i l = l.all ≡ map (item_in l.leaves l.d) (take l.i l.list)

abbrev pub invariant-place_from-loop-i : goal.invariant-place_from-loop-i
invariant-place_from-loop-i l = l.all ≡ map (from_in l.leaves l.d) (take l.i l.list)

abbrev pub invariant-place_keys-loop-i : goal.invariant-place_keys-loop-i
invariant-place_keys-loop-i l = l.all ≡ map (key_in l.leaves l.d) (take l.i l.list)

abbrev pub invariant-place_selects-loop-i : goal.invariant-place_selects-loop-i
invariant-place_selects-loop-i l = l.all ≡ map (select_in l.leaves l.d) (take l.i l.list)
