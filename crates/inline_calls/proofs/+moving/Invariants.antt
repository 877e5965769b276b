use Rattle.std.proofs.Common.{◌≡◌, ◌++◌, drop, map}
use Rattle.inline_calls.specs.Leaves.{leaf_of, place_of}
use Rattle.inline_calls.specs.Moving.{expr_in, link_in, arm_in, item_in, key_in, from_in, select_in}
use Rattle.inline_calls.proofs.+moving.Given as goal

abbrev pub invariant-moving::moved_all-loop-e : goal.invariant-moving::moved_all-loop-e
invariant-moving::moved_all-loop-e l = l.done ++ map (expr_in (leaf_of l.m) (place_of l.m) l.d) (drop l.e-index l.es) ≡ map (expr_in (leaf_of l.m) (place_of l.m) l.d) l.es

abbrev pub invariant-moving::moved_links-loop-link : goal.invariant-moving::moved_links-loop-link
invariant-moving::moved_links-loop-link l = l.done ++ map (link_in (leaf_of l.m) (place_of l.m) l.d) (drop l.link-index l.links) ≡ map (link_in (leaf_of l.m) (place_of l.m) l.d) l.links

abbrev pub invariant-moving::moved_arms-loop-arm : goal.invariant-moving::moved_arms-loop-arm
invariant-moving::moved_arms-loop-arm l = l.done ++ map (arm_in (leaf_of l.m) (place_of l.m) l.d) (drop l.arm-index l.arms) ≡ map (arm_in (leaf_of l.m) (place_of l.m) l.d) l.arms

abbrev pub invariant-moving_queries::moved_items-loop-item : goal.invariant-moving_queries::moved_items-loop-item
invariant-moving_queries::moved_items-loop-item l = l.done ++ map (item_in (leaf_of l.m) (place_of l.m) l.d) (drop l.item-index l.list) ≡ map (item_in (leaf_of l.m) (place_of l.m) l.d) l.list

abbrev pub invariant-moving_queries::moved_keys-loop-key : goal.invariant-moving_queries::moved_keys-loop-key
invariant-moving_queries::moved_keys-loop-key l = l.done ++ map (key_in (leaf_of l.m) (place_of l.m) l.d) (drop l.key-index l.keys) ≡ map (key_in (leaf_of l.m) (place_of l.m) l.d) l.keys

abbrev pub invariant-moving_queries::moved_from-loop-f : goal.invariant-moving_queries::moved_from-loop-f
invariant-moving_queries::moved_from-loop-f l = l.done ++ map (from_in (leaf_of l.m) (place_of l.m) l.d) (drop l.f-index l.from) ≡ map (from_in (leaf_of l.m) (place_of l.m) l.d) l.from

abbrev pub invariant-moving_queries::moved_selects-loop-select : goal.invariant-moving_queries::moved_selects-loop-select
invariant-moving_queries::moved_selects-loop-select l = l.done ++ map (select_in (leaf_of l.m) (place_of l.m) l.d) (drop l.select-index l.selects) ≡ map (select_in (leaf_of l.m) (place_of l.m) l.d) l.selects
