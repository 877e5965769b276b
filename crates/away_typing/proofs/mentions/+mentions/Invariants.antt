use Rattle.std.proofs.Common.{◌≡◌, drop}
use Rattle.away_typing.specs.UsesLists.{any_at, any_link_at, any_arm_at, any_item_at, any_key_at, any_from_at, any_select_at}
use Rattle.away_typing.proofs.mentions.+mentions.Given as goal

abbrev pub invariant-any-loop-e : goal.invariant-any-loop-e
invariant-any-loop-e l = any_at l.level l.es ≡ any_at l.level (drop l.e-index l.es)

abbrev pub invariant-any_link-loop-link : goal.invariant-any_link-loop-link
invariant-any_link-loop-link l = any_link_at l.level l.links ≡ any_link_at l.level (drop l.link-index l.links)

abbrev pub invariant-any_arm-loop-arm : goal.invariant-any_arm-loop-arm
invariant-any_arm-loop-arm l = any_arm_at l.level l.arms ≡ any_arm_at l.level (drop l.arm-index l.arms)

abbrev pub invariant-any_item-loop-item : goal.invariant-any_item-loop-item
invariant-any_item-loop-item l = any_item_at l.level l.list ≡ any_item_at l.level (drop l.item-index l.list)

abbrev pub invariant-any_key-loop-key : goal.invariant-any_key-loop-key
invariant-any_key-loop-key l = any_key_at l.level l.keys ≡ any_key_at l.level (drop l.key-index l.keys)

abbrev pub invariant-any_from-loop-f : goal.invariant-any_from-loop-f
invariant-any_from-loop-f l = any_from_at l.level l.from ≡ any_from_at l.level (drop l.f-index l.from)

abbrev pub invariant-any_select-loop-select : goal.invariant-any_select-loop-select
invariant-any_select-loop-select l = any_select_at l.level l.selects ≡ any_select_at l.level (drop l.select-index l.selects)
