use Rattle.std.proofs.Common.{◌≡◌, drop, fold}
use Rattle.away_typing.specs.ParameterLists.{with_expr, with_link, with_arm, with_item, with_key, with_part, with_select}
use Rattle.away_typing.proofs.parameters.+params.Given as goal

abbrev pub invariant-with_all-loop-e : goal.invariant-with_all-loop-e
invariant-with_all-loop-e l = fold with_expr l.fn.p l.es ≡ fold with_expr l.found (drop l.e-index l.es)

abbrev pub invariant-with_links-loop-link : goal.invariant-with_links-loop-link
invariant-with_links-loop-link l = fold with_link l.fn.p l.links ≡ fold with_link l.found (drop l.link-index l.links)

abbrev pub invariant-with_arms-loop-arm : goal.invariant-with_arms-loop-arm
invariant-with_arms-loop-arm l = fold with_arm l.fn.p l.arms ≡ fold with_arm l.found (drop l.arm-index l.arms)

abbrev pub invariant-with_items-loop-item : goal.invariant-with_items-loop-item
invariant-with_items-loop-item l = fold with_item l.fn.p l.items ≡ fold with_item l.found (drop l.item-index l.items)

abbrev pub invariant-with_keys-loop-key : goal.invariant-with_keys-loop-key
invariant-with_keys-loop-key l = fold with_key l.fn.p l.keys ≡ fold with_key l.found (drop l.key-index l.keys)

abbrev pub invariant-with_parts-loop-part : goal.invariant-with_parts-loop-part
invariant-with_parts-loop-part l = fold with_part l.fn.p l.parts ≡ fold with_part l.found (drop l.part-index l.parts)

abbrev pub invariant-with_selects-loop-select : goal.invariant-with_selects-loop-select
invariant-with_selects-loop-select l = fold with_select l.fn.p l.selects ≡ fold with_select l.found (drop l.select-index l.selects)
