use Rattle.std.proofs.Common.{◌≡◌, ◌++◌, drop, map}
use Rattle.moved_names.specs.Renamed.{moving, renamed_expr, renamed_link, renamed_arm, renamed_item, renamed_key, renamed_part, renamed_select}
use Rattle.moved_names.proofs.+renaming.Given as goal

abbrev pub invariant-renaming::renamed_all-loop-e : goal.invariant-renaming::renamed_all-loop-e
invariant-renaming::renamed_all-loop-e l = l.done ++ map (renamed_expr (moving l.s)) (drop l.e-index l.es) ≡ map (renamed_expr (moving l.s)) l.es

abbrev pub invariant-renaming::renamed_links-loop-link : goal.invariant-renaming::renamed_links-loop-link
invariant-renaming::renamed_links-loop-link l = l.done ++ map (renamed_link (moving l.s)) (drop l.link-index l.links) ≡ map (renamed_link (moving l.s)) l.links

abbrev pub invariant-renaming::renamed_arms-loop-arm : goal.invariant-renaming::renamed_arms-loop-arm
invariant-renaming::renamed_arms-loop-arm l = l.done ++ map (renamed_arm (moving l.s)) (drop l.arm-index l.arms) ≡ map (renamed_arm (moving l.s)) l.arms

abbrev pub invariant-renaming_queries::renamed_items-loop-item : goal.invariant-renaming_queries::renamed_items-loop-item
invariant-renaming_queries::renamed_items-loop-item l = l.done ++ map (renamed_item (moving l.s)) (drop l.item-index l.list) ≡ map (renamed_item (moving l.s)) l.list

abbrev pub invariant-renaming_queries::renamed_keys-loop-key : goal.invariant-renaming_queries::renamed_keys-loop-key
invariant-renaming_queries::renamed_keys-loop-key l = l.done ++ map (renamed_key (moving l.s)) (drop l.key-index l.keys) ≡ map (renamed_key (moving l.s)) l.keys

abbrev pub invariant-renaming_queries::renamed_from-loop-f : goal.invariant-renaming_queries::renamed_from-loop-f
invariant-renaming_queries::renamed_from-loop-f l = l.done ++ map (renamed_part (moving l.s)) (drop l.f-index l.from) ≡ map (renamed_part (moving l.s)) l.from

abbrev pub invariant-renaming_queries::renamed_selects-loop-select : goal.invariant-renaming_queries::renamed_selects-loop-select
invariant-renaming_queries::renamed_selects-loop-select l = l.done ++ map (renamed_select (moving l.s)) (drop l.select-index l.selects) ≡ map (renamed_select (moving l.s)) l.selects
