use Rattle.std.proofs.Common.{◌≡◌, ◌++◌, drop, fold, map}
use Rattle.qualified_names.specs.Qualifying.{with_part}
use Rattle.qualified_names.specs.Sight.{sight}
use Rattle.qualified_names.specs.Trees.{qualified_in, qualified_link, qualified_arm, qualified_item, qualified_key, qualified_part, qualified_selects, qualified_from}
use Rattle.qualified_names.proofs.FirstNames.{next}
use Rattle.qualified_names.proofs.+qualifying.Given as goal

abbrev pub invariant-qualifying::qualified_all-loop-e : goal.invariant-qualifying::qualified_all-loop-e
invariant-qualifying::qualified_all-loop-e l = l.done ++ map (qualified_in (sight l.s)) (drop l.e-index l.es) ≡ map (qualified_in (sight l.s)) l.es

abbrev pub invariant-qualifying::qualified_links-loop-link : goal.invariant-qualifying::qualified_links-loop-link
invariant-qualifying::qualified_links-loop-link l = l.done ++ map (qualified_link (sight l.s)) (drop l.link-index l.links) ≡ map (qualified_link (sight l.s)) l.links

abbrev pub invariant-qualifying::qualified_arms-loop-arm : goal.invariant-qualifying::qualified_arms-loop-arm
invariant-qualifying::qualified_arms-loop-arm l = l.done ++ map (qualified_arm (sight l.s)) (drop l.arm-index l.arms) ≡ map (qualified_arm (sight l.s)) l.arms

abbrev pub invariant-qualifying_queries::qualified_keys-loop-key : goal.invariant-qualifying_queries::qualified_keys-loop-key
invariant-qualifying_queries::qualified_keys-loop-key l = l.done ++ map (λ k. qualified_key k (sight l.s)) (drop l.key-index l.keys) ≡ map (λ k. qualified_key k (sight l.s)) l.keys

abbrev pub invariant-qualifying_queries::qualified_items-loop-item : goal.invariant-qualifying_queries::qualified_items-loop-item
invariant-qualifying_queries::qualified_items-loop-item l = record {
  its : l.done ++ map (λ c. c.it) (map (λ i. qualified_item i (sight l.s)) (drop l.item-index l.list)) ≡ map (λ c. c.it) (map (λ i. qualified_item i (sight l.s)) l.list);
  called : l.names ++ map (λ c. c.name) (map (λ i. qualified_item i (sight l.s)) (drop l.item-index l.list)) ≡ map (λ c. c.name) (map (λ i. qualified_item i (sight l.s)) l.list);
}

abbrev pub invariant-qualifying_queries::qualified_selects-loop-select : goal.invariant-qualifying_queries::qualified_selects-loop-select
invariant-qualifying_queries::qualified_selects-loop-select l =
    qualified_selects (sight l.s) l.selects ≡ fold (next (sight l.s)) (record { it = l.done; names = l.names }) (drop l.select-index l.selects)

abbrev pub invariant-qualifying_queries::qualified_from-loop-f : goal.invariant-qualifying_queries::qualified_from-loop-f
invariant-qualifying_queries::qualified_from-loop-f l = qualified_from (sight l.s) l.from ≡ fold (λ a f. with_part a (qualified_part f (sight l.s) a.seen)) (record { items = l.items; seen = l.seen }) (drop l.f-index l.from)
