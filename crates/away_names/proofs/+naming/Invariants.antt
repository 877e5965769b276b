use Rattle.std.proofs.Common.{◌≡◌, drop, fold, map}
use Rattle.away_trees.specs.declared.queries.Expr.TheViews.{out-Item}
use Rattle.away_names.specs.Notes.{added, each}
use Rattle.away_names.specs.Naming.{with_item, with_select, with_part}
use Rattle.away_names.specs.NamingLists.{named_in, named_link, named_arm, named_key_in, named_items, named_selects, named_from}
use Rattle.away_names.specs.Trees.{named_item, named_select, named_part}
use Rattle.away_names.specs.Places.{scope}
use Rattle.away_names.proofs.+naming.Given as goal

abbrev pub invariant-naming::named_all-loop-e : goal.invariant-naming::named_all-loop-e
invariant-naming::named_all-loop-e l =
    each (named_in (scope l.s)) l.es ≡ fold (λ a x. added a (named_in (scope l.s) x)) (record { it = l.done; note = l.note }) (drop l.e-index l.es)

abbrev pub invariant-naming::named_links-loop-link : goal.invariant-naming::named_links-loop-link
invariant-naming::named_links-loop-link l =
    each (named_link (scope l.s)) l.links ≡ fold (λ a x. added a (named_link (scope l.s) x)) (record { it = l.done; note = l.note }) (drop l.link-index l.links)

abbrev pub invariant-naming::named_arms-loop-arm : goal.invariant-naming::named_arms-loop-arm
invariant-naming::named_arms-loop-arm l =
    each (named_arm (scope l.s)) l.arms ≡ fold (λ a x. added a (named_arm (scope l.s) x)) (record { it = l.done; note = l.note }) (drop l.arm-index l.arms)

abbrev pub invariant-naming_queries::named_keys-loop-key : goal.invariant-naming_queries::named_keys-loop-key
invariant-naming_queries::named_keys-loop-key l =
    each (named_key_in (map (λ i. (out-Item i).alias) l.list) (scope l.s)) l.keys ≡ fold (λ a x. added a (named_key_in (map (λ i. (out-Item i).alias) l.list) (scope l.s) x)) (record { it = l.done; note = l.note }) (drop l.key-index l.keys)

abbrev pub invariant-naming_queries::named_items-loop-item : goal.invariant-naming_queries::named_items-loop-item
invariant-naming_queries::named_items-loop-item l = named_items (scope l.s) l.list ≡ fold (λ a i. with_item a (named_item i (scope l.s))) (record { it = record { it = l.done; names = l.names }; note = l.note }) (drop l.item-index l.list)

abbrev pub invariant-naming_queries::named_selects-loop-select : goal.invariant-naming_queries::named_selects-loop-select
invariant-naming_queries::named_selects-loop-select l = named_selects (scope l.s) l.selects ≡ fold (λ a x. with_select a (named_select x (scope l.s))) (record { it = record { it = l.done; names = l.names }; note = l.note }) (drop l.select-index l.selects)

abbrev pub invariant-naming_queries::named_from-loop-f : goal.invariant-naming_queries::named_from-loop-f
invariant-naming_queries::named_from-loop-f l = named_from (scope l.s) l.from ≡ fold (λ a f. with_part a (named_part f (scope l.s) a.it.seen)) (record { it = record { items = l.items; seen = l.seen }; note = l.note }) (drop l.f-index l.from)
