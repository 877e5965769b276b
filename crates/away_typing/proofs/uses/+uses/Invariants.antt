use Rattle.std.proofs.Common.{◌≡◌, drop, fold}
use Rattle.away_trees.specs.declared.queries.Expr.TheViews.{out-Item, out-Key, out-FromItem}
use Rattle.away_typing.specs.Aggregates.{either}
use Rattle.away_typing.specs.Trees.{uses_of, uses_of_source, uses_of_select}
use Rattle.away_typing.specs.UsesLists.{all_used, links_used, links_used_after, arms_used, arms_used_after, items_used, keys_used, from_used, selects_used}
use Rattle.away_typing.proofs.uses.+uses.Given as goal

abbrev pub invariant-all_used-loop-e : goal.invariant-all_used-loop-e
invariant-all_used-loop-e l = all_used l.es ≡ fold (λ u e. either u (uses_of e)) l.u (drop l.e-index l.es)

abbrev pub invariant-links_used-loop-link : goal.invariant-links_used-loop-link
invariant-links_used-loop-link l = links_used l.links ≡ links_used_after l.u (drop l.link-index l.links)

abbrev pub invariant-arms_used-loop-arm : goal.invariant-arms_used-loop-arm
invariant-arms_used-loop-arm l = arms_used l.arms ≡ arms_used_after l.u (drop l.arm-index l.arms)

abbrev pub invariant-items_used-loop-item : goal.invariant-items_used-loop-item
invariant-items_used-loop-item l = items_used l.list ≡ fold (λ u item. either u (uses_of (out-Item item).expr)) l.u (drop l.item-index l.list)

abbrev pub invariant-keys_used-loop-key : goal.invariant-keys_used-loop-key
invariant-keys_used-loop-key l = keys_used l.keys ≡ fold (λ u key. either u (uses_of (out-Key key).expr)) l.u (drop l.key-index l.keys)

abbrev pub invariant-from_used-loop-f : goal.invariant-from_used-loop-f
invariant-from_used-loop-f l = from_used l.from ≡ fold (λ u f. either u (uses_of_source (out-FromItem f).source)) l.u (drop l.f-index l.from)

abbrev pub invariant-selects_used-loop-select : goal.invariant-selects_used-loop-select
invariant-selects_used-loop-select l = selects_used l.selects ≡ fold (λ u select. either u (uses_of_select select)) l.u (drop l.select-index l.selects)
