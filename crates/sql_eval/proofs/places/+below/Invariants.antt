use Rattle.std.proofs.Common.{◌≡◌, drop}
use Rattle.sql_eval.specs.Places.{all_exprs, all_links, all_arms, all_items, all_keys, all_froms, all_selects}
use Rattle.sql_eval.proofs.places.+below.Given as goal

abbrev pub invariant-exprs_below-loop-e : goal.invariant-exprs_below-loop-e
invariant-exprs_below-loop-e l = all_exprs l.n l.list ≡ all_exprs l.n (drop l.e-index l.list)

abbrev pub invariant-links_below-loop-link : goal.invariant-links_below-loop-link
invariant-links_below-loop-link l = all_links l.n l.links ≡ all_links l.n (drop l.link-index l.links)

abbrev pub invariant-arms_below-loop-arm : goal.invariant-arms_below-loop-arm
invariant-arms_below-loop-arm l = all_arms l.n l.arms ≡ all_arms l.n (drop l.arm-index l.arms)

abbrev pub invariant-items_below-loop-item : goal.invariant-items_below-loop-item
invariant-items_below-loop-item l = all_items l.n l.list ≡ all_items l.n (drop l.item-index l.list)

abbrev pub invariant-keys_below-loop-key : goal.invariant-keys_below-loop-key
invariant-keys_below-loop-key l = all_keys l.n l.list ≡ all_keys l.n (drop l.key-index l.list)

abbrev pub invariant-froms_below-loop-item : goal.invariant-froms_below-loop-item
invariant-froms_below-loop-item l = all_froms l.n l.list ≡ all_froms l.n (drop l.item-index l.list)

abbrev pub invariant-selects_below-loop-s : goal.invariant-selects_below-loop-s
invariant-selects_below-loop-s l = all_selects l.n l.list ≡ all_selects l.n (drop l.s-index l.list)
