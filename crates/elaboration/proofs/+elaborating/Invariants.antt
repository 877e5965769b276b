use Rattle.std.proofs.Common.{◌≡◌, ◌++◌, [], drop, fold, true, ◌&&◌, if◌then◌else◌, Some, None}
use Rattle.away_typing.specs.Kinds.{fits}
use Rattle.away_values.specs.declared.types.Ty.TheVariants.{Boolean}
use Rattle.away_typing.specs.Typing.{further}
use Rattle.away_typing.specs.TypingLists.{places}
use Rattle.elaboration.specs.Elaborating.{MadeExpr, MadeSelect, arm_trees, chain_kind, elaborated, frame_made, from_trees, item_kinds, item_trees, key_kinds, key_trees, kinds_of, link_trees, select_trees, tested, trees_of, value_kinds}
use Rattle.elaboration.specs.ElaboratingLists.{arms_in, froms_in, items_in, keys_in, links_in, made_in, selects_in}
use Rattle.elaboration.proofs.+elaborating.Given as goal

-- draft: what was made so far and what is left are the whole
abbrev pub invariant-elaborating::made_links-loop-link : goal.invariant-elaborating::made_links-loop-link
invariant-elaborating::made_links-loop-link l =
    let rest = links_in (places l.p) l.k (drop l.link-index l.links) in
    (l.done ++ link_trees rest ≡ link_trees (links_in (places l.p) l.fn.first l.links))
    × (chain_kind rest l.k ≡ chain_kind (links_in (places l.p) l.fn.first l.links) l.fn.first)

abbrev pub invariant-elaborating::made_all-loop-e : goal.invariant-elaborating::made_all-loop-e
invariant-elaborating::made_all-loop-e l =
    (l.kinds ++ kinds_of (made_in (places l.p) (drop l.e-index l.es)) ≡ kinds_of (made_in (places l.p) l.es))
    × (l.done ++ trees_of (made_in (places l.p) (drop l.e-index l.es)) ≡ trees_of (made_in (places l.p) l.es))

abbrev pub invariant-elaborating::made_arms-loop-arm : goal.invariant-elaborating::made_arms-loop-arm
invariant-elaborating::made_arms-loop-arm l =
    let rest = arms_in (places l.p) (drop l.arm-index l.arms) in
    let whole = arms_in (places l.p) l.arms in
    (tested whole ≡ fold (λ all (arm : MadeExpr × MadeExpr). all && fits Boolean arm.0.kind) l.all rest)
    × (l.kinds ++ value_kinds rest ≡ value_kinds whole)
    × (l.done ++ arm_trees rest ≡ arm_trees whole)

abbrev pub invariant-elaborating_queries::elaborated_selects-loop-select : goal.invariant-elaborating_queries::elaborated_selects-loop-select
invariant-elaborating_queries::elaborated_selects-loop-select l =
    let rest = selects_in (places l.p) (drop l.select-index l.selects) in
    let whole = selects_in (places l.p) l.selects in
    (fold (λ ks (s : MadeSelect). further ks s.kinds) None whole ≡ fold (λ ks (s : MadeSelect). further ks s.kinds) l.kinds rest)
    × (l.done ++ select_trees rest ≡ select_trees whole)

abbrev pub invariant-elaborating_queries::made_items-loop-item : goal.invariant-elaborating_queries::made_items-loop-item
invariant-elaborating_queries::made_items-loop-item l =
    (l.kinds ++ item_kinds (items_in (places l.p) (drop l.item-index l.list)) ≡ item_kinds (items_in (places l.p) l.list))
    × (l.done ++ item_trees (items_in (places l.p) (drop l.item-index l.list)) ≡ item_trees (items_in (places l.p) l.list))

abbrev pub invariant-elaborating_queries::made_keys-loop-key : goal.invariant-elaborating_queries::made_keys-loop-key
invariant-elaborating_queries::made_keys-loop-key l =
    (l.kinds ++ key_kinds (keys_in (places l.p) (drop l.key-index l.keys)) ≡ key_kinds (keys_in (places l.p) l.keys))
    × (l.done ++ key_trees (keys_in (places l.p) (drop l.key-index l.keys)) ≡ key_trees (keys_in (places l.p) l.keys))

abbrev pub invariant-elaborating_queries::made_froms-loop-f : goal.invariant-elaborating_queries::made_froms-loop-f
invariant-elaborating_queries::made_froms-loop-f l =
    let rest = froms_in (places l.p) (drop l.f-index l.from) l.frame in
    ((if l.whole then frame_made rest l.frame else None) ≡ frame_made (froms_in (places l.p) l.from []) [])
    × (l.done ++ from_trees rest ≡ from_trees (froms_in (places l.p) l.from []))
