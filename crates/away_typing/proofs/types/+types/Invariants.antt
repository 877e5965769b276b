use Rattle.std.proofs.Common.{◌≡◌, ◌++◌, [], drop, fold, true, ◌&&◌}
use Rattle.away_values.specs.declared.types.Ty.TheVariants.{Boolean}
use Rattle.away_typing.specs.Kinds.{fits}
use Rattle.away_typing.specs.Trees.{kind_of, kinds_of_select}
use Rattle.away_typing.specs.Typing.{further}
use Rattle.away_typing.specs.TypingLists.{places, chain_kind, kinds_in, values_in, tested_in, item_kinds, key_kinds, framed_in, united_in}
use Rattle.away_typing.proofs.types.+types.Given as goal

abbrev pub invariant-chained-loop-link : goal.invariant-chained-loop-link
invariant-chained-loop-link l = chain_kind (places l.p) l.links l.fn.first ≡ chain_kind (places l.p) (drop l.link-index l.links) l.k

abbrev pub invariant-tested-loop-arm : goal.invariant-tested-loop-arm
invariant-tested-loop-arm l = tested_in (places l.p) l.arms ≡ fold (λ all arm. all && fits Boolean (kind_of arm.0 (places l.p))) l.all (drop l.arm-index l.arms)

abbrev pub invariant-framed-loop-f : goal.invariant-framed-loop-f
invariant-framed-loop-f l = framed_in (places l.p) l.from [] ≡ framed_in (places l.p) (drop l.f-index l.from) l.frame

abbrev pub invariant-union-loop-select : goal.invariant-union-loop-select
invariant-union-loop-select l = united_in (places l.p) l.selects ≡ fold (λ ks s. further ks (kinds_of_select s (places l.p))) l.kinds (drop l.select-index l.selects)

abbrev pub invariant-kinds-loop-e : goal.invariant-kinds-loop-e
invariant-kinds-loop-e l = l.done ++ kinds_in (places l.p) (drop l.e-index l.es) ≡ kinds_in (places l.p) l.es

abbrev pub invariant-values-loop-arm : goal.invariant-values-loop-arm
invariant-values-loop-arm l = l.done ++ values_in (places l.p) (drop l.arm-index l.arms) ≡ values_in (places l.p) l.arms

abbrev pub invariant-item_kinds-loop-item : goal.invariant-item_kinds-loop-item
invariant-item_kinds-loop-item l = l.done ++ item_kinds (places l.p) (drop l.item-index l.list) ≡ item_kinds (places l.p) l.list

abbrev pub invariant-key_kinds-loop-key : goal.invariant-key_kinds-loop-key
invariant-key_kinds-loop-key l = l.done ++ key_kinds (places l.p) (drop l.key-index l.keys) ≡ key_kinds (places l.p) l.keys
