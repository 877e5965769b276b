use Rattle.std.proofs.Common.{◌≡◌, ◌∙◌, ap, sym, rules, ℕ, ◌+◌, ◌<◌, List, [], ◌∷◌, ◌++◌, length, get_or, drop, map, append_assoc}
use Rattle.std.proofs.lemmas.List.{drop_more}
use Rattle.away_typing.specs.Wholes.{types_in}
use Rattle.away_typing.proofs.recursion.column_types.Goals as goal

-- one more member under a function
step : {X Y : Type 0} (f : X → Y) (list : List X) (i : ℕ) (x : X) (all new : List Y) (y : Y) →
    i < length list → x ≡ get_or list i x → new ≡ all ++ y ∷ [] → y ≡ f x → all ++ map f (drop i list) ≡ map f list →
    new ++ map f (drop (i + 1) list) ≡ map f list
step f list i x all new y lt is pushed value h =
    ap (λ ys. ys ++ map f (drop (i + 1) list)) pushed
    ∙ append_assoc all (y ∷ []) (map f (drop (i + 1) list))
    ∙ ap (λ z. all ++ (z ∷ map f (drop (i + 1) list))) value
    ∙ ap (λ zs. all ++ map f zs) (ap (λ z. z ∷ drop (i + 1) list) is ∙ sym (drop_more list i x lt))
    ∙ h

pub loop-t-preserved : goal.loop-t-preserved
loop-t-preserved c =
    step types_in c.as_slice-list.result.now c.loop-t.t-index c.t-item.result c.loop-t.all c.push.new.self c.in_ok-types_in.field-0
    (search (rules, c.loop-t-test.true)) (search (rules, c.t-item.is)) (search rules) (search (rules, c.in_ok-types_in.ensures)) c.loop-t.invariant
