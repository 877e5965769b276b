-- The arguments of calls, split off a list.
use Rattle.std.proofs.Common.{◌≡◌, ap, sym, ◌∙◌, ℕ, ◌+◌, ◌-◌, List, [], ◌∷◌, ◌++◌, map, take, drop, length, append_assoc}
use Rattle.std.proofs.lemmas.List.{drop-map, length-drop, take-map}
use Rattle.std.proofs.Math.Seq.{take-length}
use Rattle.away_trees.specs.declared.queries.Expr.{Expr}
use Rattle.away_trees.specs.declared.queries.Item.{Item}
use Rattle.inline_calls.specs.Parting.{Calls}
use Rattle.inline_calls.specs.Resolving.{expr_of_item, split}

-- what is left of a list is all that is behind its beginning
behind : (many : ℕ) (left : List Item) → take (length left - many) (drop many left) ≡ drop many left
behind many left = ap (λ n. take n (drop many left)) (sym (length-drop many left)) ∙ take-length (drop many left)

-- the arguments of one call more
pub split_more : (calls : Calls) (i many : ℕ) (es x : List Expr) (list left : List Item) (all next : Calls)
    → drop i calls ≡ es ∷ drop (i + 1) calls → many ≡ length es → x ≡ map expr_of_item (take many left)
    → next ≡ all ++ (x ∷ [])
    → all ++ split (drop i calls) (map expr_of_item left) ≡ split calls (map expr_of_item list)
    → next ++ split (drop (i + 1) calls) (map expr_of_item (take (length left - many) (drop many left))) ≡ split calls (map expr_of_item list)
split_more calls i many es x list left all next at size is added h =
    let cs : Calls = drop (i + 1) calls in
    let items : List Expr = map expr_of_item left in
    let first : x ≡ take (length es) items = is ∙ (sym (take-map expr_of_item many left) ∙ ap (λ n. take n items) size) in
    let rest : map expr_of_item (take (length left - many) (drop many left)) ≡ drop (length es) items =
    ap (map expr_of_item) (behind many left) ∙ (sym (drop-map expr_of_item many left) ∙ ap (λ n. drop n items) size) in
    let after : Calls = split cs (map expr_of_item (take (length left - many) (drop many left))) in
    ap (λ done. done ++ after) added
    ∙ (append_assoc all (x ∷ []) after
    ∙ ((λ j. all ++ (first j ∷ split cs (rest j)))
    ∙ (sym (ap (λ ds. all ++ split ds items) at) ∙ h)))
