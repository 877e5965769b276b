-- The cells of a row, with one more at their end.
use Rattle.std.proofs.Common.{◌≡◌, refl, ap, sym, ◌∙◌, subst, ℕ, zero, suc, ◌+◌, List, [], ◌∷◌, ◌++◌, map, length, take, Option, ◌<◌, arith, append_assoc}
use Rattle.std.proofs.lemmas.List.{map-append}
use Rattle.away_trees.specs.declared.queries.Expr.{Expr}
use Rattle.away_trees.specs.declared.queries.Item.{Item}
use Rattle.away_values.specs.declared.types.Ty.{Ty}
use Rattle.call_forms.specs.Scopes.{Scope}
use Rattle.sql_meaning.specs.Template.{below}
use Rattle.sql_meaning.specs.Trees.{col, item}
use Rattle.cte_template.specs.Making.{Making}
use Rattle.cte_template.specs.Places.{beside}
use Rattle.cte_template.specs.CarriedWalks.{carried_at}
use Rattle.cte_template.specs.Written.{cell, cells_at, argument, arguments_at}
use Rattle.cte_template.specs.declared.places.ItemColumn.{ItemColumn}
use Rattle.cte_parts.proofs.Lists.{one_more_below}

cells_end : (i depth : ℕ) (places : Scope ItemColumn) (keys args : List ℕ) (ts : List Ty) (t : Ty)
    → cells_at i depth places keys args (ts ++ (t ∷ [])) ≡ cells_at i depth places keys args ts ++ (cell depth places t (beside keys args (i + length ts)) ∷ [])
cells_end i depth places keys args [] t =
    let here : i ≡ i + 0 = omega arith in
    ap (λ k. cell depth places t (beside keys args k) ∷ []) here
cells_end i depth places keys args (u ∷ ts) t =
    let next : suc i + length ts ≡ i + length (u ∷ ts) = omega arith in
    ap (λ xs. cell depth places u (beside keys args i) ∷ xs) (cells_end (suc i) depth places keys args ts t ∙ ap (λ k. cells_at (suc i) depth places keys args ts ++ (cell depth places t (beside keys args k) ∷ [])) next)

arguments_end : (m : Making) (i : ℕ) (keys params : List ℕ) (ts : List Ty) (t : Ty)
    → arguments_at m i keys params (ts ++ (t ∷ [])) ≡ arguments_at m i keys params ts ++ (argument m t (beside keys params (i + length ts)) ∷ [])
arguments_end m i keys params [] t =
    let here : i ≡ i + 0 = omega arith in
    ap (λ k. argument m t (beside keys params k) ∷ []) here
arguments_end m i keys params (u ∷ ts) t =
    let next : suc i + length ts ≡ i + length (u ∷ ts) = omega arith in
    ap (λ xs. argument m u (beside keys params i) ∷ xs) (arguments_end m (suc i) keys params ts t ∙ ap (λ k. arguments_at m (suc i) keys params ts ++ (argument m t (beside keys params k) ∷ [])) next)

-- one more item behind those of a list
pub grown : (before : List Item) (es fs : List Expr) (e : Expr) → fs ≡ es ++ (e ∷ []) → (before ++ map item es) ++ (item e ∷ []) ≡ before ++ map item fs
grown before es fs e h =
    append_assoc before (map item es) (item e ∷ []) ∙ ap (λ xs. before ++ xs) (sym (map-append item es (e ∷ []))) ∙ ap (λ xs. before ++ map item xs) (sym h)

pub one_more_cell : (before list : List Item) (depth : ℕ) (places : Scope ItemColumn) (keys args : List ℕ) (i k : ℕ) (ts us : List Ty) (t : Ty) (e : Expr)
    → list ≡ before ++ map item (cells_at 0 depth places keys args ts) → us ≡ ts ++ (t ∷ []) → length ts ≡ i → k ≡ i → e ≡ cell depth places t (beside keys args k)
    → list ++ (item e ∷ []) ≡ before ++ map item (cells_at 0 depth places keys args us)
one_more_cell before list depth places keys args i k ts us t e h step long here is =
    let counted : 0 + length ts ≡ k = omega (arith, long, here) in
    (λ j. h j ++ (item (is j) ∷ []))
    ∙ grown before (cells_at 0 depth places keys args ts) (cells_at 0 depth places keys args us) (cell depth places t (beside keys args k))
    (ap (λ xs. cells_at 0 depth places keys args xs) step ∙ (cells_end 0 depth places keys args ts t ∙ ap (λ n. cells_at 0 depth places keys args ts ++ (cell depth places t (beside keys args n) ∷ [])) counted))

pub one_more_argument : (m : Making) (before list : List Item) (keys params : List ℕ) (i k : ℕ) (ts us : List Ty) (t : Ty) (e : Expr)
    → list ≡ before ++ map item (arguments_at m 0 keys params ts) → us ≡ ts ++ (t ∷ []) → length ts ≡ i → k ≡ i → e ≡ argument m t (beside keys params k)
    → list ++ (item e ∷ []) ≡ before ++ map item (arguments_at m 0 keys params us)
one_more_argument m before list keys params i k ts us t e h step long here is =
    let counted : 0 + length ts ≡ k = omega (arith, long, here) in
    (λ j. h j ++ (item (is j) ∷ []))
    ∙ grown before (arguments_at m 0 keys params ts) (arguments_at m 0 keys params us) (argument m t (beside keys params k))
    (ap (λ xs. arguments_at m 0 keys params xs) step ∙ (arguments_end m 0 keys params ts t ∙ ap (λ n. arguments_at m 0 keys params ts ++ (argument m t (beside keys params n) ∷ [])) counted))

carried_end : (depth place : ℕ) (ts : List Ty) (t : Ty) → carried_at depth place (ts ++ (t ∷ [])) ≡ carried_at depth place ts ++ (col depth 0 (place + length ts) ∷ [])
carried_end depth place [] t =
    let here : place ≡ place + 0 = omega arith in
    ap (λ k. col depth 0 k ∷ []) here
carried_end depth place (u ∷ ts) t =
    let next : suc place + length ts ≡ place + length (u ∷ ts) = omega arith in
    ap (λ xs. col depth 0 place ∷ xs) (carried_end depth (suc place) ts t ∙ ap (λ k. carried_at depth (suc place) ts ++ (col depth 0 k ∷ [])) next)

pub one_more_carried : (before list : List Item) (depth level i k : ℕ) (ts us : List Ty) (t : Ty) (e : Expr)
    → list ≡ before ++ map item (carried_at depth 2 ts) → us ≡ ts ++ (t ∷ []) → length ts ≡ i → level ≡ depth → k ≡ i + 2 → e ≡ col level 0 k
    → list ++ (item e ∷ []) ≡ before ++ map item (carried_at depth 2 us)
one_more_carried before list depth level i k ts us t e h step long same here is =
    let counted : 2 + length ts ≡ k = omega (arith, long, here) in
    (λ j. h j ++ (item ((is ∙ ap (λ l. col l 0 k) same) j) ∷ []))
    ∙ grown before (carried_at depth 2 ts) (carried_at depth 2 us) (col depth 0 k)
    (ap (λ xs. carried_at depth 2 xs) step ∙ (carried_end depth 2 ts t ∙ ap (λ n. carried_at depth 2 ts ++ (col depth 0 n ∷ [])) counted))

-- one more column of an item
pub one_more_of : (n i : ℕ) → map item (map (col 0 n) (below (i + 1))) ≡ map item (map (col 0 n) (below i)) ++ (item (col 0 n i) ∷ [])
one_more_of n i =
    ap (λ xs. map item (map (col 0 n) xs)) (one_more_below i)
    ∙ (ap (map item) (map-append (col 0 n) (below i) (i ∷ [])) ∙ map-append item (map (col 0 n) (below i)) (col 0 n i ∷ []))

pub taken : {X : Type 0} (xs : List X) (i : ℕ) → i < length xs → length (take i xs) ≡ i
taken [] i h = absurd (omega (arith, h))
taken (x ∷ xs) zero h = refl
taken (x ∷ xs) (suc i) h = ap suc (taken xs i (omega (arith, h)))
