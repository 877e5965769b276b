-- The cells of a row of a table, with one more at their end.
use Rattle.std.proofs.Common.{◌≡◌, ap, sym, ◌∙◌, ℕ, suc, ◌+◌, List, [], ◌∷◌, ◌++◌, map, length, Option, arith, append_assoc}
use Rattle.std.proofs.lemmas.List.{map-append}
use Rattle.away_trees.specs.declared.queries.Expr.{Expr}
use Rattle.away_trees.specs.declared.queries.Item.{Item}
use Rattle.away_values.specs.declared.types.Ty.{Ty}
use Rattle.sql_meaning.specs.Trees.{item}
use Rattle.cte_template.specs.Places.{beside}
use Rattle.cte_template.specs.Starts.{parameter, parameters_at}
use Rattle.cte_template.proofs.CellRules.{grown}

parameters_end : (i : ℕ) (keys params : List ℕ) (ts : List Ty) (t : Ty)
    → parameters_at i keys params (ts ++ (t ∷ [])) ≡ parameters_at i keys params ts ++ (parameter t (beside keys params (i + length ts)) ∷ [])
parameters_end i keys params [] t =
    let here : i ≡ i + 0 = omega arith in
    ap (λ k. parameter t (beside keys params k) ∷ []) here
parameters_end i keys params (u ∷ ts) t =
    let next : suc i + length ts ≡ i + length (u ∷ ts) = omega arith in
    ap (λ xs. parameter u (beside keys params i) ∷ xs) (parameters_end (suc i) keys params ts t ∙ ap (λ k. parameters_at (suc i) keys params ts ++ (parameter t (beside keys params k) ∷ [])) next)

pub one_more_parameter : (before list : List Item) (keys params : List ℕ) (i k : ℕ) (ts us : List Ty) (t : Ty) (e : Expr)
    → list ≡ before ++ map item (parameters_at 0 keys params ts) → us ≡ ts ++ (t ∷ []) → length ts ≡ i → k ≡ i → e ≡ parameter t (beside keys params k)
    → list ++ (item e ∷ []) ≡ before ++ map item (parameters_at 0 keys params us)
one_more_parameter before list keys params i k ts us t e h step long here is =
    let counted : 0 + length ts ≡ k = omega (arith, long, here) in
    (λ j. h j ++ (item (is j) ∷ []))
    ∙ grown before (parameters_at 0 keys params ts) (parameters_at 0 keys params us) (parameter t (beside keys params k))
    (ap (λ xs. parameters_at 0 keys params xs) step ∙ (parameters_end 0 keys params ts t ∙ ap (λ n. parameters_at 0 keys params ts ++ (parameter t (beside keys params n) ∷ [])) counted))
