-- What a call as a whole calls.
use Rattle.std.proofs.Common.{◌≡◌, refl, sym, ap, ◌∙◌, true, false, List, [], ◌∷◌, Option, Some, None, bytes_eq, if◌then◌else◌, is_some}
use Rattle.std.proofs.lemmas.Bool.{false≢true}
use Rattle.away_trees.specs.declared.queries.Expr.{Expr}
use Rattle.away_trees.specs.declared.queries.Expr.TheBlock as b
use Rattle.away_trees.specs.declared.queries.Expr.TheVariants as expr
use Rattle.away_trees.specs.declared.statements.Function.{Function}
use Rattle.away_names.specs.declared.function.Known.{Known}
use Rattle.away_names.specs.Functions.{function}
use Rattle.away_names.specs.Lookups.{Name}
use Rattle.call_meaning.specs.Calls.{called_at, exprs_in, place_among}
use Rattle.call_expand.specs.Expanding.{call_place}
use Rattle.call_expand.specs.Untailing.{self_names}

exprs_are : (es : List Expr) → exprs_in (b.hidden-the_row-Expr-2 es) ≡ es
unfolding b.hidden-the_row-Expr-2 denote.Hole.Carrier.hidden
exprs_are [] = refl
exprs_are (x ∷ xs) = ap (λ ys. x ∷ ys) (exprs_are xs)

-- a call calls the first function that has the name
pub call_rule : (names : List Name) (name : Name) (args : List Expr) → call_place names (expr.Call name args) ≡ called_at None args (place_among names name)
call_rule names name args = ap (λ xs. called_at None xs (place_among names name)) (exprs_are args)

-- ---- calls of the function itself

own_name : (f : Function) (o : Option Known) → o ≡ function f.name → is_some o ≡ false → self_names f ≡ f.name ∷ []
own_name f None e n = ap (λ o. if is_some o then [] else f.name ∷ []) (sym e)
own_name f (Some k) e n = absurd (false≢true (sym n))

pub self_called : (f : Function) (name : Name) (args : List Expr) (o : Option Known) → o ≡ function f.name → is_some o ≡ false → bytes_eq f.name name ≡ true
    → call_place (self_names f) (expr.Call name args) ≡ called_at None args (Some 0)
self_called f name args o e n same =
    ap (λ names. call_place names (expr.Call name args)) (own_name f o e n) ∙ (call_rule (f.name ∷ []) name args ∙ ap (λ b. called_at None args (if b then Some 0 else None)) same)
