-- What an expression calls, by the one name of a function.
use Rattle.std.proofs.Common.{◌≡◌, refl, sym, ap, ◌∙◌, Bool, true, false, List, [], ◌∷◌, Option, Some, None, is_some, bytes_eq, if◌then◌else◌}
use Rattle.std.proofs.lemmas.Bool.{false≢true}
use Rattle.away_values.specs.declared.types.Ty.{Ty}
use Rattle.away_trees.specs.declared.queries.Expr.{Expr}
use Rattle.away_trees.specs.declared.queries.Expr.TheBlock as b
use Rattle.away_trees.specs.declared.queries.Expr.TheVariants as expr
use Rattle.away_names.specs.Lookups.{Name}
use Rattle.call_meaning.specs.Calls.{Called, callee, call_of, called_among, called_at, exprs_in, place_among}
use Rattle.call_answers.specs.Walking.{calls}

exprs_are : (es : List Expr) → exprs_in (b.hidden-the_row-Expr-2 es) ≡ es
unfolding b.hidden-the_row-Expr-2 denote.Hole.Carrier.hidden
exprs_are [] = refl
exprs_are (x ∷ xs) = ap (λ ys. x ∷ ys) (exprs_are xs)

call_rule : (name called : Name) (args : List Expr) → callee (name ∷ []) (expr.Call called args) ≡ called_at None args (if bytes_eq name called then Some 0 else None)
call_rule name called args = ap (λ xs. called_at None xs (place_among (name ∷ []) called)) (exprs_are args)

pub calls_itself_rule : (name called : Name) (args as_ : List Expr) (e : Expr) → e ≡ expr.Call called args → bytes_eq name called ≡ true → as_ ≡ args → callee (name ∷ []) e ≡ Some (record { conversion = None; part = 0; args = as_ })
calls_itself_rule name called args as_ e is h same =
    ap (callee (name ∷ [])) is ∙ (call_rule name called args ∙ (ap (λ b. called_at None args (if b then Some 0 else None)) h ∙ ap (λ xs. called_at None xs (Some 0)) (sym same)))

pub calls_nobody_rule : (name called : Name) (args : List Expr) (e : Expr) → e ≡ expr.Call called args → bytes_eq name called ≡ false → callee (name ∷ []) e ≡ None
calls_nobody_rule name called args e is h = ap (callee (name ∷ [])) is ∙ (call_rule name called args ∙ ap (λ b. called_at None args (if b then Some 0 else None)) h)

no_call : (o : Option (Name × List Expr)) (name : Name) (t : Option Ty) → is_some (called_among (name ∷ []) None o) ≡ false → called_among (name ∷ []) t o ≡ None
no_call None name t h = refl
no_call (Some c) name t h = go (bytes_eq name c.0) h
  where
    go : (x : Bool) → is_some (called_at None c.1 (if x then Some 0 else None)) ≡ false → called_at t c.1 (if x then Some 0 else None) ≡ None
    go true h = absurd (false≢true (sym h))
    go false h = refl

pub cast_rule : (name : Name) (inner e : Expr) (t : Ty) → e ≡ expr.Cast inner t → calls name inner ≡ false → callee (name ∷ []) e ≡ None
unfolding b.hidden-the_row-Expr-0 denote.Hole.Carrier.hidden
cast_rule name inner e t is h = ap (callee (name ∷ [])) is ∙ no_call (call_of inner) name (Some t) h

-- ---- by the names of several

pub called_call_rule : (names : List Name) (t : Option Ty) (name : Name) (args as_ : List Expr) (e : Expr) (r : Option Called) → e ≡ expr.Call name args → as_ ≡ args → r ≡ called_among names t (Some (name, as_)) → r ≡ called_among names t (call_of e)
called_call_rule names t name args as_ e r is same h =
    h ∙ (ap (λ xs. called_among names t (Some (name, xs))) (same ∙ sym (exprs_are args)) ∙ ap (λ x. called_among names t (call_of x)) (sym is))

pub part_call_rule : (names : List Name) (name : Name) (args as_ : List Expr) (e : Expr) (r : Option Called) → e ≡ expr.Call name args → as_ ≡ args → r ≡ called_among names None (Some (name, as_)) → r ≡ callee names e
part_call_rule names name args as_ e r is same h =
    h ∙ (ap (λ xs. called_among names None (Some (name, xs))) (same ∙ sym (exprs_are args)) ∙ ap (callee names) (sym is))

pub part_cast_rule : (names : List Name) (inner x e : Expr) (t : Ty) (r : Option Called) → e ≡ expr.Cast inner t → x ≡ inner → r ≡ called_among names (Some t) (call_of x) → r ≡ callee names e
unfolding b.hidden-the_row-Expr-0 denote.Hole.Carrier.hidden
part_cast_rule names inner x e t r is same h =
    h ∙ (ap (λ y. called_among names (Some t) (call_of y)) same ∙ ap (callee names) (sym is))
