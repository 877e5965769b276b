-- The first rows of the calls, along the loops that build them.
use Rattle.std.proofs.Common.{◌≡◌, ℕ, zero, suc, ◌+◌, ◌<◌, ◌≤◌, if◌then◌else◌, List, [], ◌∷◌, ◌++◌, length, map, drop, get_or, Bool, true, false, Option, Some, None, refl, sym, ap, ◌∙◌, arith, append_assoc}
use Rattle.std.specs.Prelude.{nat_eq, slice_get}
use Rattle.std.proofs.lemmas.List.{append-nil, drop_more, map-append}
use Rattle.std.proofs.lemmas.Option.{same_Some}
use Rattle.away_trees.specs.declared.queries.Expr.{Expr}
use Rattle.away_trees.specs.declared.queries.Expr.TheVariants as expr
use Rattle.away_trees.specs.declared.queries.Item.{Item}
use Rattle.away_values.specs.declared.types.Ty.{Ty}
use Rattle.call_forms.specs.Scopes.{paired}
use Rattle.cte_template.specs.Places.{beside}
use Rattle.sql_meaning.specs.Trees.{item, null_of}
use Rattle.inline_law.specs.Written.{argument_cells, cast_arguments}
use Rattle.inline_calls.specs.Tree.{cell, cells}

-- ---- what stands beside a key

dropped : {X : Type 0} (xs : List X) (i : ℕ) → length xs ≤ i → drop i xs ≡ []
dropped [] zero h = refl
dropped [] (suc i) h = refl
dropped (x ∷ xs) zero h = absurd (omega (arith, h))
dropped (x ∷ xs) (suc i) h = dropped xs i (omega (arith, h))

none_beside : (names : List ℕ) (n : ℕ) → beside [] names n ≡ None
unfolding beside
none_beside names n = refl

no_names : (keys : List ℕ) (n : ℕ) → beside keys [] n ≡ None
unfolding beside
no_names [] n = refl
no_names (k ∷ keys) n = refl

beside_first : (k : ℕ) (keys : List ℕ) (m : ℕ) (names : List ℕ) (n : ℕ) → beside (k ∷ keys) (m ∷ names) n ≡ (if nat_eq k n then Some m else beside keys names n)
unfolding beside
beside_first k keys m names n = refl

pub beside_short : (keys names : List ℕ) (n i : ℕ) → length names ≤ i → beside (drop i keys) (drop i names) n ≡ None
beside_short keys names n i h = ap (λ zs. beside (drop i keys) zs n) (dropped names i h) ∙ no_names (drop i keys) n

pub beside_end : (keys names : List ℕ) (n i : ℕ) → length keys ≤ i → beside (drop i keys) (drop i names) n ≡ None
beside_end keys names n i h = ap (λ zs. beside zs (drop i names) n) (dropped keys i h) ∙ none_beside (drop i names) n

at_place : (xs : List ℕ) (i : ℕ) → i < length xs → drop i xs ≡ get_or xs i 0 ∷ drop (i + 1) xs
at_place [] i h = absurd (omega (arith, h))
at_place (x ∷ xs) zero h = refl
at_place (x ∷ xs) (suc i) h =
    let more : suc i + 1 ≡ suc (i + 1) = omega arith in
    at_place xs i (omega (arith, h)) ∙ ap (λ n. get_or xs i 0 ∷ drop n (x ∷ xs)) (sym more)

pub beside_step : (keys names : List ℕ) (n i : ℕ) → i < length keys → i < length names
    → beside (drop i keys) (drop i names) n ≡ (if nat_eq (get_or keys i 0) n then Some (get_or names i 0) else beside (drop (i + 1) keys) (drop (i + 1) names) n)
beside_step keys names n i g h =
    (λ z. beside (at_place keys i g z) (at_place names i h z) n) ∙ beside_first (get_or keys i 0) (drop (i + 1) keys) (get_or names i 0) (drop (i + 1) names) n

pub ruleset beside_rules = (beside_short, beside_end, beside_step)

-- ---- the places of a label

pub found_or : (keys : List (List ℕ)) (l : ℕ) (k : List ℕ) → slice_get keys l ≡ Some k → get_or keys l [] ≡ k
found_or [] l k h = absurd (cc)
found_or (x ∷ keys) zero k h = same_Some x k h
found_or (x ∷ keys) (suc l) k h = found_or keys l k h

pub missed_or : (keys : List (List ℕ)) (l : ℕ) → slice_get keys l ≡ None → get_or keys l [] ≡ []
missed_or [] l h = refl
missed_or (x ∷ keys) zero h = absurd (cc)
missed_or (x ∷ keys) (suc l) h = missed_or keys l h

pub ruleset places_rules = (found_or, missed_or)

-- ---- an argument by its place

pub argument_found : (es : List Expr) (l : ℕ) (e : Expr) → slice_get es l ≡ Some e → get_or es l expr.Null ≡ e
argument_found [] l e h = absurd (cc)
argument_found (x ∷ es) zero e h = same_Some x e h
argument_found (x ∷ es) (suc l) e h = argument_found es l e h

pub argument_missed : (es : List Expr) (l : ℕ) → slice_get es l ≡ None → get_or es l expr.Null ≡ expr.Null
argument_missed [] l h = refl
argument_missed (x ∷ es) zero h = absurd (cc)
argument_missed (x ∷ es) (suc l) h = argument_missed es l h

pub ruleset argument_rules = (argument_found, argument_missed)

-- ---- arguments under casts

cast_end : (ts : List Ty) → cast_arguments ts [] ≡ []
cast_end [] = refl
cast_end (t ∷ ts) = refl

pub cast_done : (done all : List Expr) (left : List Ty) (es : List Expr) (i : ℕ) → length es ≤ i → done ++ cast_arguments left (drop i es) ≡ all → done ≡ all
cast_done done all left es i h whole =
    sym (ap (λ xs. done ++ cast_arguments left xs) (dropped es i h) ∙ (ap (λ xs. done ++ xs) (cast_end left) ∙ append-nil done)) ∙ whole

-- ---- cells

-- one more item before those that are left
pub one_more : (list new rest : List Item) (e : Expr) (es : List Expr) → new ≡ list ++ (item e ∷ []) → rest ≡ list ++ map item (e ∷ es) → new ++ map item es ≡ rest
one_more list new rest e es grown whole = ap (λ xs. xs ++ map item es) grown ∙ (append_assoc list (item e ∷ []) (map item es) ∙ sym whole)

pub cells_step : (es : List Expr) (keys params : List ℕ) (ts : List Ty) (i k : ℕ) (d : Ty) (e : Expr) → i < length ts → k ≡ i → e ≡ cell es (get_or ts i d) (beside keys params k)
    → cells es i keys params (drop i ts) ≡ e ∷ cells es (i + 1) keys params (drop (i + 1) ts)
cells_step es keys params ts i k d e h same is =
    let next : suc i ≡ i + 1 = omega arith in
    ap (cells es i keys params) (drop_more ts i d h)
    ∙ ((λ z. cell es (get_or ts i d) (beside keys params (sym same z)) ∷ cells es (next z) keys params (drop (i + 1) ts)) ∙ ap (λ x. x ∷ cells es (i + 1) keys params (drop (i + 1) ts)) (sym is))

pub one_more_cell : (list new rest : List Item) (es : List Expr) (keys params : List ℕ) (ts : List Ty) (i k : ℕ) (d : Ty) (e : Expr) → new ≡ list ++ (item e ∷ []) → i < length ts → k ≡ i
    → e ≡ cell es (get_or ts i d) (beside keys params k) → list ++ map item (cells es i keys params (drop i ts)) ≡ rest → new ++ map item (cells es (i + 1) keys params (drop (i + 1) ts)) ≡ rest
one_more_cell list new rest es keys params ts i k d e grown h same is whole =
    one_more list new rest e (cells es (i + 1) keys params (drop (i + 1) ts)) grown (sym whole ∙ ap (λ xs. list ++ map item xs) (cells_step es keys params ts i k d e h same is))

-- the cells are those of the law
cell_if : (es : List Expr) (t : Ty) (p : ℕ) (o : Option ℕ) (e : Expr) (b : Bool) → cell es t o ≡ e → cell es t (if b then Some p else o) ≡ (if b then get_or es p expr.Null else e)
cell_if es t p o e true h = refl
cell_if es t p o e false h = h

cell_is : (es : List Expr) (t : Ty) (keys params : List ℕ) (n : ℕ) → cell es t (beside keys params n) ≡ paired (λ p. get_or es p expr.Null) (null_of t) keys params n
cell_is es t [] params n = ap (cell es t) (none_beside params n)
cell_is es t (k ∷ keys) [] n = ap (cell es t) (no_names (k ∷ keys) n)
cell_is es t (k ∷ keys) (p ∷ params) n =
    ap (cell es t) (beside_first k keys p params n)
    ∙ cell_if es t p (beside keys params n) (paired (λ q. get_or es q expr.Null) (null_of t) keys params n) (nat_eq k n) (cell_is es t keys params n)

pub cells_are : (es : List Expr) (i : ℕ) (keys params : List ℕ) (ts : List Ty) → cells es i keys params ts ≡ argument_cells es i keys params ts
cells_are es i keys params [] = refl
cells_are es i keys params (t ∷ ts) = λ z. cell_is es t keys params i z ∷ cells_are es (suc i) keys params ts z

-- ---- the row

-- the list with all that is added
pub row_is : (go label number : Expr) (cast cells more : List Expr) (no_result no_fault : Expr) → cells ≡ more
    → (((((((item go ∷ []) ++ (item label ∷ [])) ++ (item number ∷ [])) ++ map item cast) ++ map item cells) ++ (item no_result ∷ [])) ++ (item no_fault ∷ []))
    ≡ map item (go ∷ label ∷ number ∷ cast ++ (more ++ (no_result ∷ no_fault ∷ [])))
row_is go label number cast cells more no_result no_fault same =
    let front : List Item = item go ∷ item label ∷ item number ∷ [] in
    let last : List Item = item no_result ∷ item no_fault ∷ [] in
    append_assoc ((front ++ map item cast) ++ map item cells) (item no_result ∷ []) (item no_fault ∷ [])
    ∙ (append_assoc (front ++ map item cast) (map item cells) last
    ∙ (append_assoc front (map item cast) (map item cells ++ last)
    ∙ (ap (λ xs. front ++ (map item cast ++ (map item xs ++ last))) same
    ∙ sym (ap (λ xs. front ++ xs) (map-append item cast (more ++ (no_result ∷ no_fault ∷ [])) ∙ ap (λ xs. map item cast ++ xs) (map-append item more (no_result ∷ no_fault ∷ [])))))))

-- one item more at the end of each list
pub row_of_steps : (at begun labelled numbered passed placed told : List Item) (go label number no_result no_fault : Expr) (cast cells more : List Expr)
    → at ≡ item go ∷ [] → begun ≡ at ++ (item label ∷ []) → labelled ≡ begun ++ (item number ∷ []) → numbered ≡ labelled ++ map item cast → passed ≡ numbered ++ map item cells
    → placed ≡ passed ++ (item no_result ∷ []) → told ≡ placed ++ (item no_fault ∷ []) → cells ≡ more
    → told ≡ map item (go ∷ label ∷ number ∷ cast ++ (more ++ (no_result ∷ no_fault ∷ [])))
row_of_steps at begun labelled numbered passed placed told go label number no_result no_fault cast cells more first second third fourth fifth sixth seventh same =
    let upto_number : labelled ≡ item go ∷ item label ∷ item number ∷ [] = third ∙ ap (λ xs. xs ++ (item number ∷ [])) (second ∙ ap (λ xs. xs ++ (item label ∷ [])) first) in
    seventh
    ∙ (ap (λ xs. xs ++ (item no_fault ∷ [])) (sixth ∙ ap (λ xs. xs ++ (item no_result ∷ [])) (fifth ∙ ap (λ xs. xs ++ map item cells) (fourth ∙ ap (λ xs. xs ++ map item cast) upto_number)))
    ∙ row_is go label number cast cells more no_result no_fault same)
