-- The calls in an expression, by its parts.
use Rattle.std.proofs.Common.{◌≡◌, refl, ap, ◌∙◌, ℕ, ℤ, Bool, List, [], ◌∷◌, ◌++◌, Option, Some, None, append_assoc}
use Rattle.std.specs.Prelude.{bytes_eq}
use Rattle.away_values.specs.declared.types.Ty.{Ty}
use Rattle.away_values.specs.declared.operators.ChainOp.{ChainOp}
use Rattle.away_values.specs.declared.operators.CmpOp.{CmpOp}
use Rattle.away_values.specs.declared.operators.IsTest.{IsTest}
use Rattle.away_trees.specs.declared.queries.Col.{Col}
use Rattle.away_trees.specs.declared.queries.Expr.{Expr}
use Rattle.away_trees.specs.declared.queries.Expr.TheBlock as b
use Rattle.away_trees.specs.declared.queries.Expr.TheVariants as expr
use Rattle.away_trees.specs.declared.queries.Item.{Item}
use Rattle.away_trees.specs.declared.queries.Query.{Query}
use Rattle.away_names.specs.Lookups.{Name}
use Rattle.moved_names.specs.Words.{exprs_in}
use Rattle.inline_calls.specs.Parting.{Calls, Parted, whole, over, then_with, called, part, part_all, part_links, part_arms, part_other, parted, parted_all, parted_links, parted_arms, parted_arm, parted_maybe, parted_item, parted_items}

-- ---- lists

all_are : (f : Name) (es : List Expr) (cs : Calls) → part_all f (b.hidden-the_row-Expr-2 es) cs ≡ parted_all f es cs
unfolding b.hidden-the_row-Expr-2 denote.Hole.Carrier.hidden parted
all_are f [] cs = refl
all_are f (x ∷ xs) cs = ap (over (λ ys. (part f x cs).it ∷ ys)) (all_are f xs (part f x cs).calls)

links_are : (f : Name) (ls : List (ChainOp × Expr)) (cs : Calls) → part_links f (b.hidden-the_row-Expr-Chain-1-2-1 ls) cs ≡ parted_links f ls cs
unfolding b.hidden-the_row-Expr-Chain-1-2-1 denote.Hole.Carrier.hidden parted
links_are f [] cs = refl
links_are f (l ∷ ls) cs = ap (over (λ ys. (l.0, (part f l.1 cs).it) ∷ ys)) (links_are f ls (part f l.1 cs).calls)

arms_are : (f : Name) (xs : List (Expr × Expr)) (cs : Calls) → part_arms f (b.hidden-the_row-Expr-Cases-0-2-3 xs) cs ≡ parted_arms f xs cs
unfolding b.hidden-the_row-Expr-Cases-0-2-3 denote.Hole.Carrier.hidden parted
arms_are f [] cs = refl
arms_are f (a ∷ xs) cs = ap (over (λ ys. (parted_arm f a cs).it ∷ ys)) (arms_are f xs (parted_arm f a cs).calls)

exprs_are : (es : List Expr) → exprs_in (b.hidden-the_row-Expr-2 es) ≡ es
unfolding b.hidden-the_row-Expr-2 denote.Hole.Carrier.hidden
exprs_are [] = refl
exprs_are (x ∷ xs) = ap (λ ys. x ∷ ys) (exprs_are xs)

-- ---- leaves

pub int_is : (f : Name) (x : ℤ) (cs : Calls) → parted f (expr.Int x) cs ≡ whole (expr.Int x) cs
unfolding parted
int_is f x cs = refl

pub str_is : (f : Name) (x : List ℕ) (cs : Calls) → parted f (expr.Str x) cs ≡ whole (expr.Str x) cs
unfolding parted
str_is f x cs = refl

pub bool_is : (f : Name) (x : Bool) (cs : Calls) → parted f (expr.Bool x) cs ≡ whole (expr.Bool x) cs
unfolding parted
bool_is f x cs = refl

pub null_is : (f : Name) (cs : Calls) → parted f expr.Null cs ≡ whole expr.Null cs
unfolding parted
null_is f cs = refl

pub named_is : (f : Name) (x : Name) (cs : Calls) → parted f (expr.Named x) cs ≡ whole (expr.Named x) cs
unfolding parted
named_is f x cs = refl

pub dotted_is : (f : Name) (a x : Name) (cs : Calls) → parted f (expr.Dotted a x) cs ≡ whole (expr.Dotted a x) cs
unfolding parted
dotted_is f a x cs = refl

pub slot_is : (f : Name) (i : ℕ) (cs : Calls) → parted f (expr.Slot i) cs ≡ whole (expr.Slot i) cs
unfolding parted
slot_is f i cs = refl

pub column_is : (f : Name) (c : Col) (cs : Calls) → parted f (expr.Column c) cs ≡ whole (expr.Column c) cs
unfolding parted
column_is f c cs = refl

pub param_is : (f : Name) (i : ℕ) (t : Ty) (cs : Calls) → parted f (expr.Param i t) cs ≡ whole (expr.Param i t) cs
unfolding parted
param_is f i t cs = refl

pub count_rows_is : (f : Name) (cs : Calls) → parted f expr.CountRows cs ≡ whole expr.CountRows cs
unfolding parted
count_rows_is f cs = refl

pub scalar_is : (f : Name) (q : Query) (cs : Calls) → parted f (expr.Scalar q) cs ≡ whole (expr.Scalar q) cs
unfolding parted
scalar_is f q cs = refl

pub exists_is : (f : Name) (q : Query) (cs : Calls) → parted f (expr.Exists q) cs ≡ whole (expr.Exists q) cs
unfolding parted
exists_is f q cs = refl

-- ---- one part

pub neg_is : (f : Name) (x : Expr) (cs : Calls) → parted f (expr.Neg x) cs ≡ over (λ y. expr.Neg y) (parted f x cs)
unfolding parted b.hidden-the_row-Expr-2 denote.Hole.Carrier.hidden
neg_is f x cs = refl

pub neg_small_is : (f : Name) (x : Expr) (cs : Calls) → parted f (expr.NegSmall x) cs ≡ over (λ y. expr.NegSmall y) (parted f x cs)
unfolding parted b.hidden-the_row-Expr-2 denote.Hole.Carrier.hidden
neg_small_is f x cs = refl

pub not_is : (f : Name) (x : Expr) (cs : Calls) → parted f (expr.Not x) cs ≡ over (λ y. expr.Not y) (parted f x cs)
unfolding parted b.hidden-the_row-Expr-2 denote.Hole.Carrier.hidden
not_is f x cs = refl

pub is_is : (f : Name) (x : Expr) (t : IsTest) (v : Bool) (cs : Calls) → parted f (expr.Is x t v) cs ≡ over (λ y. expr.Is y t v) (parted f x cs)
unfolding parted b.hidden-the_row-Expr-2 denote.Hole.Carrier.hidden
is_is f x t v cs = refl

pub cast_is : (f : Name) (x : Expr) (t : Ty) (cs : Calls) → parted f (expr.Cast x t) cs ≡ over (λ y. expr.Cast y t) (parted f x cs)
unfolding parted b.hidden-the_row-Expr-2 denote.Hole.Carrier.hidden
cast_is f x t cs = refl

-- ---- several parts

pub compare_is : (f : Name) (op : CmpOp) (x y : Expr) (cs : Calls) → parted f (expr.Compare op x y) cs ≡ then_with (λ a b. expr.Compare op a b) (parted f x cs) (λ ds. parted f y ds)
unfolding parted b.hidden-the_row-Expr-2 denote.Hole.Carrier.hidden
compare_is f op x y cs = refl

pub between_is : (f : Name) (v : Bool) (x y z : Expr) (cs : Calls) → parted f (expr.Between v x y z) cs ≡ then_with (λ (a : Expr) (r : Expr × Expr). expr.Between v a r.0 r.1) (parted f x cs) (λ ds. then_with (λ a b. (a, b)) (parted f y ds) (λ es. parted f z es))
unfolding parted b.hidden-the_row-Expr-2 denote.Hole.Carrier.hidden
between_is f v x y z cs = refl

pub chain_is : (f : Name) (x : Expr) (ls : List (ChainOp × Expr)) (cs : Calls) → parted f (expr.Chain x ls) cs ≡ then_with (λ a xs. expr.Chain a xs) (parted f x cs) (λ ds. parted_links f ls ds)
unfolding parted b.hidden-the_row-Expr-2 denote.Hole.Carrier.hidden
chain_is f x ls cs = ap (over (λ xs. expr.Chain (part f x cs).it xs)) (links_are f ls (part f x cs).calls)

pub one_of_is : (f : Name) (v : Bool) (x : Expr) (es : List Expr) (cs : Calls) → parted f (expr.OneOf v x es) cs ≡ then_with (λ a xs. expr.OneOf v a xs) (parted f x cs) (λ ds. parted_all f es ds)
unfolding parted b.hidden-the_row-Expr-2 denote.Hole.Carrier.hidden
one_of_is f v x es cs = ap (over (λ xs. expr.OneOf v (part f x cs).it xs)) (all_are f es (part f x cs).calls)

maybe_is : (f : Name) (xs : List (Expr × Expr)) (o : Option Expr) (cs : Calls) → parted f (expr.Cases xs o) cs ≡ then_with (λ as_ y. expr.Cases as_ y) (parted_arms f xs cs) (λ ds. parted_maybe f o ds)
unfolding parted b.hidden-the_row-Expr-2 denote.Hole.Carrier.hidden
maybe_is f xs None cs = ap (λ (p : Parted (List (Expr × Expr))). over (λ y. expr.Cases p.it y) (whole None p.calls)) (arms_are f xs cs)
maybe_is f xs (Some e) cs = ap (λ (p : Parted (List (Expr × Expr))). over (λ y. expr.Cases p.it (Some y)) (part f e p.calls)) (arms_are f xs cs)

pub cases_is : (f : Name) (xs : List (Expr × Expr)) (o : Option Expr) (cs : Calls) → parted f (expr.Cases xs o) cs ≡ then_with (λ as_ y. expr.Cases as_ y) (parted_arms f xs cs) (λ ds. parted_maybe f o ds)
cases_is = maybe_is

pub call_is : (f : Name) (name : Name) (es : List Expr) (cs : Calls) → parted f (expr.Call name es) cs ≡ called (bytes_eq name f) es (over (λ xs. expr.Call name xs) (parted_all f es cs)) cs
unfolding parted
call_is f name es cs =
    ap (λ xs. called (bytes_eq name f) xs (over (λ ys. expr.Call name ys) (part_all f (b.hidden-the_row-Expr-2 es) cs)) cs) (exprs_are es)
    ∙ ap (λ (p : Parted (List Expr)). called (bytes_eq name f) es (over (λ ys. expr.Call name ys) p) cs) (all_are f es cs)

pub ruleset leaf_rules = (int_is, str_is, bool_is, null_is, named_is, dotted_is, slot_is, column_is, param_is, count_rows_is, scalar_is, exists_is)

pub ruleset part_rules = (neg_is, neg_small_is, not_is, is_is, cast_is)

pub ruleset parts_rules = (compare_is, between_is, chain_is, one_of_is, cases_is)

-- ---- one more of a list

pub one_more_expr : (f : Name) (done : List Expr) (e x : Expr) (rest : List Expr) (cs ds : Calls) → record { it = x; calls = ds } ≡ parted f e cs
    → over (λ ys. (done ++ x ∷ []) ++ ys) (parted_all f rest ds) ≡ over (λ ys. done ++ ys) (parted_all f (e ∷ rest) cs)
one_more_expr f done e x rest cs ds h =
    (λ i. record { it = append_assoc done (x ∷ []) (parted_all f rest ds).it i; calls = (parted_all f rest ds).calls })
    ∙ ap (λ (p : Parted Expr). over (λ ys. done ++ p.it ∷ ys) (parted_all f rest p.calls)) h

pub one_more_link : (f : Name) (done : List (ChainOp × Expr)) (l : ChainOp × Expr) (x : Expr) (rest : List (ChainOp × Expr)) (cs ds : Calls) → record { it = x; calls = ds } ≡ parted f l.1 cs
    → over (λ ys. (done ++ (l.0, x) ∷ []) ++ ys) (parted_links f rest ds) ≡ over (λ ys. done ++ ys) (parted_links f (l ∷ rest) cs)
one_more_link f done l x rest cs ds h =
    (λ i. record { it = append_assoc done ((l.0, x) ∷ []) (parted_links f rest ds).it i; calls = (parted_links f rest ds).calls })
    ∙ ap (λ (p : Parted Expr). over (λ ys. done ++ (l.0, p.it) ∷ ys) (parted_links f rest p.calls)) h

pub one_more_arm : (f : Name) (done : List (Expr × Expr)) (a : Expr × Expr) (x y : Expr) (rest : List (Expr × Expr)) (cs ds es : Calls)
    → record { it = x; calls = ds } ≡ parted f a.0 cs → record { it = y; calls = es } ≡ parted f a.1 ds
    → over (λ ys. (done ++ (x, y) ∷ []) ++ ys) (parted_arms f rest es) ≡ over (λ ys. done ++ ys) (parted_arms f (a ∷ rest) cs)
one_more_arm f done a x y rest cs ds es h k =
    (λ i. record { it = append_assoc done ((x, y) ∷ []) (parted_arms f rest es).it i; calls = (parted_arms f rest es).calls })
    ∙ (ap (λ (p : Parted Expr). over (λ ys. done ++ (x, p.it) ∷ ys) (parted_arms f rest p.calls)) k
    ∙ ap (λ (p : Parted Expr). over (λ ys. done ++ (p.it, (parted f a.1 p.calls).it) ∷ ys) (parted_arms f rest (parted f a.1 p.calls).calls)) h)

pub one_more_item : (f : Name) (done : List Item) (e x : Item) (rest : List Item) (cs ds : Calls) → record { it = x; calls = ds } ≡ parted_item f e cs
    → over (λ ys. (done ++ x ∷ []) ++ ys) (parted_items f rest ds) ≡ over (λ ys. done ++ ys) (parted_items f (e ∷ rest) cs)
one_more_item f done e x rest cs ds h =
    (λ i. record { it = append_assoc done (x ∷ []) (parted_items f rest ds).it i; calls = (parted_items f rest ds).calls })
    ∙ ap (λ (p : Parted Item). over (λ ys. done ++ p.it ∷ ys) (parted_items f rest p.calls)) h
