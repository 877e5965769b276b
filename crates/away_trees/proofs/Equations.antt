-- What the recursion over the trees gives at a node, by what it gives at the parts.
use Rattle.std.proofs.Common.{◌≡◌, refl, ℕ, ℤ, Bool, List, [], ◌∷◌, map, Option, Some, None, ap, sym, ◌∙◌, option_map}
use Rattle.away_values.specs.declared.types.Ty.{Ty}
use Rattle.away_trees.specs.declared.queries.Col.{Col}
use Rattle.away_values.specs.declared.operators.ChainOp.{ChainOp}
use Rattle.away_values.specs.declared.operators.CmpOp.{CmpOp}
use Rattle.away_values.specs.declared.operators.IsTest.{IsTest}
use Rattle.away_trees.specs.declared.queries.Expr.{Expr}
use Rattle.away_trees.specs.declared.queries.Expr.TheVariants as expr
use Rattle.away_trees.specs.declared.queries.Source.TheVariants as source
use Rattle.away_trees.specs.declared.queries.FromItem.{FromItem}
use Rattle.away_trees.specs.declared.queries.Item.{Item}
use Rattle.away_trees.specs.declared.queries.Key.{Key}
use Rattle.away_trees.specs.declared.queries.Select.{Select}
use Rattle.away_trees.specs.declared.queries.Recursive.{Recursive}
use Rattle.away_trees.specs.declared.queries.Query.{Query}
use Rattle.away_trees.specs.declared.queries.Expr.TheOpen as ex
use Rattle.away_trees.specs.declared.queries.Expr.TheBlock as b
use Rattle.away_trees.specs.declared.queries.Expr.TheViews as view
use Rattle.away_trees.specs.declared.queries.Expr.TheViews.{roll-Item, roll-FromItem, roll-Select, roll-Recursive, roll-Query}
use Rattle.away_trees.specs.Algebra.{Algebra, expr_of, exprs_of, links_of, arms_of, selects_of, select_of, items_of, froms_of, keys_of, item_of, from_of, key_of, source_of, recursive_of, query_of}

exprs_are : (a : Algebra) (xs : List Expr) → exprs_of a (b.hidden-the_row-Expr-2 xs) ≡ map (λ x. expr_of a x) xs
unfolding b.hidden-the_row-Expr-2 denote.Hole.Carrier.hidden
exprs_are a [] = refl
exprs_are a (x ∷ xs) = ap (λ ys. (expr_of a x) ∷ ys) (exprs_are a xs)

selects_are : (a : Algebra) (xs : List Select) → selects_of a (b.hidden-the_row-Select-5 xs) ≡ map (λ x. select_of a x) xs
unfolding b.hidden-the_row-Select-5 denote.Hole.Carrier.hidden
selects_are a [] = refl
selects_are a (x ∷ xs) = ap (λ ys. (select_of a x) ∷ ys) (selects_are a xs)

items_are : (a : Algebra) (xs : List Item) → items_of a (b.hidden-the_row-Item-6 xs) ≡ map (λ x. item_of a x) xs
unfolding b.hidden-the_row-Item-6 denote.Hole.Carrier.hidden
items_are a [] = refl
items_are a (x ∷ xs) = ap (λ ys. (item_of a x) ∷ ys) (items_are a xs)

froms_are : (a : Algebra) (xs : List FromItem) → froms_of a (b.hidden-the_row-FromItem-7 xs) ≡ map (λ x. from_of a x) xs
unfolding b.hidden-the_row-FromItem-7 denote.Hole.Carrier.hidden
froms_are a [] = refl
froms_are a (x ∷ xs) = ap (λ ys. (from_of a x) ∷ ys) (froms_are a xs)

keys_are : (a : Algebra) (xs : List Key) → keys_of a (b.hidden-the_row-Key-8 xs) ≡ map (λ x. key_of a x) xs
unfolding b.hidden-the_row-Key-8 denote.Hole.Carrier.hidden
keys_are a [] = refl
keys_are a (x ∷ xs) = ap (λ ys. (key_of a x) ∷ ys) (keys_are a xs)

abbrev pub link_of : (a : Algebra) → ChainOp × Expr → ChainOp × a.AnExpr
link_of a l = (l.0, expr_of a l.1)

abbrev pub arm_of : (a : Algebra) → Expr × Expr → a.AnExpr × a.AnExpr
arm_of a x = (expr_of a x.0, expr_of a x.1)

links_are : (a : Algebra) (xs : List (ChainOp × Expr)) → links_of a (b.hidden-the_row-Expr-Chain-1-2-1 xs) ≡ map (λ x. link_of a x) xs
unfolding b.hidden-the_row-Expr-Chain-1-2-1 denote.Hole.Carrier.hidden
links_are a [] = refl
links_are a (x ∷ xs) = ap (λ ys. link_of a x ∷ ys) (links_are a xs)

arms_are : (a : Algebra) (xs : List (Expr × Expr)) → arms_of a (b.hidden-the_row-Expr-Cases-0-2-3 xs) ≡ map (λ x. arm_of a x) xs
unfolding b.hidden-the_row-Expr-Cases-0-2-3 denote.Hole.Carrier.hidden
arms_are a [] = refl
arms_are a (x ∷ xs) = ap (λ ys. arm_of a x ∷ ys) (arms_are a xs)

pub of_int : (a : Algebra) (n : ℤ) → expr_of a (expr.Int n) ≡ a.expr (ex.Int n)
of_int a n = refl

pub of_bool : (a : Algebra) (v : Bool) → expr_of a (expr.Bool v) ≡ a.expr (ex.Bool v)
of_bool a v = refl

pub of_null : (a : Algebra) → expr_of a (expr.Null) ≡ a.expr (ex.Null)
of_null a = refl

pub of_str : (a : Algebra) (t : List ℕ) → expr_of a (expr.Str t) ≡ a.expr (ex.Str t)
of_str a t = refl

pub of_named : (a : Algebra) (t : List ℕ) → expr_of a (expr.Named t) ≡ a.expr (ex.Named t)
of_named a t = refl

pub of_qualified : (a : Algebra) (t : List ℕ) (c : List ℕ) → expr_of a (expr.Dotted t c) ≡ a.expr (ex.Dotted t c)
of_qualified a t c = refl

pub of_slot : (a : Algebra) (i : ℕ) → expr_of a (expr.Slot i) ≡ a.expr (ex.Slot i)
of_slot a i = refl

pub of_column : (a : Algebra) (c : Col) → expr_of a (expr.Column c) ≡ a.expr (ex.Column c)
of_column a c = refl

pub of_param : (a : Algebra) (i : ℕ) (t : Ty) → expr_of a (expr.Param i t) ≡ a.expr (ex.Param i t)
of_param a i t = refl

pub of_countrows : (a : Algebra) → expr_of a (expr.CountRows) ≡ a.expr (ex.CountRows)
of_countrows a = refl

pub of_neg : (a : Algebra) (e : Expr) → expr_of a (expr.Neg e) ≡ a.expr (ex.Neg (expr_of a e))
unfolding b.hidden-the_row-Expr-0 denote.Hole.Carrier.hidden
of_neg a e = refl

pub of_negsmall : (a : Algebra) (e : Expr) → expr_of a (expr.NegSmall e) ≡ a.expr (ex.NegSmall (expr_of a e))
unfolding b.hidden-the_row-Expr-0 denote.Hole.Carrier.hidden
of_negsmall a e = refl

pub of_not : (a : Algebra) (e : Expr) → expr_of a (expr.Not e) ≡ a.expr (ex.Not (expr_of a e))
unfolding b.hidden-the_row-Expr-0 denote.Hole.Carrier.hidden
of_not a e = refl

pub of_is : (a : Algebra) (e : Expr) (t : IsTest) (v : Bool) → expr_of a (expr.Is e t v) ≡ a.expr (ex.Is (expr_of a e) t v)
unfolding b.hidden-the_row-Expr-0 denote.Hole.Carrier.hidden
of_is a e t v = refl

pub of_chain : (a : Algebra) (e : Expr) (links : List (ChainOp × Expr)) → expr_of a (expr.Chain e links) ≡ a.expr (ex.Chain (expr_of a e) (map (λ x. link_of a x) links))
unfolding b.hidden-the_row-Expr-0 denote.Hole.Carrier.hidden
of_chain a e links = ap (λ xs. a.expr (ex.Chain (expr_of a e) xs)) (links_are a links)

pub of_compare : (a : Algebra) (op : CmpOp) (x : Expr) (y : Expr) → expr_of a (expr.Compare op x y) ≡ a.expr (ex.Compare op (expr_of a x) (expr_of a y))
unfolding b.hidden-the_row-Expr-0 denote.Hole.Carrier.hidden
of_compare a op x y = refl

pub of_between : (a : Algebra) (v : Bool) (x : Expr) (y : Expr) (z : Expr) → expr_of a (expr.Between v x y z) ≡ a.expr (ex.Between v (expr_of a x) (expr_of a y) (expr_of a z))
unfolding b.hidden-the_row-Expr-0 denote.Hole.Carrier.hidden
of_between a v x y z = refl

pub of_oneof : (a : Algebra) (v : Bool) (e : Expr) (es : List Expr) → expr_of a (expr.OneOf v e es) ≡ a.expr (ex.OneOf v (expr_of a e) (map (λ x. expr_of a x) es))
unfolding b.hidden-the_row-Expr-0 denote.Hole.Carrier.hidden
of_oneof a v e es = ap (λ xs. a.expr (ex.OneOf v (expr_of a e) xs)) (exprs_are a es)

pub of_cast : (a : Algebra) (e : Expr) (t : Ty) → expr_of a (expr.Cast e t) ≡ a.expr (ex.Cast (expr_of a e) t)
unfolding b.hidden-the_row-Expr-0 denote.Hole.Carrier.hidden
of_cast a e t = refl

pub of_cases : (a : Algebra) (arms : List (Expr × Expr)) (other : Option Expr) → expr_of a (expr.Cases arms other) ≡ a.expr (ex.Cases (map (λ x. arm_of a x) arms) (option_map (λ e. expr_of a e) other))
unfolding b.hidden-the_row-Expr-0 denote.Hole.Carrier.hidden
of_cases a arms None = ap (λ xs. a.expr (ex.Cases xs None)) (arms_are a arms)
of_cases a arms (Some e) = ap (λ xs. a.expr (ex.Cases xs (Some (expr_of a e)))) (arms_are a arms)

pub of_call : (a : Algebra) (name : List ℕ) (es : List Expr) → expr_of a (expr.Call name es) ≡ a.expr (ex.Call name (map (λ x. expr_of a x) es))
unfolding b.hidden-the_row-Expr-0 denote.Hole.Carrier.hidden
of_call a name es = ap (λ xs. a.expr (ex.Call name xs)) (exprs_are a es)

pub of_scalar : (a : Algebra) (q : Query) → expr_of a (expr.Scalar q) ≡ a.expr (ex.Scalar (query_of a q))
unfolding b.hidden-the_row-Query-4 denote.Hole.Carrier.hidden
of_scalar a q = refl

pub of_exists : (a : Algebra) (q : Query) → expr_of a (expr.Exists q) ≡ a.expr (ex.Exists (query_of a q))
unfolding b.hidden-the_row-Query-4 denote.Hole.Carrier.hidden
of_exists a q = refl

pub of_table : (a : Algebra) (name : List ℕ) → source_of a (source.Table name) ≡ a.source (ex.Table name)
of_table a name = refl

pub of_sub : (a : Algebra) (q : Query) (lateral : Bool) → source_of a (source.Sub q lateral) ≡ a.source (ex.Sub (query_of a q) lateral)
unfolding b.hidden-the_row-Query-4 denote.Hole.Carrier.hidden
of_sub a q lateral = refl

pub of_select : (a : Algebra) (list : List Item) (from : List FromItem) (filter : Option Expr) (order : List Key) (limit : Option Expr) →
    select_of a (roll-Select (record { list = list; from = from; filter = filter; order = order; limit = limit })) ≡ a.select (record { list = map (λ x. item_of a x) list; from = map (λ x. from_of a x) from; filter = option_map (λ e. expr_of a e) filter; order = map (λ x. key_of a x) order; limit = option_map (λ e. expr_of a e) limit })
unfolding roll-Select denote.Hole.Carrier.roll
of_select a list from None order None = λ i. a.select (record { list = items_are a list i; from = froms_are a from i; filter = None; order = keys_are a order i; limit = None })
of_select a list from None order (Some m) = λ i. a.select (record { list = items_are a list i; from = froms_are a from i; filter = None; order = keys_are a order i; limit = Some (expr_of a m) })
of_select a list from (Some c) order None = λ i. a.select (record { list = items_are a list i; from = froms_are a from i; filter = Some (expr_of a c); order = keys_are a order i; limit = None })
of_select a list from (Some c) order (Some m) = λ i. a.select (record { list = items_are a list i; from = froms_are a from i; filter = Some (expr_of a c); order = keys_are a order i; limit = Some (expr_of a m) })

pub of_recursive : (a : Algebra) (name : List ℕ) (columns : List (List ℕ)) (first : List Select) (second : Select) →
    recursive_of a (roll-Recursive (record { name = name; columns = columns; first = first; second = second })) ≡ a.recursive (record { name = name; columns = columns; first = map (λ x. select_of a x) first; second = select_of a second })
unfolding roll-Recursive denote.Hole.Carrier.roll
of_recursive a name columns first second = ap (λ xs. a.recursive (record { name = name; columns = columns; first = xs; second = select_of a second })) (selects_are a first)

pub of_query : (a : Algebra) (selects : List Select) →
    query_of a (roll-Query (record { recursive = None; selects = selects })) ≡ a.query (record { recursive = None; selects = map (λ x. select_of a x) selects })
unfolding roll-Query denote.Hole.Carrier.roll
of_query a selects = ap (λ xs. a.query (record { recursive = None; selects = xs })) (selects_are a selects)

pub of_with : (a : Algebra) (r : Recursive) (selects : List Select) →
    query_of a (roll-Query (record { recursive = Some r; selects = selects })) ≡ a.query (record { recursive = Some (recursive_of a r); selects = map (λ x. select_of a x) selects })
unfolding roll-Query denote.Hole.Carrier.roll
of_with a r selects = ap (λ xs. a.query (record { recursive = Some (recursive_of a r); selects = xs })) (selects_are a selects)

pub query_roll : (a : Algebra) (r : Option Recursive) (selects : List Select) →
    query_of a (roll-Query (record { recursive = r; selects = selects })) ≡ a.query (record { recursive = option_map (λ r. recursive_of a r) r; selects = map (λ x. select_of a x) selects })
query_roll a None selects = of_query a selects
query_roll a (Some r) selects = of_with a r selects

-- ---- the same of a struct by its fields

pub query_is : (a : Algebra) (q : Query) → query_of a q ≡ a.query (record { recursive = option_map (λ r. recursive_of a r) (view.out-Query q).recursive; selects = map (λ x. select_of a x) (view.out-Query q).selects })
query_is a q = ap (query_of a) (sym (view.roll-out-Query q)) ∙ query_roll a (view.out-Query q).recursive (view.out-Query q).selects

pub select_is : (a : Algebra) (s : Select) → select_of a s ≡ a.select (record { list = map (λ x. item_of a x) (view.out-Select s).list; from = map (λ x. from_of a x) (view.out-Select s).from; filter = option_map (λ e. expr_of a e) (view.out-Select s).filter; order = map (λ x. key_of a x) (view.out-Select s).order; limit = option_map (λ e. expr_of a e) (view.out-Select s).limit })
select_is a s = ap (select_of a) (sym (view.roll-out-Select s)) ∙ of_select a (view.out-Select s).list (view.out-Select s).from (view.out-Select s).filter (view.out-Select s).order (view.out-Select s).limit
