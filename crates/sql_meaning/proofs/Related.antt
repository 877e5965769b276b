-- Three algebras whose steps keep a relation give related results on every tree.
use Rattle.std.proofs.Common.{◌≡◌, refl, ℕ, ℤ, Bool, List, [], ◌∷◌, Option, Some, None}
use Rattle.away_values.specs.declared.types.Ty.{Ty}
use Rattle.away_values.specs.declared.operators.ChainOp.{ChainOp}
use Rattle.away_values.specs.declared.operators.CmpOp.{CmpOp}
use Rattle.away_values.specs.declared.operators.IsTest.{IsTest}
use Rattle.away_trees.specs.declared.queries.Col.{Col}
use Rattle.away_trees.specs.declared.queries.Expr.{Expr}
use Rattle.away_trees.specs.declared.queries.Source.{Source}
use Rattle.away_trees.specs.declared.queries.Select.{Select}
use Rattle.away_trees.specs.declared.queries.Recursive.{Recursive}
use Rattle.away_trees.specs.declared.queries.Query.{Query}
use Rattle.away_trees.specs.declared.queries.Expr.TheOpen as ex
use Rattle.away_trees.specs.declared.queries.Expr.TheBlock as b
use Rattle.away_trees.specs.Algebra.{Algebra, head_or, expr_of, exprs_of, links_of, arms_of, other_of, filter_of, items_of, keys_of, source_of, froms_of, select_of, selects_of, recursive_of, with_of, query_of, queries_of}

-- ---- lists whose members correspond

abbrev pub Alike : {A B C : Type 0} → (A → B → C → Type 0) → List A → List B → List C → Type 0
Alike R [] [] [] = Unit {0}
Alike R (x ∷ xs) (y ∷ ys) (z ∷ zs) = R x y z × Alike R xs ys zs
Alike R _ _ _ = ⊥

abbrev pub AlikeOption : {A B C : Type 0} → (A → B → C → Type 0) → Option A → Option B → Option C → Type 0
AlikeOption R None None None = Unit {0}
AlikeOption R (Some x) (Some y) (Some z) = R x y z
AlikeOption R _ _ _ = ⊥

abbrev pub AlikeLink : {A B C : Type 0} → (A → B → C → Type 0) → ChainOp × A → ChainOp × B → ChainOp × C → Type 0
AlikeLink R x y z = (y.0 ≡ x.0) × (z.0 ≡ x.0) × R x.1 y.1 z.1

abbrev pub AlikeArm : {A B C : Type 0} → (A → B → C → Type 0) → A × A → B × B → C × C → Type 0
AlikeArm R x y z = R x.0 y.0 z.0 × R x.1 y.1 z.1

-- ---- the relation, and that the steps keep it

pub record Relation (f g h : Algebra) : Type 1 where
  pub Exprs : f.AnExpr → g.AnExpr → h.AnExpr → Type 0
  pub Sources : f.ASource → g.ASource → h.ASource → Type 0
  pub Froms : f.AFrom → g.AFrom → h.AFrom → Type 0
  pub Items : f.AnItem → g.AnItem → h.AnItem → Type 0
  pub Keys : f.AKey → g.AKey → h.AKey → Type 0
  pub Queries : f.AQuery → g.AQuery → h.AQuery → Type 0
  pub Recursives : f.ARecursive → g.ARecursive → h.ARecursive → Type 0
  pub Selects : f.ASelect → g.ASelect → h.ASelect → Type 0

pub record IsKept (f g h : Algebra) (r : Relation f g h) : Type 0 where
  pub no_expr : r.Exprs f.no_expr g.no_expr h.no_expr
  pub no_query : r.Queries f.no_query g.no_query h.no_query
  pub int : (n : ℤ) → r.Exprs (f.expr (ex.Int n)) (g.expr (ex.Int n)) (h.expr (ex.Int n))
  pub str : (t : List ℕ) → r.Exprs (f.expr (ex.Str t)) (g.expr (ex.Str t)) (h.expr (ex.Str t))
  pub bool : (v : Bool) → r.Exprs (f.expr (ex.Bool v)) (g.expr (ex.Bool v)) (h.expr (ex.Bool v))
  pub null : r.Exprs (f.expr ex.Null) (g.expr ex.Null) (h.expr ex.Null)
  pub named : (t : List ℕ) → r.Exprs (f.expr (ex.Named t)) (g.expr (ex.Named t)) (h.expr (ex.Named t))
  pub qualified : (t s : List ℕ) → r.Exprs (f.expr (ex.Dotted t s)) (g.expr (ex.Dotted t s)) (h.expr (ex.Dotted t s))
  pub slot : (i : ℕ) → r.Exprs (f.expr (ex.Slot i)) (g.expr (ex.Slot i)) (h.expr (ex.Slot i))
  pub column : (c : Col) → r.Exprs (f.expr (ex.Column c)) (g.expr (ex.Column c)) (h.expr (ex.Column c))
  pub param : (i : ℕ) (t : Ty) → r.Exprs (f.expr (ex.Param i t)) (g.expr (ex.Param i t)) (h.expr (ex.Param i t))
  pub neg : (x : f.AnExpr) (y : g.AnExpr) (z : h.AnExpr) → r.Exprs x y z → r.Exprs (f.expr (ex.Neg x)) (g.expr (ex.Neg y)) (h.expr (ex.Neg z))
  pub neg_small : (x : f.AnExpr) (y : g.AnExpr) (z : h.AnExpr) → r.Exprs x y z → r.Exprs (f.expr (ex.NegSmall x)) (g.expr (ex.NegSmall y)) (h.expr (ex.NegSmall z))
  pub not : (x : f.AnExpr) (y : g.AnExpr) (z : h.AnExpr) → r.Exprs x y z → r.Exprs (f.expr (ex.Not x)) (g.expr (ex.Not y)) (h.expr (ex.Not z))
  pub is : (x : f.AnExpr) (y : g.AnExpr) (z : h.AnExpr) (t : IsTest) (v : Bool) → r.Exprs x y z → r.Exprs (f.expr (ex.Is x t v)) (g.expr (ex.Is y t v)) (h.expr (ex.Is z t v))
  pub chain : (x : f.AnExpr) (y : g.AnExpr) (z : h.AnExpr) (xs : List (ChainOp × f.AnExpr)) (ys : List (ChainOp × g.AnExpr)) (zs : List (ChainOp × h.AnExpr)) → r.Exprs x y z → Alike (AlikeLink r.Exprs) xs ys zs → r.Exprs (f.expr (ex.Chain x xs)) (g.expr (ex.Chain y ys)) (h.expr (ex.Chain z zs))
  pub compare : (op : CmpOp) (x₁ x₂ : f.AnExpr) (y₁ y₂ : g.AnExpr) (z₁ z₂ : h.AnExpr) → r.Exprs x₁ y₁ z₁ → r.Exprs x₂ y₂ z₂ → r.Exprs (f.expr (ex.Compare op x₁ x₂)) (g.expr (ex.Compare op y₁ y₂)) (h.expr (ex.Compare op z₁ z₂))
  pub between : (v : Bool) (x₁ x₂ x₃ : f.AnExpr) (y₁ y₂ y₃ : g.AnExpr) (z₁ z₂ z₃ : h.AnExpr) → r.Exprs x₁ y₁ z₁ → r.Exprs x₂ y₂ z₂ → r.Exprs x₃ y₃ z₃ → r.Exprs (f.expr (ex.Between v x₁ x₂ x₃)) (g.expr (ex.Between v y₁ y₂ y₃)) (h.expr (ex.Between v z₁ z₂ z₃))
  pub one_of : (v : Bool) (x : f.AnExpr) (y : g.AnExpr) (z : h.AnExpr) (xs : List f.AnExpr) (ys : List g.AnExpr) (zs : List h.AnExpr) → r.Exprs x y z → Alike r.Exprs xs ys zs → r.Exprs (f.expr (ex.OneOf v x xs)) (g.expr (ex.OneOf v y ys)) (h.expr (ex.OneOf v z zs))
  pub cast : (x : f.AnExpr) (y : g.AnExpr) (z : h.AnExpr) (t : Ty) → r.Exprs x y z → r.Exprs (f.expr (ex.Cast x t)) (g.expr (ex.Cast y t)) (h.expr (ex.Cast z t))
  pub cases : (xs : List (f.AnExpr × f.AnExpr)) (ys : List (g.AnExpr × g.AnExpr)) (zs : List (h.AnExpr × h.AnExpr)) (x : Option f.AnExpr) (y : Option g.AnExpr) (z : Option h.AnExpr) → Alike (AlikeArm r.Exprs) xs ys zs → AlikeOption r.Exprs x y z → r.Exprs (f.expr (ex.Cases xs x)) (g.expr (ex.Cases ys y)) (h.expr (ex.Cases zs z))
  pub call : (name : List ℕ) (xs : List f.AnExpr) (ys : List g.AnExpr) (zs : List h.AnExpr) → Alike r.Exprs xs ys zs → r.Exprs (f.expr (ex.Call name xs)) (g.expr (ex.Call name ys)) (h.expr (ex.Call name zs))
  pub count_rows : r.Exprs (f.expr ex.CountRows) (g.expr ex.CountRows) (h.expr ex.CountRows)
  pub scalar : (x : f.AQuery) (y : g.AQuery) (z : h.AQuery) → r.Queries x y z → r.Exprs (f.expr (ex.Scalar x)) (g.expr (ex.Scalar y)) (h.expr (ex.Scalar z))
  pub exists : (x : f.AQuery) (y : g.AQuery) (z : h.AQuery) → r.Queries x y z → r.Exprs (f.expr (ex.Exists x)) (g.expr (ex.Exists y)) (h.expr (ex.Exists z))
  pub table : (name : List ℕ) → r.Sources (f.source (ex.Table name)) (g.source (ex.Table name)) (h.source (ex.Table name))
  pub sub : (x : f.AQuery) (y : g.AQuery) (z : h.AQuery) (lateral : Bool) → r.Queries x y z → r.Sources (f.source (ex.Sub x lateral)) (g.source (ex.Sub y lateral)) (h.source (ex.Sub z lateral))
  pub from : (x : f.ASource) (y : g.ASource) (z : h.ASource) (alias : List ℕ) (columns : List (List ℕ)) → r.Sources x y z → r.Froms (f.from (record { source = x; alias = alias; columns = columns })) (g.from (record { source = y; alias = alias; columns = columns })) (h.from (record { source = z; alias = alias; columns = columns }))
  pub item : (x : f.AnExpr) (y : g.AnExpr) (z : h.AnExpr) (alias : Option (List ℕ)) → r.Exprs x y z → r.Items (f.item (record { expr = x; alias = alias })) (g.item (record { expr = y; alias = alias })) (h.item (record { expr = z; alias = alias }))
  pub key : (x : f.AnExpr) (y : g.AnExpr) (z : h.AnExpr) (descending : Bool) → r.Exprs x y z → r.Keys (f.key (record { expr = x; descending = descending })) (g.key (record { expr = y; descending = descending })) (h.key (record { expr = z; descending = descending }))
  pub select : (l₁ : List f.AnItem) (l₂ : List g.AnItem) (l₃ : List h.AnItem) (f₁ : List f.AFrom) (f₂ : List g.AFrom) (f₃ : List h.AFrom) (w₁ : Option f.AnExpr) (w₂ : Option g.AnExpr) (w₃ : Option h.AnExpr) (o₁ : List f.AKey) (o₂ : List g.AKey) (o₃ : List h.AKey) (m₁ : Option f.AnExpr) (m₂ : Option g.AnExpr) (m₃ : Option h.AnExpr) → Alike r.Items l₁ l₂ l₃ → Alike r.Froms f₁ f₂ f₃ → AlikeOption r.Exprs w₁ w₂ w₃ → Alike r.Keys o₁ o₂ o₃ → AlikeOption r.Exprs m₁ m₂ m₃ → r.Selects (f.select (record { list = l₁; from = f₁; filter = w₁; order = o₁; limit = m₁ })) (g.select (record { list = l₂; from = f₂; filter = w₂; order = o₂; limit = m₂ })) (h.select (record { list = l₃; from = f₃; filter = w₃; order = o₃; limit = m₃ }))
  pub recursive : (name : List ℕ) (columns : List (List ℕ)) (xs : List f.ASelect) (ys : List g.ASelect) (zs : List h.ASelect) (x : f.ASelect) (y : g.ASelect) (z : h.ASelect) → Alike r.Selects xs ys zs → r.Selects x y z → r.Recursives (f.recursive (record { name = name; columns = columns; first = xs; second = x })) (g.recursive (record { name = name; columns = columns; first = ys; second = y })) (h.recursive (record { name = name; columns = columns; first = zs; second = z }))
  pub query : (x : Option f.ARecursive) (y : Option g.ARecursive) (z : Option h.ARecursive) (xs : List f.ASelect) (ys : List g.ASelect) (zs : List h.ASelect) → AlikeOption r.Recursives x y z → Alike r.Selects xs ys zs → r.Queries (f.query (record { recursive = x; selects = xs })) (g.query (record { recursive = y; selects = ys })) (h.query (record { recursive = z; selects = zs }))

module _ (f g h : Algebra) (r : Relation f g h) (k : IsKept f g h r) where
  mutual
    pub expr_related : (e : Expr) → r.Exprs (expr_of f e) (expr_of g e) (expr_of h e)
    expr_related (b.Int n) = k.int n
    expr_related (b.Str t) = k.str t
    expr_related (b.Bool v) = k.bool v
    expr_related b.Null = k.null
    expr_related (b.Named name) = k.named name
    expr_related (b.Dotted alias name) = k.qualified alias name
    expr_related (b.Slot i) = k.slot i
    expr_related (b.Column c) = k.column c
    expr_related (b.Param i ty) = k.param i ty
    expr_related (b.Neg' p e) = k.neg _ _ _ (one_related e)
    expr_related (b.NegSmall' p e) = k.neg_small _ _ _ (one_related e)
    expr_related (b.Not' p e) = k.not _ _ _ (one_related e)
    expr_related (b.Is' p e test negative) = k.is _ _ _ test negative (one_related e)
    expr_related (b.Chain' p e s links) = k.chain _ _ _ _ _ _ (one_related e) (links_related links)
    expr_related (b.Compare' op p x q y) = k.compare op _ _ _ _ _ _ (one_related x) (one_related y)
    expr_related (b.Between' negative p x q y s z) = k.between negative _ _ _ _ _ _ _ _ _ (one_related x) (one_related y) (one_related z)
    expr_related (b.OneOf' negative p e s choices) = k.one_of negative _ _ _ _ _ _ (one_related e) (exprs_related choices)
    expr_related (b.Cast' p e ty) = k.cast _ _ _ ty (one_related e)
    expr_related (b.Cases' s arms other) = k.cases _ _ _ _ _ _ (arms_related arms) (other_related other)
    expr_related (b.Call' name s es) = k.call name _ _ _ (exprs_related es)
    expr_related b.CountRows = k.count_rows
    expr_related (b.Scalar' p q) = k.scalar _ _ _ (one_query_related q)
    expr_related (b.Exists' p q) = k.exists _ _ _ (one_query_related q)

    one_related : {m : _} (es : b.Row_of-Expr m) → r.Exprs (head_or f.no_expr (exprs_of f es)) (head_or g.no_expr (exprs_of g es)) (head_or h.no_expr (exprs_of h es))
    one_related b.end_of-Expr = k.no_expr
    one_related (b.more_of-Expr e rest) = expr_related e

    exprs_related : {m : _} (es : b.Row_of-Expr m) → Alike r.Exprs (exprs_of f es) (exprs_of g es) (exprs_of h es)
    exprs_related b.end_of-Expr = tt
    exprs_related (b.more_of-Expr e rest) = (expr_related e, exprs_related rest)

    links_related : {m : _} (ls : b.Row_of-Expr-Chain-1-2 m) → Alike (AlikeLink r.Exprs) (links_of f ls) (links_of g ls) (links_of h ls)
    links_related b.end_of-Expr-Chain-1-2 = tt
    links_related (b.more_of-Expr-Chain-1-2 op e rest) = ((refl, refl, expr_related e), links_related rest)

    arms_related : {m : _} (arms : b.Row_of-Expr-Cases-0-2 m) → Alike (AlikeArm r.Exprs) (arms_of f arms) (arms_of g arms) (arms_of h arms)
    arms_related b.end_of-Expr-Cases-0-2 = tt
    arms_related (b.more_of-Expr-Cases-0-2 x y rest) = ((expr_related x, expr_related y), arms_related rest)

    other_related : (o : b.Held-Expr-Cases-1) → AlikeOption r.Exprs (other_of f o) (other_of g o) (other_of h o)
    other_related b.Expr-Cases-1-None' = tt
    other_related (b.Expr-Cases-1-Some' p e) = one_related e

    filter_related : (o : b.Held-Select-filter) → AlikeOption r.Exprs (filter_of f o) (filter_of g o) (filter_of h o)
    filter_related b.Select-filter-None' = tt
    filter_related (b.Select-filter-Some' e) = expr_related e

    items_related : {m : _} (items : b.Row_of-Item m) → Alike r.Items (items_of f items) (items_of g items) (items_of h items)
    items_related b.end_of-Item = tt
    items_related (b.more_of-Item e alias rest) = (k.item _ _ _ alias (expr_related e), items_related rest)

    keys_related : {m : _} (keys : b.Row_of-Key m) → Alike r.Keys (keys_of f keys) (keys_of g keys) (keys_of h keys)
    keys_related b.end_of-Key = tt
    keys_related (b.more_of-Key e descending rest) = (k.key _ _ _ descending (expr_related e), keys_related rest)

    source_related : (s : Source) → r.Sources (source_of f s) (source_of g s) (source_of h s)
    source_related (b.Table name) = k.table name
    source_related (b.Sub' p q lateral) = k.sub _ _ _ lateral (one_query_related q)

    froms_related : {m : _} (from : b.Row_of-FromItem m) → Alike r.Froms (froms_of f from) (froms_of g from) (froms_of h from)
    froms_related b.end_of-FromItem = tt
    froms_related (b.more_of-FromItem source alias columns rest) = (k.from _ _ _ alias columns (source_related source), froms_related rest)

    pub select_related : (s : Select) → r.Selects (select_of f s) (select_of g s) (select_of h s)
    select_related (b.struct-Select s list t from filter u order limit) =
        k.select _ _ _ _ _ _ _ _ _ _ _ _ _ _ _ (items_related list) (froms_related from) (filter_related filter) (keys_related order) (filter_related limit)

    selects_related : {m : _} (ss : b.Row_of-Select m) → Alike r.Selects (selects_of f ss) (selects_of g ss) (selects_of h ss)
    selects_related b.end_of-Select = tt
    selects_related (b.more_of-Select s rest) = (select_related s, selects_related rest)

    recursive_related : (x : Recursive) → r.Recursives (recursive_of f x) (recursive_of g x) (recursive_of h x)
    recursive_related (b.struct-Recursive name columns s first second) = k.recursive name columns _ _ _ _ _ _ (selects_related first) (select_related second)

    with_related : (x : b.Held-Query-recursive) → AlikeOption r.Recursives (with_of f x) (with_of g x) (with_of h x)
    with_related b.Query-recursive-None' = tt
    with_related (b.Query-recursive-Some' x) = recursive_related x

    pub query_related : (q : Query) → r.Queries (query_of f q) (query_of g q) (query_of h q)
    query_related (b.struct-Query recursive s selects) = k.query _ _ _ _ _ _ (with_related recursive) (selects_related selects)

    one_query_related : {m : _} (qs : b.Row_of-Query m) → r.Queries (head_or f.no_query (queries_of f qs)) (head_or g.no_query (queries_of g qs)) (head_or h.no_query (queries_of h qs))
    one_query_related b.end_of-Query = k.no_query
    one_query_related (b.more_of-Query q rest) = query_related q
