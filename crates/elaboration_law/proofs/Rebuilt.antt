-- A tree that is built again from its parts is the tree.
use Rattle.std.proofs.Common.{◌≡◌, refl, ap, ◌∙◌, ℕ, Bool, List, [], ◌∷◌, Option, Some, None}
use Rattle.away_values.specs.declared.operators.ChainOp.{ChainOp}
use Rattle.away_trees.specs.declared.queries.Expr.TheBlock as b
use Rattle.away_trees.specs.declared.queries.Expr.TheViews as v
use Rattle.away_trees.specs.declared.queries.Expr.{Expr}
use Rattle.away_trees.specs.declared.queries.Source.{Source}
use Rattle.away_trees.specs.declared.queries.Source.TheVariants as source
use Rattle.away_trees.specs.declared.queries.FromItem.{FromItem}
use Rattle.away_trees.specs.declared.queries.Item.{Item}
use Rattle.away_trees.specs.declared.queries.Key.{Key}
use Rattle.away_trees.specs.declared.queries.Select.{Select}
use Rattle.away_trees.specs.declared.queries.Recursive.{Recursive}
use Rattle.away_trees.specs.declared.queries.Query.{Query}
use Rattle.away_trees.specs.Algebra.{head_or, expr_of, exprs_of, links_of, arms_of, other_of, filter_of, items_of, keys_of, source_of, froms_of, select_of, selects_of, recursive_of, with_of, query_of, queries_of}
use Rattle.elaboration_law.specs.Rebuilding.{rebuilding}

abbrev Shape : Type 0
Shape = (mathlib.Core.Former.this {0}).Shape

abbrev one : Shape → mathlib.Core.Former.Count
one p = mathlib.Core.Former.arity (mathlib.Core.Former.this {0}) p

abbrev Shapes : Type 0
Shapes = (mathlib.Core.Former.list (mathlib.Core.Former.this {0})).Shape

abbrev many : Shapes → mathlib.Core.Former.Count
many s = mathlib.Core.Former.arity (mathlib.Core.Former.list (mathlib.Core.Former.this {0})) s

-- ---- what holds one tree

abbrev the_expr : (p : Shape) → b.Row_of-Expr (one p) → Expr
the_expr p (b.more_of-Expr e rest) = e

abbrev the_query : (p : Shape) → b.Row_of-Query (one p) → Query
the_query p (b.more_of-Query q rest) = q

-- ---- exprs

abbrev list_of_exprs : {m : mathlib.Core.Former.Count} → b.Row_of-Expr m → List (Expr)
list_of_exprs b.end_of-Expr = []
list_of_exprs (b.more_of-Expr e rest) = e ∷ list_of_exprs rest

record Exprs : Type 0 where
  shape : Shapes
  row : b.Row_of-Expr (many shape)

abbrev held_exprs : List (Expr) → Exprs
held_exprs xs = record { shape = b.shape-the_row-Expr-2 xs; row = b.hidden-the_row-Expr-2 xs }

exprs_held : (s : Shapes) (es : b.Row_of-Expr (many s)) → held_exprs (list_of_exprs es) ≡ record { shape = s; row = es }
unfolding b.hidden-the_row-Expr-2 denote.Hole.Carrier.hidden
exprs_held [] b.end_of-Expr = refl
exprs_held (u ∷ s) (b.more_of-Expr e rest) = ap (λ (r : Exprs). record { shape = record {} ∷ r.shape; row = b.more_of-Expr e r.row }) (exprs_held s rest)

-- ---- links

abbrev list_of_links : {m : mathlib.Core.Former.Count} → b.Row_of-Expr-Chain-1-2 m → List (ChainOp × Expr)
list_of_links b.end_of-Expr-Chain-1-2 = []
list_of_links (b.more_of-Expr-Chain-1-2 op e rest) = (op, e) ∷ list_of_links rest

record Links : Type 0 where
  shape : Shapes
  row : b.Row_of-Expr-Chain-1-2 (many shape)

abbrev held_links : List (ChainOp × Expr) → Links
held_links xs = record { shape = b.shape-the_row-Expr-Chain-1-2-1 xs; row = b.hidden-the_row-Expr-Chain-1-2-1 xs }

links_held : (s : Shapes) (es : b.Row_of-Expr-Chain-1-2 (many s)) → held_links (list_of_links es) ≡ record { shape = s; row = es }
unfolding b.hidden-the_row-Expr-Chain-1-2-1 denote.Hole.Carrier.hidden
links_held [] b.end_of-Expr-Chain-1-2 = refl
links_held (u ∷ s) (b.more_of-Expr-Chain-1-2 op e rest) = ap (λ (r : Links). record { shape = record {} ∷ r.shape; row = b.more_of-Expr-Chain-1-2 op e r.row }) (links_held s rest)

-- ---- arms

abbrev list_of_arms : {m : mathlib.Core.Former.Count} → b.Row_of-Expr-Cases-0-2 m → List (Expr × Expr)
list_of_arms b.end_of-Expr-Cases-0-2 = []
list_of_arms (b.more_of-Expr-Cases-0-2 x y rest) = (x, y) ∷ list_of_arms rest

record Arms : Type 0 where
  shape : Shapes
  row : b.Row_of-Expr-Cases-0-2 (many shape)

abbrev held_arms : List (Expr × Expr) → Arms
held_arms xs = record { shape = b.shape-the_row-Expr-Cases-0-2-3 xs; row = b.hidden-the_row-Expr-Cases-0-2-3 xs }

arms_held : (s : Shapes) (es : b.Row_of-Expr-Cases-0-2 (many s)) → held_arms (list_of_arms es) ≡ record { shape = s; row = es }
unfolding b.hidden-the_row-Expr-Cases-0-2-3 denote.Hole.Carrier.hidden
arms_held [] b.end_of-Expr-Cases-0-2 = refl
arms_held (u ∷ s) (b.more_of-Expr-Cases-0-2 x y rest) = ap (λ (r : Arms). record { shape = record {} ∷ r.shape; row = b.more_of-Expr-Cases-0-2 x y r.row }) (arms_held s rest)

-- ---- items

abbrev list_of_items : {m : mathlib.Core.Former.Count} → b.Row_of-Item m → List (Item)
list_of_items b.end_of-Item = []
list_of_items (b.more_of-Item e alias rest) = v.roll-Item (record { expr = e; alias = alias }) ∷ list_of_items rest

record Items : Type 0 where
  shape : Shapes
  row : b.Row_of-Item (many shape)

abbrev held_items : List (Item) → Items
held_items xs = record { shape = b.shape-the_row-Item-6 xs; row = b.hidden-the_row-Item-6 xs }

items_held : (s : Shapes) (es : b.Row_of-Item (many s)) → held_items (list_of_items es) ≡ record { shape = s; row = es }
unfolding b.hidden-the_row-Item-6 denote.Hole.Carrier.hidden
items_held [] b.end_of-Item = refl
items_held (u ∷ s) (b.more_of-Item e alias rest) = ap (λ (r : Items). record { shape = record {} ∷ r.shape; row = b.more_of-Item e alias r.row }) (items_held s rest)

-- ---- froms

abbrev list_of_froms : {m : mathlib.Core.Former.Count} → b.Row_of-FromItem m → List (FromItem)
list_of_froms b.end_of-FromItem = []
list_of_froms (b.more_of-FromItem s alias columns rest) = v.roll-FromItem (record { source = s; alias = alias; columns = columns }) ∷ list_of_froms rest

record Froms : Type 0 where
  shape : Shapes
  row : b.Row_of-FromItem (many shape)

abbrev held_froms : List (FromItem) → Froms
held_froms xs = record { shape = b.shape-the_row-FromItem-7 xs; row = b.hidden-the_row-FromItem-7 xs }

froms_held : (s : Shapes) (es : b.Row_of-FromItem (many s)) → held_froms (list_of_froms es) ≡ record { shape = s; row = es }
unfolding b.hidden-the_row-FromItem-7 denote.Hole.Carrier.hidden
froms_held [] b.end_of-FromItem = refl
froms_held (u ∷ us) (b.more_of-FromItem s alias columns rest) = ap (λ (r : Froms). record { shape = record {} ∷ r.shape; row = b.more_of-FromItem s alias columns r.row }) (froms_held us rest)

-- ---- keys

abbrev list_of_keys : {m : mathlib.Core.Former.Count} → b.Row_of-Key m → List (Key)
list_of_keys b.end_of-Key = []
list_of_keys (b.more_of-Key e descending rest) = v.roll-Key (record { expr = e; descending = descending }) ∷ list_of_keys rest

record Keys : Type 0 where
  shape : Shapes
  row : b.Row_of-Key (many shape)

abbrev held_keys : List (Key) → Keys
held_keys xs = record { shape = b.shape-the_row-Key-8 xs; row = b.hidden-the_row-Key-8 xs }

keys_held : (s : Shapes) (es : b.Row_of-Key (many s)) → held_keys (list_of_keys es) ≡ record { shape = s; row = es }
unfolding b.hidden-the_row-Key-8 denote.Hole.Carrier.hidden
keys_held [] b.end_of-Key = refl
keys_held (u ∷ s) (b.more_of-Key e descending rest) = ap (λ (r : Keys). record { shape = record {} ∷ r.shape; row = b.more_of-Key e descending r.row }) (keys_held s rest)

-- ---- selects

abbrev list_of_selects : {m : mathlib.Core.Former.Count} → b.Row_of-Select m → List (Select)
list_of_selects b.end_of-Select = []
list_of_selects (b.more_of-Select s rest) = s ∷ list_of_selects rest

record Selects : Type 0 where
  shape : Shapes
  row : b.Row_of-Select (many shape)

abbrev held_selects : List (Select) → Selects
held_selects xs = record { shape = b.shape-the_row-Select-5 xs; row = b.hidden-the_row-Select-5 xs }

selects_held : (s : Shapes) (es : b.Row_of-Select (many s)) → held_selects (list_of_selects es) ≡ record { shape = s; row = es }
unfolding b.hidden-the_row-Select-5 denote.Hole.Carrier.hidden
selects_held [] b.end_of-Select = refl
selects_held (u ∷ us) (b.more_of-Select s rest) = ap (λ (r : Selects). record { shape = record {} ∷ r.shape; row = b.more_of-Select s r.row }) (selects_held us rest)

-- ---- a node by its parts

put_neg : (p : Shape) (es : b.Row_of-Expr (one p)) → v.Neg (the_expr p es) ≡ b.Neg' p es
unfolding b.hidden-the_row-Expr-0 denote.Hole.Carrier.hidden
put_neg p (b.more_of-Expr e b.end_of-Expr) = refl

put_neg_small : (p : Shape) (es : b.Row_of-Expr (one p)) → v.NegSmall (the_expr p es) ≡ b.NegSmall' p es
unfolding b.hidden-the_row-Expr-0 denote.Hole.Carrier.hidden
put_neg_small p (b.more_of-Expr e b.end_of-Expr) = refl

put_not : (p : Shape) (es : b.Row_of-Expr (one p)) → v.Not (the_expr p es) ≡ b.Not' p es
unfolding b.hidden-the_row-Expr-0 denote.Hole.Carrier.hidden
put_not p (b.more_of-Expr e b.end_of-Expr) = refl

put_is : (p : Shape) (es : b.Row_of-Expr (one p)) (t : _) (n : Bool) → v.Is (the_expr p es) t n ≡ b.Is' p es t n
unfolding b.hidden-the_row-Expr-0 denote.Hole.Carrier.hidden
put_is p (b.more_of-Expr e b.end_of-Expr) t n = refl

put_chain : (p : Shape) (es : b.Row_of-Expr (one p)) (s : Shapes) (ls : b.Row_of-Expr-Chain-1-2 (many s)) → v.Chain (the_expr p es) (list_of_links ls) ≡ b.Chain' p es s ls
unfolding b.hidden-the_row-Expr-0 denote.Hole.Carrier.hidden
put_chain p (b.more_of-Expr e b.end_of-Expr) s ls = ap (λ (r : Links). b.Chain' p (b.more_of-Expr e b.end_of-Expr) r.shape r.row) (links_held s ls)

put_compare : (op : _) (p : Shape) (x : b.Row_of-Expr (one p)) (q : Shape) (y : b.Row_of-Expr (one q)) → v.Compare op (the_expr p x) (the_expr q y) ≡ b.Compare' op p x q y
unfolding b.hidden-the_row-Expr-0 denote.Hole.Carrier.hidden
put_compare op p (b.more_of-Expr x b.end_of-Expr) q (b.more_of-Expr y b.end_of-Expr) = refl

put_between : (n : Bool) (p : Shape) (x : b.Row_of-Expr (one p)) (q : Shape) (y : b.Row_of-Expr (one q)) (r : Shape) (z : b.Row_of-Expr (one r)) → v.Between n (the_expr p x) (the_expr q y) (the_expr r z) ≡ b.Between' n p x q y r z
unfolding b.hidden-the_row-Expr-0 denote.Hole.Carrier.hidden
put_between n p (b.more_of-Expr x b.end_of-Expr) q (b.more_of-Expr y b.end_of-Expr) r (b.more_of-Expr z b.end_of-Expr) = refl

put_one_of : (n : Bool) (p : Shape) (es : b.Row_of-Expr (one p)) (s : Shapes) (cs : b.Row_of-Expr (many s)) → v.OneOf n (the_expr p es) (list_of_exprs cs) ≡ b.OneOf' n p es s cs
unfolding b.hidden-the_row-Expr-0 denote.Hole.Carrier.hidden
put_one_of n p (b.more_of-Expr e b.end_of-Expr) s cs = ap (λ (r : Exprs). b.OneOf' n p (b.more_of-Expr e b.end_of-Expr) r.shape r.row) (exprs_held s cs)

put_cast : (p : Shape) (es : b.Row_of-Expr (one p)) (t : _) → v.Cast (the_expr p es) t ≡ b.Cast' p es t
unfolding b.hidden-the_row-Expr-0 denote.Hole.Carrier.hidden
put_cast p (b.more_of-Expr e b.end_of-Expr) t = refl

abbrev the_other : b.Held-Expr-Cases-1 → Option Expr
the_other b.Expr-Cases-1-None' = None
the_other (b.Expr-Cases-1-Some' p es) = Some (the_expr p es)

put_cases : (s : Shapes) (arms : b.Row_of-Expr-Cases-0-2 (many s)) (o : b.Held-Expr-Cases-1) → v.Cases (list_of_arms arms) (the_other o) ≡ b.Cases' s arms o
unfolding b.hidden-the_row-Expr-0 denote.Hole.Carrier.hidden
put_cases s arms b.Expr-Cases-1-None' = ap (λ (r : Arms). b.Cases' r.shape r.row b.Expr-Cases-1-None') (arms_held s arms)
put_cases s arms (b.Expr-Cases-1-Some' p (b.more_of-Expr e b.end_of-Expr)) = ap (λ (r : Arms). b.Cases' r.shape r.row (b.Expr-Cases-1-Some' p (b.more_of-Expr e b.end_of-Expr))) (arms_held s arms)

put_call : (name : List ℕ) (s : Shapes) (es : b.Row_of-Expr (many s)) → v.Call name (list_of_exprs es) ≡ b.Call' name s es
put_call name s es = ap (λ (r : Exprs). b.Call' name r.shape r.row) (exprs_held s es)

put_scalar : (p : Shape) (qs : b.Row_of-Query (one p)) → v.Scalar (the_query p qs) ≡ b.Scalar' p qs
unfolding b.hidden-the_row-Query-4 denote.Hole.Carrier.hidden
put_scalar p (b.more_of-Query q b.end_of-Query) = refl

put_exists : (p : Shape) (qs : b.Row_of-Query (one p)) → v.Exists (the_query p qs) ≡ b.Exists' p qs
unfolding b.hidden-the_row-Query-4 denote.Hole.Carrier.hidden
put_exists p (b.more_of-Query q b.end_of-Query) = refl

put_sub : (p : Shape) (qs : b.Row_of-Query (one p)) (lateral : Bool) → source.Sub (the_query p qs) lateral ≡ b.Sub' p qs lateral
unfolding b.hidden-the_row-Query-4 denote.Hole.Carrier.hidden
put_sub p (b.more_of-Query q b.end_of-Query) lateral = refl

abbrev the_filter : b.Held-Select-filter → Option Expr
the_filter b.Select-filter-None' = None
the_filter (b.Select-filter-Some' e) = Some e

put_select : (s : Shapes) (list : b.Row_of-Item (many s)) (t : Shapes) (from : b.Row_of-FromItem (many t)) (filter : b.Held-Select-filter) (u : Shapes) (order : b.Row_of-Key (many u)) (limit : b.Held-Select-filter) →
    v.roll-Select (record { list = list_of_items list; from = list_of_froms from; filter = the_filter filter; order = list_of_keys order; limit = the_filter limit }) ≡ b.struct-Select s list t from filter u order limit
unfolding v.roll-Select denote.Hole.Carrier.roll
put_select s list t from b.Select-filter-None' u order b.Select-filter-None' = λ i. let l = items_held s list i in let f = froms_held t from i in let o = keys_held u order i in b.struct-Select l.shape l.row f.shape f.row b.Select-filter-None' o.shape o.row b.Select-filter-None'
put_select s list t from b.Select-filter-None' u order (b.Select-filter-Some' m) = λ i. let l = items_held s list i in let f = froms_held t from i in let o = keys_held u order i in b.struct-Select l.shape l.row f.shape f.row b.Select-filter-None' o.shape o.row (b.Select-filter-Some' m)
put_select s list t from (b.Select-filter-Some' c) u order b.Select-filter-None' = λ i. let l = items_held s list i in let f = froms_held t from i in let o = keys_held u order i in b.struct-Select l.shape l.row f.shape f.row (b.Select-filter-Some' c) o.shape o.row b.Select-filter-None'
put_select s list t from (b.Select-filter-Some' c) u order (b.Select-filter-Some' m) = λ i. let l = items_held s list i in let f = froms_held t from i in let o = keys_held u order i in b.struct-Select l.shape l.row f.shape f.row (b.Select-filter-Some' c) o.shape o.row (b.Select-filter-Some' m)

put_recursive : (name : List ℕ) (columns : List (List ℕ)) (s : Shapes) (first : b.Row_of-Select (many s)) (second : Select) → v.roll-Recursive (record { name = name; columns = columns; first = list_of_selects first; second = second }) ≡ b.struct-Recursive name columns s first second
unfolding v.roll-Recursive denote.Hole.Carrier.roll
put_recursive name columns s first second = ap (λ (r : Selects). b.struct-Recursive name columns r.shape r.row second) (selects_held s first)

abbrev the_with : b.Held-Query-recursive → Option Recursive
the_with b.Query-recursive-None' = None
the_with (b.Query-recursive-Some' r) = Some r

put_query : (o : b.Held-Query-recursive) (s : Shapes) (selects : b.Row_of-Select (many s)) → v.roll-Query (record { recursive = the_with o; selects = list_of_selects selects }) ≡ b.struct-Query o s selects
unfolding v.roll-Query denote.Hole.Carrier.roll
put_query b.Query-recursive-None' s selects = ap (λ (r : Selects). b.struct-Query b.Query-recursive-None' r.shape r.row) (selects_held s selects)
put_query (b.Query-recursive-Some' x) s selects = ap (λ (r : Selects). b.struct-Query (b.Query-recursive-Some' x) r.shape r.row) (selects_held s selects)

-- ---- all trees

mutual
  pub expr_same : (e : Expr) → expr_of rebuilding e ≡ e
  expr_same (b.Int n) = refl
  expr_same (b.Str t) = refl
  expr_same (b.Bool v) = refl
  expr_same b.Null = refl
  expr_same (b.Named name) = refl
  expr_same (b.Dotted alias name) = refl
  expr_same (b.Slot i) = refl
  expr_same (b.Column c) = refl
  expr_same (b.Param i ty) = refl
  expr_same (b.Neg' p e) = ap (λ x. v.Neg x) (one_same p e) ∙ put_neg p e
  expr_same (b.NegSmall' p e) = ap (λ x. v.NegSmall x) (one_same p e) ∙ put_neg_small p e
  expr_same (b.Not' p e) = ap (λ x. v.Not x) (one_same p e) ∙ put_not p e
  expr_same (b.Is' p e test negative) = ap (λ x. v.Is x test negative) (one_same p e) ∙ put_is p e test negative
  expr_same (b.Chain' p e s links) = (λ i. v.Chain (one_same p e i) (links_same links i)) ∙ put_chain p e s links
  expr_same (b.Compare' op p x q y) = (λ i. v.Compare op (one_same p x i) (one_same q y i)) ∙ put_compare op p x q y
  expr_same (b.Between' negative p x q y s z) = (λ i. v.Between negative (one_same p x i) (one_same q y i) (one_same s z i)) ∙ put_between negative p x q y s z
  expr_same (b.OneOf' negative p e s choices) = (λ i. v.OneOf negative (one_same p e i) (exprs_same choices i)) ∙ put_one_of negative p e s choices
  expr_same (b.Cast' p e ty) = ap (λ x. v.Cast x ty) (one_same p e) ∙ put_cast p e ty
  expr_same (b.Cases' s arms other) = (λ i. v.Cases (arms_same arms i) (other_same other i)) ∙ put_cases s arms other
  expr_same (b.Call' name s es) = ap (λ xs. v.Call name xs) (exprs_same es) ∙ put_call name s es
  expr_same b.CountRows = refl
  expr_same (b.Scalar' p q) = ap (λ x. v.Scalar x) (one_query_same p q) ∙ put_scalar p q
  expr_same (b.Exists' p q) = ap (λ x. v.Exists x) (one_query_same p q) ∙ put_exists p q

  one_same : (p : Shape) (es : b.Row_of-Expr (one p)) → head_or b.Null (exprs_of rebuilding es) ≡ the_expr p es
  one_same p (b.more_of-Expr e rest) = expr_same e

  exprs_same : {m : mathlib.Core.Former.Count} (es : b.Row_of-Expr m) → exprs_of rebuilding es ≡ list_of_exprs es
  exprs_same b.end_of-Expr = refl
  exprs_same (b.more_of-Expr e rest) = λ i. expr_same e i ∷ exprs_same rest i

  links_same : {m : mathlib.Core.Former.Count} (ls : b.Row_of-Expr-Chain-1-2 m) → links_of rebuilding ls ≡ list_of_links ls
  links_same b.end_of-Expr-Chain-1-2 = refl
  links_same (b.more_of-Expr-Chain-1-2 op e rest) = λ i. (op, expr_same e i) ∷ links_same rest i

  arms_same : {m : mathlib.Core.Former.Count} (as_ : b.Row_of-Expr-Cases-0-2 m) → arms_of rebuilding as_ ≡ list_of_arms as_
  arms_same b.end_of-Expr-Cases-0-2 = refl
  arms_same (b.more_of-Expr-Cases-0-2 x y rest) = λ i. (expr_same x i, expr_same y i) ∷ arms_same rest i

  other_same : (o : b.Held-Expr-Cases-1) → other_of rebuilding o ≡ the_other o
  other_same b.Expr-Cases-1-None' = refl
  other_same (b.Expr-Cases-1-Some' p es) = ap Some (one_same p es)

  filter_same : (o : b.Held-Select-filter) → filter_of rebuilding o ≡ the_filter o
  filter_same b.Select-filter-None' = refl
  filter_same (b.Select-filter-Some' e) = ap Some (expr_same e)

  items_same : {m : mathlib.Core.Former.Count} (is : b.Row_of-Item m) → items_of rebuilding is ≡ list_of_items is
  items_same b.end_of-Item = refl
  items_same (b.more_of-Item e alias rest) = λ i. v.roll-Item (record { expr = expr_same e i; alias = alias }) ∷ items_same rest i

  keys_same : {m : mathlib.Core.Former.Count} (ks : b.Row_of-Key m) → keys_of rebuilding ks ≡ list_of_keys ks
  keys_same b.end_of-Key = refl
  keys_same (b.more_of-Key e descending rest) = λ i. v.roll-Key (record { expr = expr_same e i; descending = descending }) ∷ keys_same rest i

  source_same : (s : Source) → source_of rebuilding s ≡ s
  source_same (b.Table name) = refl
  source_same (b.Sub' p q lateral) = ap (λ x. source.Sub x lateral) (one_query_same p q) ∙ put_sub p q lateral

  froms_same : {m : mathlib.Core.Former.Count} (fs : b.Row_of-FromItem m) → froms_of rebuilding fs ≡ list_of_froms fs
  froms_same b.end_of-FromItem = refl
  froms_same (b.more_of-FromItem s alias columns rest) = λ i. v.roll-FromItem (record { source = source_same s i; alias = alias; columns = columns }) ∷ froms_same rest i

  pub select_same : (s : Select) → select_of rebuilding s ≡ s
  select_same (b.struct-Select s list t from filter u order limit) =
      (λ i. v.roll-Select (record { list = items_same list i; from = froms_same from i; filter = filter_same filter i; order = keys_same order i; limit = filter_same limit i }))
      ∙ put_select s list t from filter u order limit

  selects_same : {m : mathlib.Core.Former.Count} (ss : b.Row_of-Select m) → selects_of rebuilding ss ≡ list_of_selects ss
  selects_same b.end_of-Select = refl
  selects_same (b.more_of-Select s rest) = λ i. select_same s i ∷ selects_same rest i

  recursive_same : (r : Recursive) → recursive_of rebuilding r ≡ r
  recursive_same (b.struct-Recursive name columns s first second) =
      (λ i. v.roll-Recursive (record { name = name; columns = columns; first = selects_same first i; second = select_same second i })) ∙ put_recursive name columns s first second

  with_same : (o : b.Held-Query-recursive) → with_of rebuilding o ≡ the_with o
  with_same b.Query-recursive-None' = refl
  with_same (b.Query-recursive-Some' x) = ap Some (recursive_same x)

  pub query_same : (q : Query) → query_of rebuilding q ≡ q
  query_same (b.struct-Query o s selects) = (λ i. v.roll-Query (record { recursive = with_same o i; selects = selects_same selects i })) ∙ put_query o s selects

  one_query_same : (p : Shape) (qs : b.Row_of-Query (one p)) → head_or (v.roll-Query (record { recursive = None; selects = [] })) (queries_of rebuilding qs) ≡ the_query p qs
  one_query_same p (b.more_of-Query q rest) = query_same q
