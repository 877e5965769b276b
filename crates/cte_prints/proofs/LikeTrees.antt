-- A function's expression whose names can be written is like what stands for it in a query.
use Rattle.std.proofs.Common.{◌≡◌, ap, sym, subst, ◌∙◌, ℕ, Bool, true, false, List, [], ◌++◌, map, length, Option, None, option_map}
use Rattle.away_values.specs.declared.operators.ChainOp.{ChainOp}
use Rattle.away_values.specs.declared.types.Ty.{Ty}
use Rattle.away_values.specs.declared.types.Ty.TheVariants as ty
use Rattle.away_values.specs.Operators.{literal_type}
use Rattle.away_trees.specs.declared.queries.Expr.{Expr}
use Rattle.away_trees.specs.declared.queries.Expr.TheVariants as expr
use Rattle.away_trees.specs.declared.queries.Expr.TheOpen as ex
use Rattle.away_trees.specs.declared.queries.Source.TheVariants as source
use Rattle.away_trees.specs.declared.queries.FromItem.{FromItem}
use Rattle.away_trees.specs.declared.queries.Query.{Query}
use Rattle.away_trees.specs.declared.queries.Expr.TheViews.{roll-FromItem, roll-Select, roll-Query}
use Rattle.away_trees.specs.Algebra.{Algebra, expr_of, from_of, item_of, key_of, select_of, query_of}
use Rattle.away_trees.proofs.Equations as eq
use Rattle.away_names.specs.Lookups.{Name, Level, Scope, is_kept}
use Rattle.away_names.specs.Naming as n
use Rattle.away_names.specs.Naming.{naming}
use Rattle.away_names.specs.Trees.{named_expr}
use Rattle.sql_meaning.specs.Reads.{reading}
use Rattle.sql_meaning.proofs.Related.{query_related}
use Rattle.type_soundness.specs.Sorts.{Every}
use Rattle.type_soundness.proofs.CleanNotes.{Clean}
use Rattle.qualified_names.specs.Trees.{qualified_expr}
use Rattle.qualified_names.proofs.QualifyingRules as d
use Rattle.cte_names.proofs.Refined.{LevelsSo}
use Rattle.cte_names.proofs.Standing.{Allowed, Leaves, placing, no_param}
use Rattle.cte_names.proofs.PlacedParts as part
use Rattle.cte_names.proofs.PlacedTrees as trees
use Rattle.cte_prints.specs.Like.{Kind, Tree, value, values, links, arms, maybe, item, items, key, keys, from_item, from_items, select, selects, query, IsLike}
use Rattle.cte_prints.specs.Like as like
use Rattle.cte_prints.specs.WritableNames.{NamesAreWritable}
use Rattle.cte_prints.specs.WritableNames as derivable
use Rattle.cte_prints.proofs.WritableColumns.{Aliased, Stands, DerivableLeaves}
use Rattle.cte_prints.proofs.WritableColumns as names
use Rattle.cte_prints.proofs.ExpressionsAlike as node
use Rattle.cte_prints.proofs.LikeFrom as from_
use Rattle.cte_prints.proofs.LikeSelects as sel

module _ (q : Scope) (slots : ℕ → Bool) (leaf : ℕ → ℕ → Expr) (leaves : Leaves q slots leaf) (derive : DerivableLeaves q slots leaf) where
  abbrev P : Algebra
  P = placing leaf

  abbrev T : Expr → n.Term
  T = expr_of naming

  abbrev Ts : List Expr → List n.Term
  Ts xs = map (λ x. expr_of naming x) xs

  abbrev To : Option Expr → Option n.Term
  To o = option_map (λ e. expr_of naming e) o

  abbrev Ls : List (ChainOp × Expr) → List (ChainOp × n.Term)
  Ls xs = map (λ l. eq.link_of naming l) xs

  abbrev As : List (Expr × Expr) → List (n.Term × n.Term)
  As xs = map (λ a. eq.arm_of naming a) xs

  abbrev LikeTerm : Expr → n.Term → Type 0
  LikeTerm = node.LikeTerm q slots leaf derive

  -- ---- an item of FROM is seen by a query as it is by the function

  table_so : (x alias : Name) → part.Froms q slots leaf (from_of naming (roll-FromItem (record { source = source.Table x; alias = alias; columns = [] })))
  table_so x alias =
      let k = trees.steps q slots leaf leaves in k.from (n.origin (ex.Table x)) (n.origin (ex.Table x)) (n.origin (ex.Table x)) alias [] (k.table x)

  abbrev part_of : n.Rows → Name → List Name → n.Piece
  part_of r alias columns = n.part (record { source = r; alias = alias; columns = columns })

  sub_so : (w : Query) (alias : Name) (columns : List Name) (lateral : Bool)
      → part.Froms q slots leaf (from_of naming (roll-FromItem (record { source = source.Sub w lateral; alias = alias; columns = columns })))
  sub_so w alias columns lateral =
      let k = trees.steps q slots leaf leaves in
      let r : n.Rows = n.origin (ex.Sub (query_of naming w) lateral) in
      subst (λ (r : n.Rows). part.Froms q slots leaf (part_of r alias columns)) (sym (eq.of_sub naming w lateral))
      (k.from r r r alias columns
      (k.sub (query_of naming w) (query_of naming w) (query_of naming w) lateral
      (query_related naming naming naming (trees.relation q slots leaf leaves) k w)))

  -- ---- all sorts of trees

  abbrev Holds : (n : Kind) → Tree n → Type 0
  Holds value w = LikeTerm w (T w)
  Holds values ws = node.LikeValues q slots leaf derive ws (Ts ws)
  Holds links ws = node.LikeLinks q slots leaf derive ws (Ls ws)
  Holds arms ws = node.LikeArms q slots leaf derive ws (As ws)
  Holds maybe o = node.LikeMaybe q slots leaf derive o (To o)
  Holds item w = sel.LikeEntry q slots leaf derive w (item_of naming w)
  Holds items ws = sel.LikeItems q slots leaf derive ws (map (λ x. item_of naming x) ws)
  Holds key w = sel.LikeSort q slots leaf derive w (key_of naming w)
  Holds keys ws = sel.LikeKeys q slots leaf derive ws (map (λ x. key_of naming x) ws)
  Holds from_item w = from_.LikePiece q slots leaf derive w (from_of naming w) × part.Froms q slots leaf (from_of naming w)
  Holds from_items ws = from_.LikeFrom q slots leaf derive ws (map (λ x. from_of naming x) ws) × Every (part.Froms q slots leaf) (map (λ x. from_of naming x) ws)
  Holds select w = sel.LikeSelect q slots leaf derive w (select_of naming w)
  Holds selects ws = sel.LikeSelects q slots leaf derive ws (map (λ x. select_of naming x) ws)
  Holds query w = node.LikeQuery q slots leaf derive w (query_of naming w)

  by : (w : Expr) (t : n.Term) → T w ≡ t → LikeTerm w t → LikeTerm w (T w)
  by w t e h = subst (LikeTerm w) (sym e) h

  shown : (w v u : Expr) → v ≡ u → IsLike value w u → IsLike value w v
  shown w v u e h = subst (IsLike value w) (sym e) h

  with_cast : (v : Expr) (t : Ty) (l : List Level) → qualified_expr v l ≡ v → qualified_expr (expr.Cast v t) l ≡ expr.Cast v t
  with_cast v t l e = d.cast_is v t l ∙ ap (λ v. expr.Cast v t) e

  sub_like : (w : Query) (alias : Name) (columns : List Name) (lateral : Bool) → derivable.IsWritableName alias → node.LikeQuery q slots leaf derive w (query_of naming w)
      → from_.LikePiece q slots leaf derive (roll-FromItem (record { source = source.Sub w lateral; alias = alias; columns = columns }))
      (from_of naming (roll-FromItem (record { source = source.Sub w lateral; alias = alias; columns = columns })))
  sub_like w alias columns lateral h k =
      let written : FromItem = roll-FromItem (record { source = source.Sub w lateral; alias = alias; columns = columns }) in
      subst (λ (r : n.Rows). from_.LikePiece q slots leaf derive written (part_of r alias columns)) (sym (eq.of_sub naming w lateral))
      (from_.subquery q slots leaf derive w (query_of naming w) alias columns lateral h k)

  pub all_like : {k : Kind} {w : Tree k} → NamesAreWritable k w → Holds k w
  all_like (derivable.int x) = λ s ms st k a. shown _ _ _ (with_cast (expr.Int x) (literal_type x) _ (d.int_is x _)) (like.int x)
  all_like (derivable.str t) = λ s ms st k a. shown _ _ _ (with_cast (expr.Str t) ty.Text _ (d.str_is t _)) (like.str t)
  all_like (derivable.bool v) = λ s ms st k a. shown _ _ _ (with_cast (expr.Bool v) ty.Boolean _ (d.bool_is v _)) (like.bool v)
  all_like derivable.null = λ s ms st k a. shown _ _ _ (d.null_is _) like.null
  all_like (derivable.named x h) = names.name_like q slots leaf derive x h
  all_like (derivable.qualified a x h k) = names.qualified_like q slots leaf derive a x k
  all_like (derivable.param i t) = λ s ms st k a. absurd (no_param s st.fits.in_function k)
  all_like (derivable.neg {x = x} h) = by _ _ (eq.of_neg naming x) (node.neg q slots leaf derive x (T x) (all_like h))
  all_like (derivable.not {x = x} h) = by _ _ (eq.of_not naming x) (node.not q slots leaf derive x (T x) (all_like h))
  all_like (derivable.is {x = x} t v h) = by _ _ (eq.of_is naming x t v) (node.is q slots leaf derive t v x (T x) (all_like h))
  all_like (derivable.chain {x = x} {xs = xs} h r) = by _ _ (eq.of_chain naming x xs) (node.chain q slots leaf derive x xs (T x) (Ls xs) (all_like h) (all_like r))
  all_like (derivable.compare {x = x} {y = y} o h i) =
      by _ _ (eq.of_compare naming o x y) (node.compare q slots leaf derive o x y (T x) (T y) (all_like h) (all_like i))
  all_like (derivable.between {x = x} {y = y} {z = z} v h i j) =
      by _ _ (eq.of_between naming v x y z) (node.between q slots leaf derive v x y z (T x) (T y) (T z) (all_like h) (all_like i) (all_like j))
  all_like (derivable.one_of {x = x} {xs = xs} v h r) =
      by _ _ (eq.of_oneof naming v x xs) (node.one_of q slots leaf derive v x xs (T x) (Ts xs) (all_like h) (all_like r))
  all_like (derivable.cast {x = x} t h) = by _ _ (eq.of_cast naming x t) (node.cast q slots leaf derive t x (T x) (all_like h))
  all_like (derivable.cases {xs = xs} {o = o} h i) = by _ _ (eq.of_cases naming xs o) (node.cases q slots leaf derive xs o (As xs) (To o) (all_like h) (all_like i))
  all_like (derivable.call {xs = xs} x r) = by _ _ (eq.of_call naming x xs) (node.call q slots leaf derive x xs (Ts xs) (all_like r))
  all_like derivable.count_rows = λ s ms st k a. shown _ _ _ (d.countrows_is _) like.count_rows
  all_like (derivable.scalar {q = w} h) = by _ _ (eq.of_scalar naming w) (node.scalar q slots leaf derive w (query_of naming w) (all_like h))
  all_like (derivable.exists {q = w} h) = by _ _ (eq.of_exists naming w) (node.exists q slots leaf derive w (query_of naming w) (all_like h))
  all_like derivable.no_value = λ s ms st k a. like.no_value
  all_like (derivable.one_value {x = x} {xs = xs} h r) = node.one_value q slots leaf derive x (T x) xs (Ts xs) (all_like h) (all_like r)
  all_like derivable.no_link = λ s ms st k a. like.no_link
  all_like (derivable.one_link {x = x} {xs = xs} o p h r) = node.one_link q slots leaf derive o p x (T x) xs (Ls xs) (all_like h) (all_like r)
  all_like derivable.no_arm = λ s ms st k a. like.no_arm
  all_like (derivable.one_arm {x = x} {y = y} {xs = xs} h i r) = node.one_arm q slots leaf derive x y (T x) (T y) xs (As xs) (all_like h) (all_like i) (all_like r)
  all_like derivable.nothing = λ s ms st k a. like.nothing
  all_like (derivable.something {x = x} h) = node.something q slots leaf derive x (T x) (all_like h)
  all_like (derivable.an_item {x = x} alias h k) = sel.an_item q slots leaf derive alias x (T x) (all_like k)
  all_like derivable.no_item = λ s ms st k a. like.no_item
  all_like (derivable.one_item {x = x} {xs = xs} h r) =
      sel.one_item q slots leaf derive x (item_of naming x) xs (map (λ x. item_of naming x) xs) (all_like h) (all_like r)
  all_like (derivable.a_key {x = x} v h) = sel.a_key q slots leaf derive v x (T x) (all_like h)
  all_like derivable.no_key = λ aliases s ms st k a. like.no_key
  all_like (derivable.one_key {x = x} {xs = xs} h r) =
      sel.one_key q slots leaf derive x (key_of naming x) xs (map (λ x. key_of naming x) xs) (all_like h) (all_like r)
  all_like (derivable.table x alias h k) = (from_.table q slots leaf derive x alias k, table_so x alias)
  all_like (derivable.subquery {q = w} alias columns lateral h k) = (sub_like w alias columns lateral h (all_like k), sub_so w alias columns lateral)
  all_like derivable.no_from = (from_.no_from q slots leaf derive, tt)
  all_like (derivable.one_from {x = x} {xs = xs} h r) =
      let here = all_like h in
      let more = all_like r in
      (from_.one_from q slots leaf derive x (from_of naming x) xs (map (λ x. from_of naming x) xs) here.0 here.1 more.0, (here.1, more.1))
  all_like (derivable.whole {list = list} {from = from} {filter = filter} {limit = limit} {order = order} l f w o m) =
      let parts = all_like f in
      subst (sel.LikeSelect q slots leaf derive (roll-Select (record { list = list; from = from; filter = filter; order = order; limit = limit })))
      (sym (eq.of_select naming list from filter order limit))
      (sel.whole q slots leaf derive list from filter order limit (map (λ x. item_of naming x) list) (map (λ x. from_of naming x) from) (To filter)
      (map (λ x. key_of naming x) order) (To limit)
      (all_like l) parts.0 parts.1 (all_like w) (all_like o) (all_like m))
  all_like derivable.no_select = λ s ms st k a. like.no_select
  all_like (derivable.one_select {x = x} {xs = xs} h r) =
      sel.one_select q slots leaf derive x (select_of naming x) xs (map (λ x. select_of naming x) xs) (all_like h) (all_like r)
  all_like (derivable.union {xs = xs} h) =
      subst (node.LikeQuery q slots leaf derive (roll-Query (record { recursive = None; selects = xs }))) (sym (eq.of_query naming xs))
      (sel.union q slots leaf derive xs (map (λ x. select_of naming x) xs) (all_like h))

  -- an expression under no select of the function, and perhaps under some of the query's own where nothing is in sight
  pub expr_like : (w : Expr) → NamesAreWritable value w → (s : Scope) (ms : List Level) → s.in_function ≡ true
      → ((x : Name) → is_kept x ≡ false → q.table x ≡ s.table x) → s.levels ≡ [] → LevelsSo [] ms → Clean (named_expr w s).note
      → Allowed slots (expr_of reading (named_expr w s).it (length ms))
      → IsLike value w (qualified_expr (expr_of P (named_expr w s).it (length ms)) (ms ++ q.levels))
  unfolding named_expr
  expr_like w h s ms f tables l so g a =
      all_like h s ms (record {
        fits = record { in_function = f; tables = tables; so = subst (λ ls. LevelsSo ls ms) (sym l) so };
        aliases = subst (Every (Every Aliased)) (sym l) tt;
      }) g a
