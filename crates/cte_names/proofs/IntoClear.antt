-- The tests and the picks of a SELECT INTO are clear where its select is, one select further in.
use Rattle.std.proofs.Common.{◌≡◌, refl, ap, sym, subst, ◌∙◌, ℕ, suc, ◌<◌, ◌≤◌, pos, ℤ, Bool, false, List, [], ◌∷◌, ◌++◌, map, length, Option, Some, None, option_map}
use Rattle.std.proofs.lemmas.List.{append-nil}
use Rattle.std.specs.Prelude.{slice_get}
use Rattle.away_values.specs.declared.operators.CmpOp.{CmpOp}
use Rattle.away_values.specs.declared.types.Ty.{Ty}
use Rattle.away_values.specs.Operators.{literal_type}
use Rattle.away_trees.specs.Limits.{most_nodes}
use Rattle.away_trees.specs.declared.queries.Expr.{Expr}
use Rattle.away_trees.specs.declared.queries.Expr.TheOpen.{Expr-F}
use Rattle.away_trees.specs.declared.queries.Expr.TheOpen as ex
use Rattle.away_trees.specs.declared.queries.Expr.TheVariants as expr
use Rattle.away_trees.specs.declared.queries.Expr.TheViews.{out-Expr, out-FromItem, out-Query, out-Select, roll-Expr, roll-FromItem, roll-Select, out-roll-Expr, out-roll-FromItem, out-roll-Item, out-roll-Query}
use Rattle.away_trees.specs.declared.queries.FromItem.{FromItem}
use Rattle.away_trees.specs.declared.queries.Item.{Item}
use Rattle.away_trees.specs.declared.queries.Key.{Key}
use Rattle.away_trees.specs.declared.queries.Query.{Query}
use Rattle.away_trees.specs.declared.queries.Recursive.{Recursive}
use Rattle.away_trees.specs.declared.queries.Select.{Select}
use Rattle.away_trees.specs.declared.queries.Source.{Source}
use Rattle.away_trees.specs.declared.queries.Source.TheVariants as source
use Rattle.away_trees.specs.Algebra.{Algebra, expr_of, from_of, item_of, query_of, select_of, source_of}
use Rattle.away_trees.proofs.Equations as eq
use Rattle.away_names.specs.declared.note.Part.{Part}
use Rattle.away_names.specs.Lookups.{Name, Scope, inside, has_double}
use Rattle.away_names.specs.Naming as n
use Rattle.sql_meaning.specs.Reads.{Read, Reads, SourceReads, reading, reads, of_list}
use Rattle.sql_meaning.specs.Trees.{col, item, one}
use Rattle.sql_meaning.proofs.Uses.{left, right}
use Rattle.plsql_meaning.specs.Sight as sight
use Rattle.select_into.specs.Wrapped.{value_name, value_names, subquery, as_source, over_source, scalar_over, count_compared, pick, pick_as}
use Rattle.qualified_names.specs.Trees.{qualified_part, qualified_from, qualified_shown}
use Rattle.qualified_names.specs.Unambiguous.{value, maybe, select, selects, query, IsClear}
use Rattle.qualified_names.specs.Unambiguous as c
use Rattle.qualified_names.proofs.BackQueries.{from_is}
use Rattle.qualified_names.proofs.QualifyingRules as d
use Rattle.cte_names.proofs.IntoNames.{alias, seen, place_at, there, values_differ, called_so, found_so}
use Rattle.cte_names.proofs.Standing.{Allowed, one_of_these, placing}

abbrev pub columns_of : Select → List Name
columns_of q = value_names (length (out-Select q).list)

pub names_given : (columns : List Name) (own : List (Option Name)) (k : ℕ) (x : Name) → slice_get columns k ≡ Some x → n.names_or columns own ≡ n.plain_names columns
unfolding n.names_or
names_given [] own k x e = absurd cc
names_given (n ∷ ns) own k x e = refl

-- ---- a select that is the whole of a subquery

abbrev Node : Type 0
Node = Expr-F Expr Source FromItem Item Key Query Recursive Select

nodes_same : (m o : Node) (p q : Query) → m ≡ ex.Scalar p → o ≡ ex.Scalar q → m ≡ o → p ≡ q
nodes_same m o p q h k e = cc

scalars_same : (p q : Query) → expr.Scalar p ≡ expr.Scalar q → p ≡ q
unfolding roll-Expr denote.Hole.Carrier.roll
scalars_same p q e = nodes_same (out-Expr (expr.Scalar p)) (out-Expr (expr.Scalar q)) p q (out-roll-Expr (ex.Scalar p)) (out-roll-Expr (ex.Scalar q)) (ap out-Expr e)

scalar_inside : {s : Scope} {e : Expr} → IsClear value s e → (q : Query) → e ≡ expr.Scalar q → IsClear query s q
scalar_inside {s = s} (c.scalar {q = p} h) q e = subst (IsClear query s) (scalars_same p q e) h
scalar_inside (c.int x) q e = absurd cc
scalar_inside (c.str t) q e = absurd cc
scalar_inside (c.bool v) q e = absurd cc
scalar_inside c.null q e = absurd cc
scalar_inside (c.column x a m h k) q e = absurd cc
scalar_inside (c.param i t) q e = absurd cc
scalar_inside (c.neg h) q e = absurd cc
scalar_inside (c.not h) q e = absurd cc
scalar_inside (c.is t v h) q e = absurd cc
scalar_inside (c.chain h k) q e = absurd cc
scalar_inside (c.compare op h k) q e = absurd cc
scalar_inside (c.between v h k l) q e = absurd cc
scalar_inside (c.one_of v h k) q e = absurd cc
scalar_inside (c.cast t h) q e = absurd cc
scalar_inside (c.cases h k) q e = absurd cc
scalar_inside (c.call name h k) q e = absurd cc
scalar_inside c.count_rows q e = absurd cc
scalar_inside (c.exists h) q e = absurd cc

firsts_same : (x y : Select) (xs ys : List Select) → x ∷ xs ≡ y ∷ ys → x ≡ y
firsts_same x y xs ys e = cc

first_inside : {s : Scope} {xs : List Select} → IsClear selects s xs → (x : Select) → xs ≡ x ∷ [] → IsClear select s x
first_inside c.no_select x e = absurd cc
first_inside {s = s} (c.one_select h r) x e = subst (IsClear select s) (firsts_same _ x _ [] e) h

query_inside : {s : Scope} {q : Query} → IsClear query s q → (x : Select) → q ≡ one x → IsClear select s x
query_inside (c.union {xs = xs} h) x e =
    first_inside h x
    (ap (λ f. f.selects) (sym (out-roll-Query (record { recursive = None; selects = xs })))
    ∙ (ap (λ q. (out-Query q).selects) e ∙ ap (λ f. f.selects) (out-roll-Query (record { recursive = None; selects = x ∷ [] }))))

module _ (leaf : ℕ → ℕ → Expr) where
  abbrev P : Algebra
  P = placing leaf

  query_placed : (q : Select) → query_of P (one q) ≡ (λ d. one (select_of P q d))
  query_placed q = eq.of_query P (q ∷ [])

  pub select_inside : (s : Scope) (q : Select) (d : ℕ) → IsClear value s (expr_of P (sight.query_of q) d) → IsClear select s (select_of P q d)
  select_inside s q d h =
      query_inside (scalar_inside h (query_of P (one q) d) (ap (λ f. f d) (eq.of_scalar P (one q)))) (select_of P q d) (ap (λ f. f d) (query_placed q))

  -- ---- what is placed

  item_placed : (e : Expr) → item_of P (item e) ≡ (λ d. item (expr_of P e d))
  item_placed e = ap (λ x. P.item (record { expr = expr_of P x.expr; alias = x.alias })) (out-roll-Item (record { expr = e; alias = None }))

  -- the item of FROM, where this stands for the select
  abbrev pub source_at : Select → Select → FromItem
  source_at q x = roll-FromItem (record { source = source.Sub (one x) false; alias = alias; columns = columns_of q })

  from_placed : (q : Select) → from_of P (as_source q) ≡ (λ d. source_at q (select_of P q d))
  from_placed q =
      ap (λ x. P.from (record { source = source_of P x.source; alias = x.alias; columns = x.columns })) (out-roll-FromItem (record { source = subquery q; alias = alias; columns = columns_of q }))
      ∙ ap (λ x. P.from (record { source = x; alias = alias; columns = columns_of q })) (eq.of_sub P (one q) false ∙ ap (λ x. P.source (ex.Sub x false)) (query_placed q))

  abbrev pub limit_at : Option Expr → ℕ → Option Expr
  limit_at limit d = option_map (λ x. x d) (option_map (λ e. expr_of P e) limit)

  abbrev pub over_at : Expr → Option Expr → Select → Select → Select
  over_at e limit q x = roll-Select (record { list = item e ∷ []; from = source_at q x ∷ []; filter = None; order = []; limit = limit })

  pub over_placed : (e : Expr) (limit : Option Expr) (q : Select) → expr_of P (scalar_over e limit q) ≡ (λ d. expr.Scalar (one (over_at (expr_of P e (suc d)) (limit_at limit (suc d)) q (select_of P q (suc d)))))
  over_placed e limit q =
      eq.of_scalar P (one (over_source e limit q))
      ∙ ap (λ x. P.expr (ex.Scalar x))
      (query_placed (over_source e limit q)
      ∙ ap (λ x. P.query (record { recursive = None; selects = x ∷ [] }))
      (eq.of_select P (item e ∷ []) (as_source q ∷ []) None [] limit
      ∙ (λ i. P.select (record { list = item_placed e i ∷ []; from = from_placed q i ∷ []; filter = None; order = []; limit = option_map (λ e. expr_of P e) limit }))))

  -- ---- where it is clear

  module _ (s : Scope) (q : Select) (few : length (out-Select q).list ≤ most_nodes) (h : IsClear select (inside [] s) (select_of P q 1)) where
    abbrev from : List FromItem
    from = source_at q (select_of P q 1) ∷ []

    abbrev within : Scope
    within = inside (qualified_from s.levels from).seen s

    alias_alone : has_double (map (λ f. (out-FromItem f).alias) from) ≡ false
    unfolding has_double
    alias_alone = refl

    over_clear : (e : Expr) (limit : Option Expr) → IsClear value within (expr_of P e 1) → IsClear maybe within (limit_at limit 1) → IsClear value s (expr_of P (scalar_over e limit q) 0)
    over_clear e limit k l =
        subst (λ (f : ℕ → Expr). IsClear value s (f 0)) (sym (over_placed e limit q))
        (c.scalar
        (c.union
        (c.one_select
        (c.whole alias_alone
        (c.one_from (c.subquery alias (columns_of q) false (values_differ (length (out-Select q).list) few) (c.union (c.one_select h c.no_select))) c.no_from)
        (c.one_item None k c.no_item) c.nothing c.no_key l)
        c.no_select)))

    pub test_clear : (op : CmpOp) (than : ℤ) → IsClear value s (expr_of P (count_compared op q than) 0)
    test_clear op than =
        subst (λ (f : ℕ → Expr). IsClear value s (f 0)) (sym (eq.of_compare P op (scalar_over expr.CountRows None q) (expr.Int than)))
        (c.compare op (over_clear expr.CountRows None c.count_rows c.nothing) (c.cast (literal_type than) (c.int than)))

    seen_is : (place : ℕ) → place < length (out-Select q).list → (qualified_from s.levels from).seen ≡ seen (length (out-Select q).list) ∷ []
    seen_is place lt =
        let w : FromItem = source_at q (select_of P q 1) in
        let part : (qualified_part w s.levels []).seen ≡ record { alias = alias; columns = n.names_or (columns_of q) (qualified_shown (one (select_of P q 1)) ([] ∷ s.levels)).names } =
        ap (λ (p : Part). p.seen) (d.part_rule w s.levels [] ∙ ap (n.shaped alias) (d.sub_is (one (select_of P q 1)) false (columns_of q) s.levels [])) in
        ap (λ a. a.seen) (from_is s.levels from)
        ∙ ap (λ x. x ∷ []) (part ∙ ap (λ ns. record { alias = alias; columns = ns }) (names_given (columns_of q) _ place _ (there (length (out-Select q).list) place lt)))

    pub pick_clear : (place : ℕ) → place < length (out-Select q).list → IsClear value s (expr_of P (pick q place) 0)
    pick_clear place lt =
        let many : ℕ = length (out-Select q).list in
        over_clear (col 0 0 place) (Some (expr.Int (pos 1)))
        (subst (λ level. IsClear value (inside level s) (expr.Column (place_at place))) (sym (seen_is place lt))
        (c.column (place_at place) alias (value_name place) (called_so many place s.levels lt) (found_so many place s.levels few lt)))
        (c.something (c.cast (literal_type (pos 1)) (c.int (pos 1))))

    -- and under a cast
    pub pick_as_clear : (cast : Option Ty) (place : ℕ) → place < length (out-Select q).list → IsClear value s (expr_of P (pick_as cast q place) 0)
    pick_as_clear None place lt = pick_clear place lt
    pick_as_clear (Some t) place lt = subst (λ (f : ℕ → Expr). IsClear value s (f 0)) (sym (eq.of_cast P (pick q place) t)) (c.cast t (pick_clear place lt))

-- ---- what it reads

module _ (slots : ℕ → Bool) where
  abbrev May : List Read → Type 0
  May = Allowed slots

  part_of : (u v : List Read) → May (u ++ v) → May u
  part_of u v h = left (one_of_these slots) u v h

  so : {X : Type 0} (at : X → List Read) (x y : X) → x ≡ y → May (at x) → May (at y)
  so at x y e h = subst (λ x. May (at x)) e h

  -- the only select of a query
  of_one : (q : Select) (d : ℕ) → May (query_of reading (one q) d) → May (select_of reading q d)
  of_one q d h = part_of (select_of reading q d) [] (so (λ (r : Reads). r d) _ _ (eq.of_query reading (q ∷ [])) h)

  of_source : (q : Select) (d : ℕ) → May (from_of reading (as_source q) d) → May (select_of reading q d)
  of_source q d h =
      of_one q d
      (so (λ (r : SourceReads). r (columns_of q) d) _ _ (eq.of_sub reading (one q) false)
      (so (λ f. source_of reading f.source f.columns d) _ _ (out-roll-FromItem (record { source = subquery q; alias = alias; columns = columns_of q })) h))

  of_over : (e : Expr) (limit : Option Expr) (q : Select) → May (expr_of reading (scalar_over e limit q) 0) → May (select_of reading q 1)
  of_over e limit q h =
      let whole = so (λ (r : Reads). r 0) _ _ (eq.of_select reading (item e ∷ []) (as_source q ∷ []) None [] limit) (of_one (over_source e limit q) 0 (so (λ (r : Reads). r 0) _ _ (eq.of_scalar reading (one (over_source e limit q))) h)) in
      let own : List Read = of_list 1 (map (λ x. item_of reading x) (item e ∷ [])) in
      let from : List Read = of_list 1 (map (λ x. from_of reading x) (as_source q ∷ [])) in
      of_source q 1 (part_of (from_of reading (as_source q) 1) [] (part_of from _ (right (one_of_these slots) own _ whole)))

  pub of_test : (op : CmpOp) (than : ℤ) (q : Select) → May (reads (count_compared op q than)) → May (select_of reading q 1)
  of_test op than q h =
      of_over expr.CountRows None q (part_of (expr_of reading (scalar_over expr.CountRows None q) 0) _ (so (λ (r : Reads). r 0) _ _ (eq.of_compare reading op (scalar_over expr.CountRows None q) (expr.Int than)) h))

  pub of_pick : (place : ℕ) (q : Select) → May (reads (pick q place)) → May (select_of reading q 1)
  of_pick place q h = of_over (col 0 0 place) (Some (expr.Int (pos 1))) q h

  pub of_pick_as : (cast : Option Ty) (place : ℕ) (q : Select) → May (reads (pick_as cast q place)) → May (select_of reading q 1)
  of_pick_as None place q h = of_pick place q h
  of_pick_as (Some t) place q h = of_pick place q (so (λ (r : Reads). r 0) _ _ (eq.of_cast reading (pick q place) t) h)

  -- as an expression of its own
  pub as_expression : (q : Select) (d : ℕ) → May (select_of reading q d) → May (expr_of reading (sight.query_of q) d)
  as_expression q d h =
      so (λ (r : Reads). r d) _ _ (sym (eq.of_scalar reading (one q) ∙ eq.of_query reading (q ∷ []))) (subst May (sym (append-nil (select_of reading q d))) h)
