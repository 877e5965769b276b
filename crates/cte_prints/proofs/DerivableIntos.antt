-- The tests and the picks of a SELECT INTO can be derived, where its select was read.
use Rattle.std.proofs.Common.{◌≡◌, refl, ap, sym, subst, ◌∙◌, ℕ, zero, suc, ◌+◌, ◌*◌, ◌<◌, ◌≤◌, ◌^◌, arith, Bool, true, false, List, [], ◌∷◌, ◌++◌, map, length, pos, Option, Some}
use Rattle.away_values.specs.declared.operators.CmpOp.{CmpOp}
use Rattle.away_values.specs.declared.operators.CmpOp.TheVariants as cmp
use Rattle.away_values.specs.declared.types.Ty.{Ty}
use Rattle.away_grammar.specs.declared.grammar.Mark.{Mark}
use Rattle.away_grammar.specs.declared.grammar.Mark.TheVariants as m
use Rattle.away_grammar.specs.declared.grammar.Level.TheVariants as l
use Rattle.away_grammar.specs.Grammar.{at, query, comparison_of}
use Rattle.away_trees.specs.declared.queries.Col.{Col}
use Rattle.away_trees.specs.declared.queries.Expr.{Expr}
use Rattle.away_trees.specs.declared.queries.Expr.TheOpen as ex
use Rattle.away_trees.specs.declared.queries.Expr.TheVariants as expr
use Rattle.away_trees.specs.declared.queries.Expr.TheViews.{out-Expr, out-Select}
use Rattle.away_trees.specs.declared.queries.Query.{Query}
use Rattle.away_trees.specs.declared.queries.Select.{Select}
use Rattle.away_trees.specs.declared.schemas.Schema.{Schema}
use Rattle.away_trees.specs.Algebra.{expr_of, query_of, select_of}
use Rattle.away_trees.specs.Limits.{most_nodes}
use Rattle.away_trees.proofs.Equations as eq
use Rattle.away_names.specs.Lookups.{Level, Scope}
use Rattle.elaboration.specs.Converting as names
use Rattle.elaboration.specs.Converting.{Around, into_converted}
use Rattle.elaboration.specs.Elaborating.{elaborated_select}
use Rattle.sql_meaning.specs.Placed.{column_of, placed_at}
use Rattle.sql_meaning.specs.Reads.{Reads, of_list, reading, slots_of}
use Rattle.sql_meaning.specs.Template.{count_from}
use Rattle.sql_meaning.specs.Trees.{one}
use Rattle.plsql_meaning.specs.Sight as meaning
use Rattle.select_into.specs.Entries.{Target, cast_at, target_types, check_entries, pick_entry, pick_entries, into_entries, unmarked}
use Rattle.select_into.specs.Wrapped.{count_compared, pick_as, picked}
use Rattle.block_forms.specs.Intos.{Into}
use Rattle.block_forms.specs.Places.{Each}
use Rattle.type_soundness.specs.Sorts.{Every}
use Rattle.type_soundness.proofs.Lists.{every_append}
use Rattle.qualified_names.specs.Trees.{qualified_expr, qualified_shown}
use Rattle.qualified_names.proofs.QualifyingRules as d
use Rattle.cte_names.specs.Own.{SeesTables, IsOwn}
use Rattle.cte_names.proofs.FewTargets.{IsFew}
use Rattle.cte_names.proofs.IntoClear.{of_test, of_pick_as, as_expression}
use Rattle.cte_names.proofs.IntoLists.{HasItsList}
use Rattle.cte_names.proofs.ItemsTyped.{picked_length, picked_reads}
use Rattle.cte_names.proofs.ReadSlots.{is_in, reads_own}
use Rattle.cte_names.proofs.Standing.{Allowed, placing}
use Rattle.cte_prints.specs.Derivable.{Derivable}
use Rattle.cte_prints.specs.Derivation.{IsReadWithin}
use Rattle.cte_prints.specs.InSight.{SightIsWritable}
use Rattle.cte_prints.specs.Like as like
use Rattle.cte_prints.specs.Like.{IsLike, value}
use Rattle.cte_prints.proofs.DerivableEntries.{IsDerivableAt, IsWritableName, StandsLike, named_like, whole, written_like}
use Rattle.cte_prints.proofs.PlainPlaced.{plain_placed, select_placed, select_reads}
use Rattle.cte_prints.proofs.UnmarkedSelects.{into_unmarked, picked_again}
use Rattle.cte_prints.proofs.DeriveNodes.{deepened}
use Rattle.cte_prints.proofs.IntoDerivable.{test_derives, pick_as_derives}
use Rattle.cte_prints.proofs.LikeDerivable.{like_derivable}
use Rattle.cte_prints.proofs.PickedLike.{picked_like}
use Rattle.cte_prints.proofs.ScalarsInside.{Inside, ReadInside, read_inside}
use Rattle.cte_prints.proofs.Shapes as see
use Rattle.cte_prints.proofs.Shapes.{Node, Shape, shape, one as one_part, two, three, chain, choice, cases, call, alone, cast_to, column}
use Rattle.cte_prints.proofs.WrittenSources.{StandsFor}

-- ---- what is like a query in brackets is one

abbrev IsScalar : Node → Type 0
IsScalar (ex.Scalar q) = Unit {0}
IsScalar _ = ⊥

-- a query that was read, and what is like it
record LikeInside (d : ℕ) (u : Query) : Type 0 where
  pub written : Query
  pub read : ReadInside d written
  pub alike : IsLike like.query written u

module _ (d : ℕ) (q : Query) where
  is_scalar : {u : Expr} {n : Node} → out-Expr u ≡ n → u ≡ expr.Scalar q → IsScalar n
  is_scalar h z = subst IsScalar (sym (see.see_scalar q) ∙ (ap out-Expr (sym z) ∙ h)) tt

  queries_same : (p : Query) → expr.Scalar p ≡ expr.Scalar q → p ≡ q
  queries_same p z = let same : ex.Scalar p ≡ ex.Scalar q = sym (see.see_scalar p) ∙ (ap out-Expr z ∙ see.see_scalar q) in cc same

  inside_of : (n : Node) {u : Expr} → Shape n u → Inside d n → u ≡ expr.Scalar q → LikeInside d q
  inside_of (ex.Scalar w) (see.whole {p = p} h) k z = record { written = w; read = k; alike = subst (IsLike like.query w) (queries_same p z) h }
  inside_of (ex.Int n) h k z = absurd (is_scalar (see.see_cast (expr.Int n) _) (sym h ∙ z))
  inside_of (ex.Str t) h k z = absurd (is_scalar (see.see_cast (expr.Str t) _) (sym h ∙ z))
  inside_of (ex.Bool v) h k z = absurd (is_scalar (see.see_cast (expr.Bool v) _) (sym h ∙ z))
  inside_of ex.Null alone k z = absurd (is_scalar see.see_null z)
  inside_of ex.Null (cast_to t) k z = absurd (is_scalar (see.see_cast expr.Null t) z)
  inside_of (ex.Named n) (column a c h i) k z = absurd (is_scalar (see.see_qualified a c) z)
  inside_of (ex.Dotted b n) (column a c h i) k z = absurd (is_scalar (see.see_qualified a c) z)
  inside_of (ex.Slot i) h k z = absurd h
  inside_of (ex.Column c) h k z = absurd h
  inside_of (ex.Param i t) h k z = absurd h
  inside_of (ex.Neg x) (one_part {u = u} h) k z = absurd (is_scalar (see.see_neg u) z)
  inside_of (ex.NegSmall x) h k z = absurd h
  inside_of (ex.Not x) (one_part {u = u} h) k z = absurd (is_scalar (see.see_not u) z)
  inside_of (ex.Is x t v) (one_part {u = u} h) k z = absurd (is_scalar (see.see_is u t v) z)
  inside_of (ex.Chain x xs) (chain {u = u} {us = us} h i) k z = absurd (is_scalar (see.see_chain u us) z)
  inside_of (ex.Compare o x y) (two {u = u} {v = v} h i) k z = absurd (is_scalar (see.see_compare o u v) z)
  inside_of (ex.Between n x y w) (three {u = u} {v = v} {w = v2} h i j) k z = absurd (is_scalar (see.see_between n u v v2) z)
  inside_of (ex.OneOf n x xs) (choice {u = u} {us = us} h i) k z = absurd (is_scalar (see.see_one_of n u us) z)
  inside_of (ex.Cast x t) (one_part {u = u} h) k z = absurd (is_scalar (see.see_cast u t) z)
  inside_of (ex.Cases xs o) (cases {us = us} {u = u} h i) k z = absurd (is_scalar (see.see_cases us u) z)
  inside_of (ex.Call n xs) (call {us = us} h) k z = absurd (is_scalar (see.see_call n us) z)
  inside_of ex.CountRows h k z = absurd (is_scalar see.see_count_rows (sym h ∙ z))
  inside_of (ex.Exists x) (see.whole {p = p} h) k z = absurd (is_scalar (see.see_exists p) z)

  like_inside : (w u : Expr) → IsReadWithin d w → IsLike value w u → u ≡ expr.Scalar q → LikeInside d q
  like_inside w u h l z = inside_of (out-Expr w) (shape w u (out-Expr w) refl l) (read_inside d w h) z

-- ---- a query in brackets with what is like it in its place

scalar_like : {w u : Expr} → IsLike value w u → (q p : Query) → u ≡ expr.Scalar q → ((v : Query) → IsLike like.query v q → IsLike like.query v p) → IsLike value w (expr.Scalar p)
scalar_like (like.scalar {q = w} {p = x} i) q p z go = like.scalar (go w (subst (IsLike like.query w) (queries_same 0 q x z) i))
scalar_like like.null q p z go = absurd (is_scalar 0 q see.see_null z)
scalar_like (like.null_as t) q p z go = absurd (is_scalar 0 q (see.see_cast expr.Null t) z)
scalar_like (like.int n) q p z go = absurd (is_scalar 0 q (see.see_cast (expr.Int n) _) z)
scalar_like (like.str t) q p z go = absurd (is_scalar 0 q (see.see_cast (expr.Str t) _) z)
scalar_like (like.bool v) q p z go = absurd (is_scalar 0 q (see.see_cast (expr.Bool v) _) z)
scalar_like (like.named n a c i j) q p z go = absurd (is_scalar 0 q (see.see_qualified a c) z)
scalar_like (like.qualified b n a c i j) q p z go = absurd (is_scalar 0 q (see.see_qualified a c) z)
scalar_like (like.neg {u = u} i) q p z go = absurd (is_scalar 0 q (see.see_neg u) z)
scalar_like (like.not {u = u} i) q p z go = absurd (is_scalar 0 q (see.see_not u) z)
scalar_like (like.is {u = u} t v i) q p z go = absurd (is_scalar 0 q (see.see_is u t v) z)
scalar_like (like.chain {u = u} {us = us} i j) q p z go = absurd (is_scalar 0 q (see.see_chain u us) z)
scalar_like (like.compare {u = u} {v = v} o i j) q p z go = absurd (is_scalar 0 q (see.see_compare o u v) z)
scalar_like (like.between {u = u} {v = v} {w = w} n i j l) q p z go = absurd (is_scalar 0 q (see.see_between n u v w) z)
scalar_like (like.one_of {u = u} {us = us} n i j) q p z go = absurd (is_scalar 0 q (see.see_one_of n u us) z)
scalar_like (like.cast {u = u} t i) q p z go = absurd (is_scalar 0 q (see.see_cast u t) z)
scalar_like (like.cases {us = us} {u = u} i j) q p z go = absurd (is_scalar 0 q (see.see_cases us u) z)
scalar_like (like.call {us = us} n i) q p z go = absurd (is_scalar 0 q (see.see_call n us) z)
scalar_like like.count_rows q p z go = absurd (is_scalar 0 q see.see_count_rows z)
scalar_like (like.exists {p = x} i) q p z go = absurd (is_scalar 0 q (see.see_exists x) z)

-- ---- the select of an INTO in the checked body

module _ (leaf : ℕ → ℕ → Expr) (levels : List Level) (depth : ℕ) where
  -- as a query has it
  abbrev pub shown_at : Select → Query
  shown_at q = (qualified_shown (one (select_of (placing leaf) q depth)) levels).it

  pub scalar_shown : (q : Select) → qualified_expr (expr_of (placing leaf) (meaning.query_of q) depth) levels ≡ expr.Scalar (shown_at q)
  scalar_shown q =
      ap (λ (f : ℕ → Expr). qualified_expr (f depth) levels) (eq.of_scalar (placing leaf) (one q))
      ∙ (d.scalar_is (query_of (placing leaf) (one q) depth) levels
      ∙ ap (λ (f : ℕ → Query). expr.Scalar (qualified_shown (f depth) levels).it) (eq.of_query (placing leaf) (q ∷ [])))

reads_as : (q u : Select) → select_of reading u ≡ select_of reading q → expr_of reading (meaning.query_of u) ≡ expr_of reading (meaning.query_of q)
reads_as q u h =
    let is = λ (x : Select). eq.of_scalar reading (one x) ∙ eq.of_query reading (x ∷ []) in
    is u ∙ (ap (λ (r : Reads). λ d. of_list d (r ∷ [])) h ∙ sym (is q))

pub unmarked_like : (schema : Schema) (a : Around) (targets : List names.Target) (q : Select) → StandsFor (IsReadWithin 64) schema (meaning.query_of q)
    → StandsLike schema (meaning.query_of (unmarked (into_converted a targets q)))
unmarked_like schema a targets q r =
    let n = named_like schema (meaning.query_of q) r in
    let m : Select = (elaborated_select a.places q).it in
    let u : Select = unmarked (into_converted a targets q) in
    let is : u ≡ unmarked m = into_unmarked a targets q in
    record {
      written = n.written;
      holds = n.holds;
      like = λ s ref tables sight slots owned ms so h.
          let leaf = column_of ref in
          let l : List Level = ms ++ s.levels in
          let reads = reads_as q u (ap (λ (x : Select). select_of reading x) is ∙ (picked_reads [] m ∙ select_reads a.places q)) in
          let named = n.like s ref tables sight slots owned ms so (subst (λ (f : Reads). Allowed slots (f (length ms))) reads h) in
          subst (IsLike value n.written) (sym (scalar_shown leaf l (length ms) u))
          (scalar_like named (shown_at leaf l (length ms) q) (shown_at leaf l (length ms) u) (scalar_shown leaf l (length ms) q)
          (λ v i. subst (λ (x : Select). IsLike like.query v (shown_at leaf l (length ms) x)) (sym is)
          (picked_like leaf l (length ms) [] m
          (subst (λ (f : ℕ → Select). IsLike like.query v (qualified_shown (one (f (length ms))) l).it) (sym (select_placed leaf a.places q)) i))));
    }

-- ---- entries

as_many_types : (types : List Ty) (targets : List Target) → length (target_types types targets) ≡ length targets
as_many_types types [] = refl
as_many_types types (t ∷ ts) = ap (λ n. suc n) (as_many_types types ts)

module _ (schema : Schema) where
  -- a place for an entry
  module _ (s : Scope) (ref : ℕ → Col) (tables : SeesTables schema s) (sight : SightIsWritable s.levels) (e : Expr)
      (own : Each (λ k. IsOwn s.levels (ref k)) (slots_of e)) where
    abbrev inner : Select → Query
    inner q = shown_at (column_of ref) ([] ∷ s.levels) 1 q

    -- the select of the entry, where it is in the FROM of a query of its own
    select_inside : (q : Select) → StandsLike schema (meaning.query_of q) → Allowed (is_in (slots_of e)) (select_of reading q 1) → LikeInside 64 (inner q)
    select_inside q r h =
        like_inside 64 (inner q) r.written _ r.holds (written_like schema s ref tables sight e own (meaning.query_of q) r ([] ∷ []) (refl, tt) (as_expression (is_in (slots_of e)) q 1 h))
        (scalar_shown (column_of ref) ([] ∷ s.levels) 1 q)

    derived : (u : Query) → LikeInside 64 u → Derivable 192 query u
    derived u h =
        deepened (3 * h.read.depth + 3) 192 (let le = h.read.less in omega (arith, le)) (like_derivable h.read.reads h.read.writable u h.alike)

    picked_inside : (types : List Ty) (q : Select) → LikeInside 64 (inner q) → LikeInside 64 (inner (picked types q))
    picked_inside types q h =
        record { written = h.written; read = h.read; alike = picked_like (column_of ref) ([] ∷ s.levels) 1 types q h.alike }

  -- the select without the marks of its items
  abbrev Stands : Select → Type 0
  Stands q = StandsLike schema (meaning.query_of (unmarked q))

  abbrev Few : Select → Type 0
  Few q = length (out-Select q).list ≤ most_nodes

  entry_at : (t : Ty) (s : Scope) (ref : ℕ → Col) (e : Expr) (n : ℕ) → n ≤ 196 → Derivable n (at l.Or) (qualified_expr (expr_of (placing (column_of ref)) e 0) s.levels)
      → IsDerivableAt s (placed_at t ref e)
  entry_at t s ref e n le h = whole s t ref e (deepened n 196 le (subst (Derivable n (at l.Or)) (sym (plain_placed ref 0 e s.levels)) h))

  test_of : (op : CmpOp) (terminal : Mark) → comparison_of terminal ≡ Some op → (i : ℕ) → i < 2 ^ 63 → (q : Select) → Stands q → Few q
      → IsWritableName schema (count_compared op (unmarked q) (pos i))
  test_of op terminal is i low q r few t s ref tables sight own =
      let p : Select = unmarked q in
      let e : Expr = count_compared op p (pos i) in
      entry_at t s ref e 194 (omega arith)
      (test_derives (column_of ref) 192 s.levels p (omega (arith, few, picked_length [] q))
      (derived s ref tables sight e own _ (select_inside s ref tables sight e own p r (of_test (is_in (slots_of e)) op (pos i) p (reads_own e)))) op terminal is i low)

  pick_of : (types : List Ty) (q : Select) → Stands q → Few q → (place : ℕ) → place < length (out-Select q).list → IsWritableName schema (pick_entry types q place)
  pick_of types q r few place lt t s ref tables sight own =
      let p : Select = picked types q in
      let c : Option Ty = cast_at types (out-Select q).list place in
      let e : Expr = pick_as c p place in
      let may = subst (λ (x : Reads). Allowed (is_in (slots_of e)) (x 1)) (picked_reads types q ∙ sym (picked_reads [] q))
      (of_pick_as (is_in (slots_of e)) c place p (reads_own e)) in
      let within = subst (λ (x : Select). LikeInside 64 (inner s ref tables sight e own x)) (picked_again types q)
      (picked_inside s ref tables sight e own types (unmarked q) (select_inside s ref tables sight e own (unmarked q) r may)) in
      entry_at t s ref e 195 (omega arith)
      (pick_as_derives (column_of ref) 192 s.levels p (omega (arith, few, picked_length types q)) (derived s ref tables sight e own _ within) c
      place (omega (arith, lt, picked_length types q)))

  checks_derivable : (strict : Bool) (q : Select) → Stands q → Few q → Every (IsWritableName schema) (check_entries strict (unmarked q))
  checks_derivable true q r few = (test_of cmp.Eq m.Equal refl 0 (omega arith) q r few, (test_of cmp.Gt m.Greater refl 1 (omega arith) q r few, tt))
  checks_derivable false q r few = tt

  picks_derivable : (types : List Ty) (q : Select) → Stands q → Few q → (i n : ℕ) → i + n ≤ length (out-Select q).list
      → Every (IsWritableName schema) (map (pick_entry types q) (count_from i n))
  picks_derivable types q r few i zero lt = tt
  picks_derivable types q r few i (suc n) lt =
      (pick_of types q r few i (omega (arith, lt)), picks_derivable types q r few (suc i) n (omega (arith, lt)))

  -- a target for each item, and no more than so many
  abbrev pub Fits : Into → Type 0
  Fits i = HasItsList i × IsFew most_nodes i

  pub into_derivable : (types : List Ty) (strict : Bool) (targets : List Target) (q : Select)
      → Fits (record { targets = targets; query = q }) → Stands q → Every (IsWritableName schema) (into_entries types strict targets q)
  into_derivable types strict targets q f r =
      let own : List Ty = target_types types targets in
      let few : Few q = omega (arith, f.0, f.1) in
      every_append (IsWritableName schema) (check_entries strict (unmarked q)) (pick_entries own q) (checks_derivable strict q r few)
      (picks_derivable own q r few 0 (length own) (omega (arith, f.0, as_many_types types targets)))
