-- Each entry of a checked function's table is clear where the query has it, without its marks.
use Rattle.std.proofs.Common.{◌≡◌, refl, ap, sym, subst, ◌∙◌, ℕ, ℤ, zero, suc, ◌+◌, ◌<◌, ◌≤◌, arith, pos, ◌==◌, Bool, true, false, List, [], ◌∷◌, map, length, get_or, slice_get, Option}
use Rattle.std.proofs.lemmas.Bool.{eqb-true, eq-eqb}
use Rattle.away_values.specs.declared.operators.ChainOp.{ChainOp}
use Rattle.away_values.specs.declared.operators.ChainOp.TheVariants as chain
use Rattle.away_values.specs.declared.operators.CmpOp.{CmpOp}
use Rattle.away_values.specs.declared.operators.CmpOp.TheVariants as cmp
use Rattle.away_values.specs.declared.operators.IntOp.TheVariants as int
use Rattle.away_values.specs.declared.operators.IsTest.TheVariants as is
use Rattle.away_values.specs.declared.types.Ty.{Ty}
use Rattle.away_values.specs.Operators.{literal_type}
use Rattle.away_trees.specs.declared.queries.Col.{Col}
use Rattle.away_trees.specs.declared.queries.Expr.{Expr}
use Rattle.away_trees.specs.declared.queries.Expr.TheVariants as expr
use Rattle.away_trees.specs.declared.queries.Expr.TheBlock as b
use Rattle.away_trees.specs.declared.schemas.Schema.{Schema}
use Rattle.away_trees.specs.declared.queries.Expr.TheViews.{out-Select}
use Rattle.away_trees.specs.declared.queries.Select.{Select}
use Rattle.away_trees.specs.declared.statements.Function.{Function}
use Rattle.away_trees.specs.Algebra.{Algebra, expr_of, select_of}
use Rattle.away_trees.specs.Count.{nodes}
use Rattle.away_trees.specs.Limits.{most_nodes}
use Rattle.away_trees.proofs.Equations as eq
use Rattle.away_names.specs.Lookups.{Level, Scope, inside}
use Rattle.away_typing.specs.Typing.{Places}
use Rattle.elaboration.specs.Converting.{Around, into_converted, marked}
use Rattle.elaboration.specs.Elaborating.{elaborated_select}
use Rattle.elaboration.specs.Erasing.{erasing, erased}
use Rattle.elaboration.specs.Marks.{plain_op}
use Rattle.elaboration_law.proofs.ErasedMarks.{marked_same, marked_select_same}
use Rattle.elaboration_law.proofs.Unmarked.{reading_blind}
use Rattle.sql_meaning.specs.Placed.{column_of, placed_at}
use Rattle.sql_meaning.specs.Reads.{Read, Reads, reading, reads, slots_of}
use Rattle.sql_meaning.specs.Template.{count_from}
use Rattle.plsql_meaning.specs.Sight.{query_of}
use Rattle.select_into.specs.Entries.{Target, cast_at, target_types, check_entries, pick_entry, pick_entries, into_entries, unmarked}
use Rattle.select_into.specs.Wrapped.{count_compared, picked}
use Rattle.away_types.specs.declared.slots.Slot.{Slot}
use Rattle.away_types.specs.CheckedFunctions.{IsChecked}
use Rattle.away_types.specs.FunctionChecks as function
use Rattle.away_types.specs.FunctionChecks.{around_in, body_of, resolved_function}
use Rattle.block_forms.specs.declared.fixed_list.Fixed.{Fixed}
use Rattle.block_forms.specs.declared.fixed_list.Fixed.TheVariants as fix
use Rattle.block_forms.specs.Expressions.{sources, source_expressions, expressions, whole_select}
use Rattle.block_forms.specs.FixedList.{a, b as second, null_as, a_is_null, of_two, compared, greatest, least, expression, entries, fixed_list}
use Rattle.block_forms.specs.Intos.{Into, intos}
use Rattle.block_forms.specs.Places.{Each}
use Rattle.block_forms.specs.Slots.{shown_types}
use Rattle.type_soundness.specs.Sorts.{Every}
use Rattle.type_soundness.proofs.Lists.{every_append}
use Rattle.qualified_names.specs.Unambiguous.{value, select, IsClear}
use Rattle.qualified_names.specs.Unambiguous as c
use Rattle.cte_names.specs.Own.{SeesTables, IsOwn}
use Rattle.cte_names.specs.ExpressionLaws.{PlacedAreClear}
use Rattle.cte_names.proofs.Refined.{LevelsSo}
use Rattle.cte_names.proofs.Standing.{under, placing, Allowed}
use Rattle.cte_names.proofs.PlacedParts.{plain_twice}
use Rattle.cte_names.proofs.PlacedTrees.{expr_clear}
use Rattle.cte_names.proofs.PlainPlaced.{placing_blind}
use Rattle.cte_names.proofs.ErasedPlaced.{erased_placed}
use Rattle.cte_names.proofs.OwnLeaves.{own_leaves}
use Rattle.cte_names.proofs.ReadSlots.{is_in, stands, reads_own}
use Rattle.cte_names.proofs.FewTargets.{IsFew, few_targets}
use Rattle.cte_names.proofs.IntoClear.{select_inside, test_clear, pick_as_clear, of_test, of_pick_as, as_expression}
use Rattle.cte_names.proofs.IntoLists.{HasItsList, checked_lists}
use Rattle.cte_names.proofs.ItemsTyped.{picked_length, picked_reads, picked_clear}
use Rattle.cte_names.proofs.MarkedItems.{picked_unmarked}
use Rattle.cte_names.proofs.ConvertedEntries.{converted_goes}
use Rattle.cte_names.proofs.Sources.{IsResolved, checked_sources}

-- clear at each place that sees the schema's tables, where its slots are columns of the query's own
abbrev Placed : Schema → Expr → Type 0
Placed schema e =
    (t : Ty) (s : Scope) (ref : ℕ → Col) → SeesTables schema s → Each (λ k. IsOwn s.levels (ref k)) (slots_of e) → IsClear value s (erased (placed_at t ref e))

module _ (s : Scope) (ref : ℕ → Col) where
  abbrev P : Algebra
  P = placing (column_of ref)

  -- without its marks
  abbrev IsPlaced : Expr → Type 0
  IsPlaced e = IsClear value s (expr_of P e 0)

  whole : (t : Ty) (e : Expr) → IsPlaced e → IsClear value s (erased (placed_at t ref e))
  unfolding erased
  whole t b.Null h = subst (IsClear value s) (sym (eq.of_cast erasing expr.Null t)) (c.cast t c.null)
  whole t e h = subst (IsClear value s) (sym (erased_placed (column_of ref) (λ d i. refl) 0 e)) h

  by : (v w : ℕ → Expr) → v ≡ w → IsClear value s (w 0) → IsClear value s (v 0)
  by v w e h = subst (λ (x : ℕ → Expr). IsClear value s (x 0)) (sym e) h

  slot : (k : ℕ) → IsOwn s.levels (ref k) → IsPlaced (expr.Slot k)
  slot k h = (own_leaves s (λ i. k == i) ref (λ i e. subst (λ j. IsOwn s.levels (ref j)) (eqb-true k i e) h) [] [] tt k (eq-eqb k k refl)).clear

  number : (n : ℤ) → IsPlaced (expr.Int n)
  number n = c.cast (literal_type n) (c.int n)

  with_type : (e : Expr) (t : Ty) → IsPlaced e → IsPlaced (expr.Cast e t)
  with_type e t h = by _ _ (eq.of_cast P e t) (c.cast t h)

  is_null : (e : Expr) → IsPlaced e → IsPlaced (expr.Is e is.Null false)
  is_null e h = by _ _ (eq.of_is P e is.Null false) (c.is is.Null false h)

  minus : (e : Expr) → IsPlaced e → IsPlaced (expr.Neg e)
  minus e h = by _ _ (eq.of_neg P e) (c.neg h)

  two : (op : ChainOp) (x y : Expr) → IsPlaced x → IsPlaced y → IsPlaced (of_two op x y)
  two op x y h k = by _ _ (eq.of_chain P x ((op, y) ∷ [])) (c.chain h (c.one_link (plain_op op) (plain_twice op) k c.no_link))

  compare : (op : CmpOp) (x y : Expr) → IsPlaced x → IsPlaced y → IsPlaced (compared op x y)
  compare op x y h k = by _ _ (eq.of_compare P op x y) (c.compare op h k)

-- ---- source expressions

-- two facts of each element
both : {A : Type 0} (P Q : A → Type 0) (xs : List A) → Every P xs → Every Q xs → Every (λ x. P x × Q x) xs
both P Q [] h k = tt
both P Q (x ∷ xs) h k = ((h.0, k.0), both P Q xs h.1 k.1)

as_many_types : (types : List Ty) (targets : List Target) → length (target_types types targets) ≡ length targets
as_many_types types [] = refl
as_many_types types (t ∷ ts) = ap (λ n. suc n) (as_many_types types ts)

module _ (schema : Schema) where
  -- at a place where the slots of an entry are columns of the query's own
  module _ (s : Scope) (ref : ℕ → Col) (tables : SeesTables schema s) (entry : Expr) (own : Each (λ k. IsOwn s.levels (ref k)) (slots_of entry)) where
    abbrev May : List Read → Type 0
    May = Allowed (is_in (slots_of entry))

    owned : (i : ℕ) → is_in (slots_of entry) i ≡ true → IsOwn s.levels (ref i)
    owned i h = let p = stands (slots_of entry) i h in own p.place i p.there

    -- under selects of the query's own where nothing is in sight
    resolved_placed : (e : Expr) → IsResolved schema e → (ms : List Level) → LevelsSo [] ms → May (expr_of reading e (length ms)) → IsClear value (under ms s) (expr_of (placing (column_of ref)) e (length ms))
    resolved_placed e r ms so h =
        subst (λ x. IsClear value (under ms s) (expr_of (placing (column_of ref)) x (length ms))) r.resolved
        (expr_clear s (is_in (slots_of entry)) (column_of ref) (own_leaves s (is_in (slots_of entry)) ref owned) r.written r.scope ms r.plain.in_function (λ x k. tables.tables x k ∙ ap (λ f. f x) (sym r.plain.tables)) r.plain.no_levels so r.clean
        (subst (λ x. May (expr_of reading x (length ms))) (sym r.resolved) h))

    marked_placed : (p : Places) (e : Expr) → IsResolved schema e → May (reads (marked p e)) → IsPlaced s ref (marked p e)
    marked_placed p e r h =
        subst (λ (f : ℕ → Expr). IsClear value s (f 0)) (sym (marked_same (placing (column_of ref)) (placing_blind (column_of ref)) e p))
        (resolved_placed e r [] tt (subst (λ (rs : Reads). May (rs 0)) (marked_same reading reading_blind e p) h))

    -- the select is clear one select further in
    select_placed : (q : Select) → IsResolved schema (query_of q) → May (select_of reading q 1) → IsClear select (inside [] s) (select_of (placing (column_of ref)) q 1)
    select_placed q r h = select_inside (column_of ref) (inside [] s) q 1 (resolved_placed (query_of q) r ([] ∷ []) (refl, tt) (as_expression (is_in (slots_of entry)) q 1 h))

  module _ (p : Places) where
    source_marked : (e : Expr) → IsResolved schema e → Placed schema (marked p e)
    source_marked e r t s ref tables own = whole s ref t (marked p e) (marked_placed s ref tables (marked p e) own p e r (reads_own (marked p e)))

    source_cast : (u : Ty) (e : Expr) → IsResolved schema e → Placed schema (expr.Cast (marked p e) u)
    source_cast u e r t s ref tables own =
        let x : Expr = expr.Cast (marked p e) u in
        whole s ref t x
        (with_type s ref (marked p e) u
        (marked_placed s ref tables x own p e r (subst (λ (rs : Reads). Allowed (is_in (slots_of x)) (rs 0)) (eq.of_cast reading (marked p e) u) (reads_own x))))

  -- ---- the tests and the picks of a SELECT INTO

  module _ (a : Around) (targets : List Target) (q : Select) (r : IsResolved schema (query_of q)) (few : length (out-Select (into_converted a targets q)).list ≤ most_nodes) where
    abbrev x : Select
    x = into_converted a targets q

    abbrev elaborated_q : Select
    elaborated_q = (elaborated_select a.places q).it

    few_picked : (types : List Ty) → length (out-Select (picked types x)).list ≤ most_nodes
    few_picked types = omega (arith, few, picked_length types x)

    picked_reading : (types : List Ty) → select_of reading (picked types x) ≡ select_of reading q
    picked_reading types = ap (λ x. select_of reading x) (picked_unmarked types a targets q) ∙ (picked_reads types elaborated_q ∙ marked_select_same reading reading_blind q a.places)

    module _ (s : Scope) (ref : ℕ → Col) (tables : SeesTables schema s) (entry : Expr) (own : Each (λ k. IsOwn s.levels (ref k)) (slots_of entry)) where
      picked_placed : (types : List Ty) → Allowed (is_in (slots_of entry)) (select_of reading (picked types x) 1) → IsClear select (inside [] s) (select_of (placing (column_of ref)) (picked types x) 1)
      picked_placed types h =
          let inner = select_placed s ref tables entry own q r (subst (λ (rs : Reads). Allowed (is_in (slots_of entry)) (rs 1)) (picked_reading types) h) in
          subst (λ y. IsClear select (inside [] s) (select_of (placing (column_of ref)) y 1)) (sym (picked_unmarked types a targets q))
          (picked_clear (column_of ref) (inside [] s) 1 types elaborated_q
          (subst (λ (f : ℕ → Select). IsClear select (inside [] s) (f 1)) (sym (marked_select_same (placing (column_of ref)) (placing_blind (column_of ref)) q a.places)) inner))

    test_of : (op : CmpOp) (than : ℤ) → Placed schema (count_compared op (unmarked x) than)
    test_of op than t s ref tables own =
        let e : Expr = count_compared op (unmarked x) than in
        whole s ref t e
        (test_clear (column_of ref) s (unmarked x) (few_picked []) (picked_placed s ref tables e own [] (of_test (is_in (slots_of e)) op than (unmarked x) (reads_own e))) op than)

    pick_of : (types : List Ty) (place : ℕ) → place < length (out-Select x).list → Placed schema (pick_entry types x place)
    pick_of types place lt t s ref tables own =
        let cast : Option Ty = cast_at types (out-Select x).list place in
        let e : Expr = pick_entry types x place in
        whole s ref t e
        (pick_as_clear (column_of ref) s (picked types x) (few_picked types) (picked_placed s ref tables e own types (of_pick_as (is_in (slots_of e)) cast place (picked types x) (reads_own e))) cast place
        (omega (arith, lt, picked_length types x)))

    checks_placed : (strict : Bool) → Every (Placed schema) (check_entries strict (unmarked x))
    checks_placed true = (test_of cmp.Eq (pos 0), (test_of cmp.Gt (pos 1), tt))
    checks_placed false = tt

    picks_placed : (types : List Ty) (i n : ℕ) → i + n ≤ length (out-Select x).list → Every (Placed schema) (map (pick_entry types x) (count_from i n))
    picks_placed types i zero lt = tt
    picks_placed types i (suc n) lt = (pick_of types i (omega (arith, lt)), picks_placed types (suc i) n (omega (arith, lt)))

  abbrev Fits : Into → Type 0
  Fits i = HasItsList i × IsFew most_nodes i

  into_placed : (types : List Ty) (a : Around) (strict : Bool) (targets : List Target) (q : Select) → Fits (record { targets = targets; query = into_converted a targets q }) → Every (IsResolved schema) (whole_select strict targets q)
      → Every (Placed schema) (into_entries types strict targets (into_converted a targets q))
  into_placed types a strict targets q f r =
      let own : List Ty = target_types types targets in
      let x : Select = into_converted a targets q in
      let few : length (out-Select x).list ≤ most_nodes = omega (arith, f.0, f.1) in
      every_append (Placed schema) (check_entries strict (unmarked x)) (pick_entries own x) (checks_placed a targets q r.0 few strict)
      (picks_placed a targets q r.0 few own 0 (length own) (omega (arith, f.0, as_many_types types targets)))

  -- ---- all of a function

  body_placed : (written : Function) (slots : List Slot) → IsChecked schema written (resolved_function schema written) slots → nodes (resolved_function schema written) ≤ most_nodes
      → Every (Placed schema) (source_expressions (resolved_function schema written))
  unfolding sources intos
  body_placed written slots h few =
      let f : Function = resolved_function schema written in
      let a : Around = around_in schema (function.slots_of schema written) written.result in
      converted_goes whole_select (into_entries (shown_types f)) (IsResolved schema) (Placed schema) Fits a (source_marked a.places) (source_cast a.places) (into_placed (shown_types f) a) (body_of schema written).it
      (both HasItsList (IsFew most_nodes) (intos f.body) (checked_lists schema written f slots h) (few_targets f most_nodes few)) (checked_sources schema written f slots h)

  sources_placed : (written f : Function) (slots : List Slot) → IsChecked schema written f slots → nodes f ≤ most_nodes → Every (Placed schema) (source_expressions f)
  sources_placed written f slots h few =
      subst (λ (f : Function). Every (Placed schema) (source_expressions f)) (sym h.function)
      (body_placed written slots (record { unbroken = h.unbroken; function = refl; slots_are = h.slots_are }) (subst (λ (f : Function). nodes f ≤ most_nodes) h.function few))

  -- ---- the fixed list

  null_placed : (u : Ty) → Placed schema (null_as u)
  null_placed u t s ref tables own = whole s ref t (null_as u) (with_type s ref expr.Null u c.null)

  first_placed : Placed schema a
  first_placed t s ref tables own = whole s ref t a (slot s ref 0 (own 0 0 refl))

  test_placed : Placed schema a_is_null
  unfolding b.hidden-the_row-Expr-0 denote.Hole.Carrier.hidden
  test_placed t s ref tables own = whole s ref t a_is_null (is_null s ref a (slot s ref 0 (own 0 0 refl)))

  not_positive_placed : Placed schema (compared cmp.Le a (expr.Int (pos 0)))
  unfolding b.hidden-the_row-Expr-0 denote.Hole.Carrier.hidden
  not_positive_placed t s ref tables own = whole s ref t (compared cmp.Le a (expr.Int (pos 0))) (compare s ref cmp.Le a (expr.Int (pos 0)) (slot s ref 0 (own 0 0 refl)) (number s ref (pos 0)))

  both_compared : (op : CmpOp) → Placed schema (compared op a second)
  unfolding b.hidden-the_row-Expr-0 denote.Hole.Carrier.hidden
  both_compared op t s ref tables own = whole s ref t (compared op a second) (compare s ref op a second (slot s ref 0 (own 0 0 refl)) (slot s ref 1 (own 1 1 refl)))

  greatest_placed : (s : Scope) (ref : ℕ → Col) → IsPlaced s ref greatest
  greatest_placed s ref = number s ref (pos 2147483647)

  -- the minus stands over a literal, which has its cast
  least_placed : (s : Scope) (ref : ℕ → Col) → IsPlaced s ref least
  least_placed s ref = minus s ref (expr.Int (pos 2147483648)) (number s ref (pos 2147483648))

  limit_compared : (op : CmpOp) (step : ChainOp) (limit : Expr) → slots_of (compared op (of_two step limit a) second) ≡ 0 ∷ 1 ∷ []
      → ((s : Scope) (ref : ℕ → Col) → IsPlaced s ref limit) → Placed schema (compared op (of_two step limit a) second)
  limit_compared op step limit reads placed t s ref tables own =
      let first = own 0 0 (ap (λ ks. slice_get ks 0) reads) in
      let other = own 1 1 (ap (λ ks. slice_get ks 1) reads) in
      whole s ref t (compared op (of_two step limit a) second)
      (compare s ref op (of_two step limit a) second (two s ref step limit a (placed s ref) (slot s ref 0 first)) (slot s ref 1 other))

  step_placed : (op : ChainOp) → Placed schema (of_two op a second)
  unfolding b.hidden-the_row-Expr-0 b.hidden-the_row-Expr-Chain-1-2-1 denote.Hole.Carrier.hidden
  step_placed op t s ref tables own = whole s ref t (of_two op a second) (two s ref op a second (slot s ref 0 (own 0 0 refl)) (slot s ref 1 (own 1 1 refl)))

  one_placed : Placed schema (expr.Int (pos 1))
  one_placed t s ref tables own = whole s ref t (expr.Int (pos 1)) (number s ref (pos 1))

  entry_placed : (e : Fixed) → Placed schema (expression e)
  unfolding b.hidden-the_row-Expr-0 b.hidden-the_row-Expr-Chain-1-2-1 denote.Hole.Carrier.hidden
  entry_placed (fix.Null t) = null_placed t
  entry_placed (fix.IsNull t) = test_placed
  entry_placed fix.NotPositive = not_positive_placed
  entry_placed fix.AtMost = both_compared cmp.Le
  entry_placed fix.AtLeast = both_compared cmp.Ge
  entry_placed fix.PastGreatest = limit_compared cmp.Lt (chain.Small int.Sub) greatest refl greatest_placed
  entry_placed fix.PastLeast = limit_compared cmp.Gt (chain.Int int.Add) least refl least_placed
  entry_placed fix.Sum = step_placed (chain.Small int.Add)
  entry_placed fix.Difference = step_placed (chain.Small int.Sub)
  entry_placed fix.One = one_placed
  entry_placed fix.Copy = first_placed

  all_placed : (xs : List Fixed) → Every (Placed schema) (map expression xs)
  all_placed [] = tt
  all_placed (x ∷ xs) = (entry_placed x, all_placed xs)

  fixed_placed : Every (Placed schema) fixed_list
  fixed_placed = all_placed entries

  -- ---- by places

  nothing_placed : Placed schema expr.Null
  nothing_placed t s ref tables own = whole s ref t expr.Null c.null

  at_place : (es : List Expr) → Every (Placed schema) es → (i : ℕ) → Placed schema (get_or es i expr.Null)
  at_place [] h i = nothing_placed
  at_place (e ∷ es) h zero = h.0
  at_place (e ∷ es) h (suc i) = at_place es h.1 i

pub placed_are_clear : PlacedAreClear
placed_are_clear schema written f slots h few i t s ref tables own =
    at_place schema (expressions f) (every_append (Placed schema) (source_expressions f) fixed_list (sources_placed schema written f slots h few) (fixed_placed schema)) i t s ref tables own
