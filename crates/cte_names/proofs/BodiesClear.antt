-- The select of a body is clear.
use Rattle.std.proofs.Common.{◌≡◌, refl, ap, sym, subst, ℕ, zero, suc, ◌+◌, ◌-◌, ◌<◌, ◌≤◌, ◌^◌, true, false, pos, List}
use Rattle.std.proofs.Common.{[], ◌∷◌, ◌++◌, map, length, get_or, Some, None, length-append, append_assoc, arith}
use Rattle.away_trees.specs.declared.queries.Col.{Col}
use Rattle.away_trees.specs.declared.queries.Expr.{Expr}
use Rattle.away_trees.specs.declared.queries.Expr.TheVariants as expr
use Rattle.away_trees.specs.declared.queries.Expr.TheViews.{roll-Query}
use Rattle.away_trees.specs.declared.queries.FromItem.{FromItem}
use Rattle.away_trees.specs.declared.queries.Query.{Query}
use Rattle.away_trees.specs.declared.queries.Select.{Select}
use Rattle.away_trees.specs.declared.schemas.Schema.{Schema}
use Rattle.away_values.specs.declared.operators.IsTest.TheVariants as test
use Rattle.away_values.specs.declared.types.Ty.{Ty}
use Rattle.away_values.specs.declared.types.Ty.TheVariants as ty
use Rattle.away_names.specs.Lookups.{Level, Scope, inside}
use Rattle.block_forms.specs.declared.forms.Term.{Term}
use Rattle.block_forms.specs.Places.{Each}
use Rattle.call_forms.specs.Bodies.{Body, sets, enters, picks, returns, fails, calls, endless}
use Rattle.call_forms.specs.Called.{Among}
use Rattle.call_forms.specs.Scopes as scopes
use Rattle.call_forms.specs.Scopes.{paired}
use Rattle.call_forms.specs.Template.{is_not_true, deeper}
use Rattle.call_forms.specs.Templated.{HasTree, HasReferences}
use Rattle.qualified_names.specs.Unambiguous as c
use Rattle.qualified_names.specs.Unambiguous.{IsClear, value, select, query}
use Rattle.sql_meaning.specs.Placed.{placed_at}
use Rattle.sql_meaning.specs.Reads.{slots_of}
use Rattle.sql_meaning.specs.Template.{count_from}
use Rattle.sql_meaning.specs.Trees.{col, null_of, truth, number, one}
use Rattle.sql_meaning.specs.Trees as tree
use Rattle.cte_parts.specs.Columns.{column_beside}
use Rattle.cte_parts.specs.Names.{only_name, go_name, label_name, result_name, fault_name, value_names}
use Rattle.cte_parts.specs.Trees.{gate_as, either_as}
use Rattle.cte_template.specs.Making.{Making}
use Rattle.cte_template.specs.Places.{nowhere, first_of, seen, stands, beside}
use Rattle.cte_template.specs.Walks.{Walked, walk, selected, ended, let_at, value_at, column_at, cell, cells_at, all_columns, end_row, call_row, class_text}
use Rattle.cte_template.specs.declared.places.ItemColumn.{ItemColumn}
use Rattle.cte_template.proofs.PlacesSeen.{deeper_is, shallow_stands, shallow_paired}
use Rattle.cte_names.specs.Own.{SeesTables, IsOwn}
use Rattle.cte_names.proofs.Differences.{every_both}
use Rattle.cte_names.proofs.OwnNames.{only_kept, only_apart, row_apart, column_there}
use Rattle.cte_names.proofs.OwnColumns.{Own, is_own, column_clear, own_deeper}
use Rattle.cte_names.proofs.PassedNames.{paired_holds, slot_holds, stands_holds, beside_holds}
use Rattle.cte_names.proofs.Sighted.{Sighted, list_over, renamed, begun, added, column_of}
use Rattle.cte_names.proofs.SmallParts.{Clears, truth_clear, number_clear, null_clear, nulls_clear, let_clear, gate_clear}
use Rattle.cte_names.proofs.WalksRise.{rises}

first_seen : (depth item : ℕ) → seen depth (first_of depth item) ≡ record { level = 0; item = item; column = 0 }
first_seen depth item =
    let same : depth - depth ≡ 0 = omega arith in
    ap (λ level. record { level = level; item = item; column = 0 }) same

-- each expression of the table is clear where its slots are columns of the query's own
abbrev pub TableClears : Schema → List Expr → Type 0
TableClears schema table =
    (i : ℕ) (t : Ty) (s : Scope) (ref : ℕ → Col) → SeesTables schema s → Each (λ k. IsOwn s.levels (ref k)) (slots_of (get_or table i expr.Null))
    → IsClear value s (placed_at t ref (get_or table i expr.Null))

pub sees_inside : (schema : Schema) (s : Scope) (level : Level) → SeesTables schema s → SeesTables schema (inside level s)
sees_inside schema s level h = record { tables = h.tables }

module _ (schema : Schema) (m : Making) (clears : TableClears schema m.table) (narrow : length m.tail.columns < 2 ^ 64) where
  abbrev width : ℕ
  width = length m.tail.columns

  -- ---- rows

  end_clear : (s : Scope) (e class : Expr) → IsClear value s e → IsClear value s class
      → Clears s (truth false ∷ number (pos 0) ∷ (map null_of m.tail.columns ++ (e ∷ class ∷ [])))
  end_clear s e class h k = (
    truth_clear s false,
    (number_clear s (pos 0), every_both (λ e. IsClear value s e) (map null_of m.tail.columns) (e ∷ class ∷ []) (nulls_clear s m.tail.columns) (h, (k, tt))),
  )

  -- ---- what is in sight

  module _ (k depth : ℕ) (s : Scope) (fs : List FromItem) (names : List ℕ) (places : scopes.Scope ItemColumn) (h : Sighted k depth s fs names places) where
    -- a column in sight of the list
    own_at : (n : ℕ) → Among names n → IsClear value (inside h.level s) (expr.Column (column_at depth places n))
    own_at n among = column_clear k (inside h.level s) (column_at depth places n) (h.own n among)

    cell_clear : (t : Ty) (keys args : List ℕ) (i : ℕ) → Each (Among names) args → IsClear value (inside h.level s) (cell depth places t (beside keys args i))
    cell_clear t keys args i known =
        beside_holds (λ o. IsClear value (inside h.level s) (cell depth places t o)) keys args i (null_clear (inside h.level s) t)
        (λ n a. own_at n (known a.place n a.there))

    cells_clear : (i : ℕ) (keys args : List ℕ) (ts : List Ty) → Each (Among names) args → Clears (inside h.level s) (cells_at i depth places keys args ts)
    cells_clear i keys args [] known = tt
    cells_clear i keys args (t ∷ ts) known = (cell_clear t keys args i known, cells_clear (suc i) keys args ts known)

    call_clear : (n : ℕ) (keys args : List ℕ) → Each (Among names) args
        → Clears (inside h.level s)
        (truth true ∷ number (pos (suc n)) ∷ (cells_at 0 depth places keys args m.tail.columns ++ (null_of m.result ∷ null_of ty.Text ∷ [])))
    call_clear n keys args known = (
      truth_clear _ true,
      (
        number_clear _ (pos (suc n)),
        every_both (λ e. IsClear value (inside h.level s) e) (cells_at 0 depth places keys args m.tail.columns) (null_of m.result ∷ null_of ty.Text ∷ [])
            (cells_clear 0 keys args m.tail.columns known) (null_clear _ m.result, (null_clear _ ty.Text, tt)),
      ),
    )

    -- a term's expression, whose item sees the items before it
    value_clear : (t : Ty) (u : Term) → SeesTables schema s → HasReferences m.table names u
        → IsClear value (inside [] (inside h.level s)) (value_at m depth places t u)
    value_clear t u sees refers =
        let here : Scope = inside [] (inside h.level s) in
        let slots : List ℕ = slots_of (get_or m.table u.expr expr.Null) in
        clears u.expr t here (column_beside slots (map (column_at (suc depth) places) u.names) (seen (suc depth) nowhere))
        (sees_inside schema (inside h.level s) [] (sees_inside schema s h.level sees))
        (λ place slot there.
        slot_holds (IsOwn here.levels) (column_at (suc depth) places) (seen (suc depth) nowhere) slots u.names slot refers.as_many
        (λ n among. subst (IsOwn here.levels) (sym (deeper_is depth (places n) (h.shallow n)))
        (is_own k here.levels (deeper (seen depth (places n)))
        (own_deeper k (h.level ∷ s.levels) (seen depth (places n)) (h.own n (refers.known among.place n among.there)))))
        (record { place = place; there = there }))

    -- behind a term's item its value is in sight of the list
    module _ (fits : k < 2 ^ 64) (sees : SeesTables schema s) (t : Ty) (u : Term) (refers : HasReferences m.table names u) where
      abbrev pub let_query : Query
      let_query = one (tree.select (value_at m depth places t u ∷ []) [] None)

      pub with_let : Sighted (suc k) depth s (fs ++ let_at m depth places k t u ∷ []) names places
      with_let =
          added k depth s fs names places fits h only_name [] let_query only_apart
          (let_clear (inside h.level s) (value_at m depth places t u) (value_clear t u sees refers))

      abbrev pub let_column : Col
      let_column = record { level = 0; item = length fs; column = 0 }

      pub let_own : Own (suc k) (with_let.level ∷ s.levels) let_column
      unfolding with_let added
      let_own = column_of k depth s fs names places fits h only_name [] let_query 0 only_name only_apart only_kept refl

      -- the name that is assigned stands there
      pub assigned : (n : ℕ) → Sighted (suc k) depth s (fs ++ let_at m depth places k t u ∷ []) (n ∷ names) (stands n (first_of depth (length fs)) places)
      assigned n =
          renamed (suc k) depth s (fs ++ let_at m depth places k t u ∷ []) names places with_let (n ∷ names) (stands n (first_of depth (length fs)) places)
          (shallow_stands depth n (length fs) places h.shallow)
          (stands_holds (λ p. Own (suc k) (with_let.level ∷ s.levels) (seen depth p)) n (first_of depth (length fs)) places names
          (subst (Own (suc k) (with_let.level ∷ s.levels)) (sym (first_seen depth (length fs))) let_own) with_let.own)

    -- behind an item of rows
    module _ (fits : k < 2 ^ 64) (a b : Select) (clear_a : IsClear select (inside h.level s) a) (clear_b : IsClear select (inside h.level s) b) where
      abbrev pub rows_query : Query
      rows_query = roll-Query (record { recursive = None; selects = a ∷ b ∷ [] })

      pub with_rows : Sighted (suc k) depth s (fs ++ either_as k width a b ∷ []) names places
      with_rows =
          added k depth s fs names places fits h go_name (label_name ∷ value_names width ++ (result_name ∷ fault_name ∷ [])) rows_query (row_apart width narrow)
          (c.union (c.one_select clear_a (c.one_select clear_b c.no_select)))

      pub row_own : (i : ℕ) → i < suc (suc (suc (suc width))) → Own (suc k) (with_rows.level ∷ s.levels) (record { level = 0; item = length fs; column = i })
      unfolding with_rows added
      row_own i lt =
          let there = column_there width i lt in
          column_of k depth s fs names places fits h go_name (label_name ∷ value_names width ++ (result_name ∷ fault_name ∷ [])) rows_query i there.name
          (row_apart width narrow) there.kept there.there

      columns_from : (i n : ℕ) → i + n ≤ suc (suc (suc (suc width))) → Clears (inside with_rows.level s) (map (col 0 (length fs)) (count_from i n))
      columns_from i zero le = tt
      columns_from i (suc n) le =
          (column_clear (suc k) (inside with_rows.level s) _ (row_own i (omega (arith, le))), columns_from (suc i) n (omega (arith, le)))

      all_clear : Clears (inside with_rows.level s) (all_columns m (length fs))
      all_clear = columns_from 0 (suc (suc (suc (suc width)))) (omega arith)

  -- ---- the arms of a test

  -- the column of the test, seen from a gate in a select further in
  module _ (k j depth : ℕ) (s : Scope) (fs : List FromItem) (names : List ℕ) (places : scopes.Scope ItemColumn) (h : Sighted k depth s fs names places)
      (le : k ≤ j) (fits : j < 2 ^ 64)
      (col : Col) (own : Own k (h.level ∷ s.levels) col) where
    abbrev pub further : Scope
    further = inside h.level s

    abbrev pub arm : Sighted j (suc depth) further [] names places
    arm = begun k j depth s fs names places le h

    pub test_clear : IsClear value (inside [] (inside [] further)) (expr.Column (deeper (deeper col)))
    test_clear = column_clear k (inside [] (inside [] further)) (deeper (deeper col)) (own_deeper k _ _ (own_deeper k (h.level ∷ s.levels) col own))

    pub behind_gate : (e : Expr) → IsClear value (inside [] (inside [] further)) e → Sighted (suc j) (suc depth) further (gate_as j e ∷ []) names places
    unfolding begun
    behind_gate e clear =
        added j (suc depth) further [] names places fits arm only_name [] (one (tree.select (truth true ∷ []) [] (Some e))) only_apart
        (gate_clear (inside [] further) e clear)

  -- ---- bodies

  pub body_clear : (x : Body) (k depth : ℕ) (s : Scope) (fs : List FromItem) (names : List ℕ) (places : scopes.Scope ItemColumn) → SeesTables schema s
      → HasTree m.table names x
      → (walk m depth places fs k x).next ≤ 2 ^ 64 → Sighted k depth s fs names places → IsClear select s (selected (walk m depth places fs k x))
  body_clear (sets n u x) k depth s fs names places sees has fits h =
      let now : scopes.Scope ItemColumn = stands n (first_of depth (length fs)) places in
      let item : FromItem = let_at m depth places k (m.types n) u in
      let low : k < 2 ^ 64 = omega (arith, rises m x depth now (fs ++ (item ∷ [])) (suc k), fits) in
      body_clear x (suc k) depth s (fs ++ (item ∷ [])) (n ∷ names) now sees has.1 fits (assigned k depth s fs names places h low sees (m.types n) u has.0 n)
  body_clear (enters params args x) k depth s fs names places sees has fits h =
      let now : scopes.Scope ItemColumn = paired places nowhere params args in
      body_clear x k depth s fs params now sees has.1 fits
      (renamed k depth s fs names places h params now (shallow_paired depth places params args h.shallow)
      (λ n among. paired_holds (λ p. Own k (h.level ∷ s.levels) (seen depth p)) places nowhere params args n has.0.as_many
      (λ a known. h.own a (has.0.known known.place a known.there)) among))
  body_clear (picks u x y) k depth s fs names places sees has fits h =
      let e : Expr = col 2 (length fs) 0 in
      let no : Expr = is_not_true e in
      let one : FromItem = let_at m depth places k ty.Boolean u in
      let gate : FromItem = gate_as (suc (suc k)) e in
      let first : Walked = walk m (suc depth) places (gate ∷ []) (suc (suc (suc k))) x in
      let second : Walked = walk m (suc depth) places (gate_as first.next no ∷ []) (suc first.next) y in
      let up : suc (suc (suc k)) ≤ first.next = rises m x (suc depth) places (gate ∷ []) (suc (suc (suc k))) in
      let upper : suc first.next ≤ second.next = rises m y (suc depth) places (gate_as first.next no ∷ []) (suc first.next) in
      let low : k < 2 ^ 64 = omega (arith, up, upper, fits) in
      let low_first : first.next ≤ 2 ^ 64 = omega (arith, upper, fits) in
      let low_gate : suc (suc k) < 2 ^ 64 = omega (arith, up, low_first) in
      let low_no : first.next < 2 ^ 64 = omega (arith, upper, fits) in
      let low_either : suc k < 2 ^ 64 = omega (arith, low_gate) in
      let with : Sighted (suc k) depth s (fs ++ (one ∷ [])) names places = with_let k depth s fs names places h low sees ty.Boolean u has.0 in
      let own : Own (suc k) (with.level ∷ s.levels) (record { level = 0; item = length fs; column = 0 }) =
      let_own k depth s fs names places h low sees ty.Boolean u has.0 in
      let here : Scope = inside with.level s in
      let seen_there : SeesTables schema here = sees_inside schema s with.level sees in
      let le : suc k ≤ suc (suc k) = omega arith in
      let le_no : suc k ≤ first.next = omega (arith, up) in
      let is_e : IsClear value (inside [] (inside [] here)) e =
      test_clear (suc k) (suc (suc k)) depth s (fs ++ (one ∷ [])) names places with le low_gate _ own in
      let yes : IsClear select here (selected first) =
      body_clear x (suc (suc (suc k))) (suc depth) here (gate ∷ []) names places seen_there has.1 low_first
      (behind_gate (suc k) (suc (suc k)) depth s (fs ++ (one ∷ [])) names places with le low_gate _ own e is_e) in
      let other : IsClear select here (selected second) =
      body_clear y (suc first.next) (suc depth) here (gate_as first.next no ∷ []) names places seen_there has.2 fits
      (behind_gate (suc k) first.next depth s (fs ++ (one ∷ [])) names places with le_no low_no _ own no (c.is test.True true is_e)) in
      let grown : length (fs ++ (one ∷ [])) ≡ suc (length fs) = omega (arith, length-append fs (one ∷ [])) in
      let rows : Sighted (suc (suc k)) depth s ((fs ++ (one ∷ [])) ++ (either_as (suc k) width (selected first) (selected second) ∷ [])) names places =
      with_rows (suc k) depth s (fs ++ (one ∷ [])) names places with low_either (selected first) (selected second) yes other in
      subst (λ gs. IsClear select s (selected (ended gs (all_columns m (suc (length fs))) second.next)))
      (append_assoc fs (one ∷ []) (either_as (suc k) width (selected first) (selected second) ∷ []))
      (list_over (suc (suc k)) depth s _ names places (all_columns m (suc (length fs))) second.next rows
      (subst (λ n. Clears (inside rows.level s) (all_columns m n)) grown
      (all_clear (suc k) depth s (fs ++ (one ∷ [])) names places with low_either (selected first) (selected second) yes other)))
  body_clear (returns u) k depth s fs names places sees has fits h =
      let low : k < 2 ^ 64 = omega (arith, fits) in
      let with : Sighted (suc k) depth s (fs ++ (let_at m depth places k m.result u ∷ [])) names places =
      with_let k depth s fs names places h low sees m.result u has in
      let here : Scope = inside with.level s in
      list_over (suc k) depth s (fs ++ (let_at m depth places k m.result u ∷ [])) names places (end_row m (col 0 (length fs) 0) (null_of ty.Text)) (suc k) with
      (end_clear here (col 0 (length fs) 0) (null_of ty.Text) (column_clear (suc k) here _ (let_own k depth s fs names places h low sees m.result u has))
      (null_clear here ty.Text))
  body_clear (fails class) k depth s fs names places sees has fits h =
      list_over k depth s fs names places (end_row m (null_of m.result) (class_text m class)) k h
      (end_clear (inside h.level s) (null_of m.result) (class_text m class) (null_clear (inside h.level s) m.result) (c.cast ty.Text (c.str class.code)))
  body_clear (calls label keys args) k depth s fs names places sees has fits h =
      list_over k depth s fs names places (call_row m depth places label keys args) k h (call_clear k depth s fs names places h label keys args has.known)
  body_clear endless k depth s fs names places sees has fits h =
      list_over k depth s fs names places (end_row m (null_of m.result) (null_of ty.Text)) k h
      (end_clear (inside h.level s) (null_of m.result) (null_of ty.Text) (null_clear (inside h.level s) m.result) (null_clear (inside h.level s) ty.Text))
