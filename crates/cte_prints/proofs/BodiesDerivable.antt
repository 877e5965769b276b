-- The select of a body can be derived.
use Rattle.std.proofs.Common.{◌≡◌, sym, subst, ℕ, zero, suc, ◌<◌, ◌≤◌, ◌^◌, true, false, pos, List, [], ◌∷◌, ◌++◌, map, length, get_or, None, length-append}
use Rattle.std.proofs.Common.{append_assoc, arith}
use Rattle.away_trees.specs.declared.queries.Col.{Col}
use Rattle.away_trees.specs.declared.queries.Expr.{Expr}
use Rattle.away_trees.specs.declared.queries.Expr.TheVariants as expr
use Rattle.away_trees.specs.declared.queries.Expr.TheViews.{roll-Query}
use Rattle.away_trees.specs.declared.queries.FromItem.{FromItem}
use Rattle.away_trees.specs.declared.queries.Query.{Query}
use Rattle.away_trees.specs.declared.schemas.Schema.{Schema}
use Rattle.away_values.specs.declared.operators.IsTest.TheVariants as test
use Rattle.away_values.specs.declared.types.Ty.{Ty}
use Rattle.away_values.specs.declared.types.Ty.TheVariants as ty
use Rattle.away_grammar.specs.Grammar.{query}
use Rattle.away_names.specs.Lookups.{Level, Scope, inside}
use Rattle.block_forms.specs.declared.forms.Term.{Term}
use Rattle.block_forms.specs.Places.{Each}
use Rattle.call_forms.specs.Bodies.{Body, sets, enters, picks, returns, fails, calls, endless}
use Rattle.call_forms.specs.Called.{Among}
use Rattle.call_forms.specs.Scopes as scopes
use Rattle.call_forms.specs.Scopes.{paired}
use Rattle.call_forms.specs.Template.{is_not_true, deeper}
use Rattle.call_forms.specs.Templated.{HasTree, HasReferences}
use Rattle.qualified_names.specs.Trees.{qualified_from, qualified_shown}
use Rattle.qualified_names.specs.Unambiguous as c
use Rattle.qualified_names.specs.Unambiguous.{IsClear, value, select}
use Rattle.qualified_names.proofs.Gives.{Every}
use Rattle.sql_meaning.specs.Reads.{slots_of}
use Rattle.sql_meaning.specs.Trees.{col, null_of, truth, number, one}
use Rattle.sql_meaning.specs.Trees as tree
use Rattle.cte_parts.specs.Columns.{column_beside}
use Rattle.cte_parts.specs.Names.{only_name, go_name, label_name, result_name, fault_name, value_names, alias_name}
use Rattle.cte_parts.specs.Trees.{gate_as, either_as}
use Rattle.cte_template.specs.Making.{Making}
use Rattle.cte_template.specs.Places.{nowhere, first_of, seen, stands, beside}
use Rattle.cte_template.specs.Walks.{Walked, walk, selected, ended, let_at, value_at, column_at, cell, cells_at, all_columns, end_row, call_row, class_text}
use Rattle.cte_template.specs.declared.places.ItemColumn.{ItemColumn}
use Rattle.cte_template.proofs.PlacesSeen.{deeper_is, shallow_paired}
use Rattle.cte_names.specs.Own.{SeesTables, IsOwn}
use Rattle.cte_names.proofs.BodiesClear as clear
use Rattle.cte_names.proofs.BodiesClear.{TableClears, sees_inside}
use Rattle.cte_names.proofs.Differences.{every_both}
use Rattle.cte_names.proofs.OwnColumns.{Own, is_own, own_deeper}
use Rattle.cte_names.proofs.PassedNames.{paired_holds, slot_holds, beside_holds}
use Rattle.cte_names.proofs.Sighted.{Sighted, renamed}
use Rattle.cte_names.proofs.WalksRise.{rises}
use Rattle.cte_prints.specs.Derivable.{Derivable}
use Rattle.cte_prints.specs.InSight.{LevelIsWritable, SightIsWritable}
use Rattle.cte_prints.specs.DerivableParts.{TableIsDerivable, BodyFits, further_in}
use Rattle.cte_prints.proofs.QualifiedParts.{DerivableAt, IsSome, SelectDerivable, select_over, union_derives, let_derives}
use Rattle.cte_prints.proofs.OwnDerivable.{FromDerivable, more_items, column_alone, column_derives, columns_derive, gated}
use Rattle.cte_prints.proofs.SmallDerivable.{truth_derives, number_derives, null_derives, nulls_derive, class_derives, not_true_derives}
use Rattle.cte_prints.proofs.OwnWritableNames.{alias_writable, only_derivable, row_derivable}

further_is : (d n : ℕ) → d ≤ further_in d n
further_is d zero = omega arith
further_is d (suc n) = omega (arith, further_is d n)

module _ (schema : Schema) (m : Making) (clears : TableClears schema m.table) (narrow : length m.tail.columns < 2 ^ 64)
    (d : ℕ) (derives : (e : ℕ) → d ≤ e → TableIsDerivable (suc e) schema m.table) where
  abbrev width : ℕ
  width = length m.tail.columns

  -- ---- rows

  end_derives : (n : ℕ) (ls : List Level) (e class : Expr) → DerivableAt (suc n) ls e → DerivableAt (suc n) ls class
      → Every (DerivableAt (suc n) ls) (truth false ∷ number (pos 0) ∷ (map null_of m.tail.columns ++ (e ∷ class ∷ [])))
  end_derives n ls e class h k = (
    truth_derives n ls false,
    (
      number_derives n ls 0 (omega arith),
      every_both (DerivableAt (suc n) ls) (map null_of m.tail.columns) (e ∷ class ∷ []) (nulls_derive n ls m.tail.columns)
          (h, (k, tt)),
    ),
  )

  -- ---- what is in sight

  module _ (k depth : ℕ) (s : Scope) (fs : List FromItem) (names : List ℕ) (places : scopes.Scope ItemColumn) (h : Sighted k depth s fs names places)
      (sight : SightIsWritable s.levels) (n : ℕ) (from : FromDerivable (suc n) s.levels fs) where
    level_derivable : LevelIsWritable h.level
    level_derivable = subst LevelIsWritable h.seen_is from.level

    both_derivable : SightIsWritable (h.level ∷ s.levels)
    both_derivable = (level_derivable, sight)

    -- the select with its list
    list_over : (es : List Expr) (next : ℕ) → IsSome es → Every (DerivableAt (suc n) (h.level ∷ s.levels)) es → SelectDerivable (suc n) s.levels
        (selected (ended fs es next))
    list_over es next some list =
        select_over (suc n) s.levels es fs None some from.items (subst (λ l. Every (DerivableAt (suc n) (l ∷ s.levels)) es) (sym h.seen_is) list) tt

    cell_derives : (t : Ty) (keys args : List ℕ) (i e : ℕ) → Each (Among names) args → DerivableAt (suc e) (h.level ∷ s.levels)
        (cell depth places t (beside keys args i))
    cell_derives t keys args i e known =
        beside_holds (λ o. DerivableAt (suc e) (h.level ∷ s.levels) (cell depth places t o)) keys args i (null_derives e (h.level ∷ s.levels) t)
        (λ n a. column_derives k (h.level ∷ s.levels) (column_at depth places n) (h.own n (known a.place n a.there)) both_derivable (suc e))

    cells_derive : (i e : ℕ) (keys args : List ℕ) (ts : List Ty) → Each (Among names) args
        → Every (DerivableAt (suc e) (h.level ∷ s.levels)) (cells_at i depth places keys args ts)
    cells_derive i e keys args [] known = tt
    cells_derive i e keys args (t ∷ ts) known = (cell_derives t keys args i e known, cells_derive (suc i) e keys args ts known)

    call_derives : (label e : ℕ) (keys args : List ℕ) → suc label < 2 ^ 63 → Each (Among names) args
        → Every (DerivableAt (suc e) (h.level ∷ s.levels)) (truth true ∷ number (pos (suc label)) ∷
        (cells_at 0 depth places keys args m.tail.columns ++ (null_of m.result ∷ null_of ty.Text ∷ [])))
    call_derives label e keys args low known =
        let ls : List Level = h.level ∷ s.levels in (
          truth_derives e ls true,
          (
            number_derives e ls (suc label) low,
            every_both (DerivableAt (suc e) ls) (cells_at 0 depth places keys args m.tail.columns)
                (null_of m.result ∷ null_of ty.Text ∷ [])
                (cells_derive 0 e keys args m.tail.columns known) (null_derives e ls m.result, (null_derives e ls ty.Text, tt)),
          ),
        )

    -- a term's expression, whose item sees the items before it
    value_derives : (t : Ty) (u : Term) (e : ℕ) → d ≤ e → SeesTables schema s
        → HasReferences m.table names u → DerivableAt (suc e) ([] ∷ h.level ∷ s.levels) (value_at m depth places t u)
    value_derives t u e le sees refers =
        let here : Scope = inside [] (inside h.level s) in
        let slots : List ℕ = slots_of (get_or m.table u.expr expr.Null) in
        derives e le u.expr t here (column_beside slots (map (column_at (suc depth) places) u.names) (seen (suc depth) nowhere))
        (sees_inside schema (inside h.level s) [] (sees_inside schema s h.level sees)) (tt, both_derivable)
        (λ place slot there.
        slot_holds (IsOwn here.levels) (column_at (suc depth) places) (seen (suc depth) nowhere) slots u.names slot refers.as_many
        (λ n among. subst (IsOwn here.levels) (sym (deeper_is depth (places n) (h.shallow n)))
        (is_own k here.levels (deeper (seen depth (places n)))
        (own_deeper k (h.level ∷ s.levels) (seen depth (places n)) (h.own n (refers.known among.place n among.there)))))
        (record { place = place; there = there }))

  -- behind a term's item
  with_let : (k depth : ℕ) (s : Scope) (fs : List FromItem) (names : List ℕ) (places : scopes.Scope ItemColumn) → (h : Sighted k depth s fs names places)
      → SightIsWritable s.levels
      → (e : ℕ) → d ≤ e → FromDerivable (suc (suc e)) s.levels fs → k < 2 ^ 64 → SeesTables schema s → (t : Ty) (u : Term)
      → HasReferences m.table names u
      → FromDerivable (suc (suc e)) s.levels (fs ++ let_at m depth places k t u ∷ [])
  with_let k depth s fs names places h sight e le from fits sees t u refers =
      let v : Expr = value_at m depth places t u in
      more_items (suc e) s.levels fs (alias_name k) only_name [] (one (tree.select (v ∷ []) [] None)) (alias_writable k fits) (only_derivable, tt)
      (let_derives (suc e) ((qualified_from s.levels fs).seen ∷ s.levels) v
      (subst (λ l. DerivableAt (suc e) ([] ∷ l ∷ s.levels) v) (sym h.seen_is)
      (value_derives k depth s fs names places h sight (suc e) from t u e le sees refers))) from

  -- ---- bodies

  pub body_derives : (x : Body) (k depth : ℕ) (s : Scope) (fs : List FromItem) (names : List ℕ) (places : scopes.Scope ItemColumn) → SeesTables schema s
      → HasTree m.table names x
      → (walk m depth places fs k x).next ≤ 2 ^ 64 → Sighted k depth s fs names places → SightIsWritable s.levels → (n : ℕ) → BodyFits x n
      → FromDerivable (suc (suc (further_in d n))) s.levels fs → SelectDerivable (suc (suc (further_in d n))) s.levels (selected (walk m depth places fs k x))
  body_derives (sets name u x) k depth s fs names places sees has fits h sight n fit from =
      let now : scopes.Scope ItemColumn = stands name (first_of depth (length fs)) places in
      let item : FromItem = let_at m depth places k (m.types name) u in
      let low : k < 2 ^ 64 = omega (arith, rises m x depth now (fs ++ (item ∷ [])) (suc k), fits) in
      body_derives x (suc k) depth s (fs ++ (item ∷ [])) (name ∷ names) now sees has.1 fits
      (clear.assigned schema m clears narrow k depth s fs names places h low sees (m.types name) u has.0 name) sight n fit
      (with_let k depth s fs names places h sight (further_in d n) (further_is d n) from low sees (m.types name) u has.0)
  body_derives (enters params args x) k depth s fs names places sees has fits h sight n fit from =
      let now : scopes.Scope ItemColumn = paired places nowhere params args in
      body_derives x k depth s fs params now sees has.1 fits
      (renamed k depth s fs names places h params now (shallow_paired depth places params args h.shallow)
      (λ i among. paired_holds (λ p. Own k (h.level ∷ s.levels) (seen depth p)) places nowhere params args i has.0.as_many
      (λ a known. h.own a (has.0.known known.place a known.there)) among))
      sight n fit from
  body_derives (picks u x y) k depth s fs names places sees has fits h sight zero fit from = absurd fit
  body_derives (picks u x y) k depth s fs names places sees has fits h sight (suc n) fit from =
      let d' : ℕ = further_in d n in
      let e : Expr = col 2 (length fs) 0 in
      let no : Expr = is_not_true e in
      let one : FromItem = let_at m depth places k ty.Boolean u in
      let gs : List FromItem = fs ++ (one ∷ []) in
      let gate : FromItem = gate_as (suc (suc k)) e in
      let first : Walked = walk m (suc depth) places (gate ∷ []) (suc (suc (suc k))) x in
      let second : Walked = walk m (suc depth) places (gate_as first.next no ∷ []) (suc first.next) y in
      let up : suc (suc (suc k)) ≤ first.next = rises m x (suc depth) places (gate ∷ []) (suc (suc (suc k))) in
      let upper : suc first.next ≤ second.next = rises m y (suc depth) places (gate_as first.next no ∷ []) (suc first.next) in
      let low : k < 2 ^ 64 = omega (arith, up, upper, fits) in
      let low_first : first.next ≤ 2 ^ 64 = omega (arith, upper, fits) in
      let low_gate : suc (suc k) < 2 ^ 64 = omega (arith, up, low_first) in
      let low_no : first.next < 2 ^ 64 = omega (arith, upper, fits) in
      let low_either : suc k < 2 ^ 64 = omega (arith, low_gate) in
      let with : Sighted (suc k) depth s gs names places = clear.with_let schema m clears narrow k depth s fs names places h low sees ty.Boolean u has.0 in
      let column : Col = record { level = 0; item = length fs; column = 0 } in
      let own : Own (suc k) (with.level ∷ s.levels) column = clear.let_own schema m clears narrow k depth s fs names places h low sees ty.Boolean u has.0 in
      let further : d ≤ suc d' = omega (arith, further_is d n) in
      let from_one : FromDerivable (suc (suc (suc d'))) s.levels gs =
      with_let k depth s fs names places h sight (suc d') further from low sees ty.Boolean u has.0 in
      let here : Scope = inside with.level s in
      let here_derivable : SightIsWritable here.levels = both_derivable (suc k) depth s gs names places with sight (suc (suc d')) from_one in
      let seen_there : SeesTables schema here = sees_inside schema s with.level sees in
      let le : suc k ≤ suc (suc k) = omega arith in
      let le_no : suc k ≤ first.next = omega (arith, up) in
      let deep : Own (suc k) ([] ∷ [] ∷ here.levels) (deeper (deeper column)) = own_deeper (suc k) _ _ (own_deeper (suc k) here.levels column own) in
      let is_e : IsClear value (inside [] (inside [] here)) e =
      clear.test_clear schema m clears narrow (suc k) (suc (suc k)) depth s gs names places with le low_gate column own in
      let behind : Sighted (suc (suc (suc k))) (suc depth) here (gate ∷ []) names places =
      clear.behind_gate schema m clears narrow (suc k) (suc (suc k)) depth s gs names places with le low_gate column own e is_e in
      let behind_no : Sighted (suc first.next) (suc depth) here (gate_as first.next no ∷ []) names places =
      clear.behind_gate schema m clears narrow (suc k) first.next depth s gs names places with le_no low_no column own no (c.is test.True true is_e) in
      let yes : SelectDerivable (suc (suc d')) here.levels (selected first) =
      body_derives x (suc (suc (suc k))) (suc depth) here (gate ∷ []) names places seen_there has.1 low_first behind here_derivable n fit.0
      (gated d' (suc (suc k)) here.levels e low_gate (column_derives (suc k) ([] ∷ [] ∷ here.levels) (deeper (deeper column)) deep (tt, (tt, here_derivable))
      (suc d'))) in
      let other : SelectDerivable (suc (suc d')) here.levels (selected second) =
      body_derives y (suc first.next) (suc depth) here (gate_as first.next no ∷ []) names places seen_there has.2 fits behind_no here_derivable n fit.1
      (gated d' first.next here.levels no low_no
      (not_true_derives (suc d') ([] ∷ [] ∷ here.levels) e (column_alone (suc k) ([] ∷ [] ∷ here.levels) (deeper (deeper column)) deep (tt, (tt, here_derivable))
      (suc d')))) in
      let clear_yes : IsClear select here (selected first) =
      clear.body_clear schema m clears narrow x (suc (suc (suc k))) (suc depth) here (gate ∷ []) names places seen_there has.1 low_first behind in
      let clear_no : IsClear select here (selected second) =
      clear.body_clear schema m clears narrow y (suc first.next) (suc depth) here (gate_as first.next no ∷ []) names places seen_there has.2 fits behind_no in
      let rows : Sighted (suc (suc k)) depth s (gs ++ (either_as (suc k) width (selected first) (selected second) ∷ [])) names places =
      clear.with_rows schema m clears narrow (suc k) depth s gs names places with low_either (selected first) (selected second) clear_yes clear_no in
      let query_of_rows : Query = roll-Query (record { recursive = None; selects = selected first ∷ selected second ∷ [] }) in
      let from_rows : FromDerivable (suc (suc (suc d'))) s.levels (gs ++ (either_as (suc k) width (selected first) (selected second) ∷ [])) =
      more_items (suc (suc d')) s.levels gs (alias_name (suc k)) go_name (label_name ∷ value_names width ++ (result_name ∷ fault_name ∷ [])) query_of_rows
      (alias_writable (suc k) low_either) (row_derivable width narrow)
      (subst (λ l. Derivable (suc (suc d')) query (qualified_shown query_of_rows (l ∷ s.levels)).it) (sym with.seen_is)
      (union_derives (suc (suc d')) here.levels (selected first) (selected second ∷ []) (yes, (other, tt)))) from_one in
      let grown : length gs ≡ suc (length fs) = omega (arith, length-append fs (one ∷ [])) in
      let rows_derivable : SightIsWritable (rows.level ∷ s.levels) = both_derivable (suc (suc k)) depth s _ names places rows sight (suc (suc d')) from_rows in
      subst (λ zs. SelectDerivable (suc (suc (suc d'))) s.levels (selected (ended zs (all_columns m (suc (length fs))) second.next)))
      (append_assoc fs (one ∷ []) (either_as (suc k) width (selected first) (selected second) ∷ []))
      (list_over (suc (suc k)) depth s _ names places rows sight (suc (suc d')) from_rows (all_columns m (suc (length fs))) second.next tt
      (subst (λ i. Every (DerivableAt (suc (suc (suc d'))) (rows.level ∷ s.levels)) (all_columns m i)) grown
      (columns_derive width (suc (suc (suc d'))) (suc (suc k)) (length gs) (rows.level ∷ s.levels) rows_derivable
      (clear.row_own schema m clears narrow (suc k) depth s gs names places with low_either (selected first) (selected second) clear_yes clear_no)
      0 (suc (suc (suc (suc width)))) (omega arith))))
  body_derives (returns u) k depth s fs names places sees has fits h sight n fit from =
      let low : k < 2 ^ 64 = omega (arith, fits) in
      let d' : ℕ = further_in d n in
      let gs : List FromItem = fs ++ (let_at m depth places k m.result u ∷ []) in
      let with : Sighted (suc k) depth s gs names places = clear.with_let schema m clears narrow k depth s fs names places h low sees m.result u has in
      let own = clear.let_own schema m clears narrow k depth s fs names places h low sees m.result u has in
      let from_one : FromDerivable (suc (suc d')) s.levels gs =
      with_let k depth s fs names places h sight d' (further_is d n) from low sees m.result u has in
      let here : SightIsWritable (with.level ∷ s.levels) = both_derivable (suc k) depth s gs names places with sight (suc d') from_one in
      list_over (suc k) depth s gs names places with sight (suc d') from_one (end_row m (col 0 (length fs) 0) (null_of ty.Text)) (suc k) tt
      (end_derives (suc d') (with.level ∷ s.levels) (col 0 (length fs) 0) (null_of ty.Text)
      (column_derives (suc k) (with.level ∷ s.levels) (record { level = 0; item = length fs; column = 0 }) own here (suc (suc d')))
      (null_derives (suc d') (with.level ∷ s.levels) ty.Text))
  body_derives (fails class) k depth s fs names places sees has fits h sight n fit from =
      let d' : ℕ = suc (further_in d n) in
      list_over k depth s fs names places h sight d' from (end_row m (null_of m.result) (class_text m class)) k tt
      (end_derives d' (h.level ∷ s.levels) (null_of m.result) (class_text m class) (null_derives d' (h.level ∷ s.levels) m.result)
      (class_derives d' (h.level ∷ s.levels) class.code fit))
  body_derives (calls label keys args) k depth s fs names places sees has fits h sight n fit from =
      let d' : ℕ = suc (further_in d n) in
      list_over k depth s fs names places h sight d' from (call_row m depth places label keys args) k tt
      (call_derives k depth s fs names places h sight d' from label d' keys args fit has.known)
  body_derives endless k depth s fs names places sees has fits h sight n fit from =
      let d' : ℕ = suc (further_in d n) in
      list_over k depth s fs names places h sight d' from (end_row m (null_of m.result) (null_of ty.Text)) k tt
      (end_derives d' (h.level ∷ s.levels) (null_of m.result) (null_of ty.Text) (null_derives d' (h.level ∷ s.levels) m.result)
      (null_derives d' (h.level ∷ s.levels) ty.Text))
