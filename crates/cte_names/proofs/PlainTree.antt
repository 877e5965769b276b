-- The query of a function without the marks of its operations: the query of the table of expressions without marks.
use Rattle.std.proofs.Common.{◌≡◌, refl, ap, sym, subst, ◌∙◌, ℕ, suc, ◌≤◌, ◌^◌, true, false, pos, List, [], ◌∷◌, ◌++◌, map, length, get_or, Option, Some, None}
use Rattle.std.specs.Prelude.{slice_get}
use Rattle.std.proofs.lemmas.List.{length-map, map-append}
use Rattle.away_values.specs.declared.types.Ty.{Ty}
use Rattle.away_values.specs.declared.types.Ty.TheVariants as ty
use Rattle.away_trees.specs.declared.queries.Expr.{Expr}
use Rattle.away_trees.specs.declared.queries.Expr.TheVariants as expr
use Rattle.away_trees.specs.declared.queries.Expr.TheViews.{roll-Query, roll-Recursive}
use Rattle.away_trees.specs.declared.queries.FromItem.{FromItem}
use Rattle.away_trees.specs.Algebra.{expr_of, from_of, item_of, recursive_of, select_of}
use Rattle.away_trees.proofs.Equations as eq
use Rattle.elaboration.specs.Erasing.{erasing, erased, erased_query}
use Rattle.sql_meaning.specs.Placed.{placed_at}
use Rattle.sql_meaning.specs.Reads.{slots_of}
use Rattle.sql_meaning.specs.Template.{below}
use Rattle.sql_meaning.specs.Trees.{col, null_of, truth, number}
use Rattle.type_soundness.specs.Sorts.{Every}
use Rattle.type_soundness.proofs.Lists.{every_append}
use Rattle.block_forms.specs.declared.forms.Term.{Term}
use Rattle.block_forms.specs.Places.{Each}
use Rattle.call_forms.specs.Bodies.{Body, sets, enters, picks, returns, fails, calls, endless, body_of}
use Rattle.call_forms.specs.Forms.{params_of}
use Rattle.call_forms.specs.Scopes as scopes
use Rattle.call_forms.specs.Scopes.{paired}
use Rattle.call_forms.specs.Template.{entry_place, is_not_true}
use Rattle.call_forms.specs.Templated.{HasReferences, HasTree}
use Rattle.cte_parts.specs.Columns.{column_beside}
use Rattle.cte_parts.specs.Names.{step_name, row_names, table_name}
use Rattle.cte_parts.specs.Trees.{gate_as, either_as, lateral_as, working}
use Rattle.cte_template.specs.Making.{Making}
use Rattle.cte_template.specs.Numbers.{NumbersFit, walk_of}
use Rattle.cte_template.specs.Places.{nowhere, first_of, row_place, seen, stands, beside}
use Rattle.cte_template.specs.Tree.{at_label, branch, branches, label_rows, last, start, step, tree, working_table}
use Rattle.cte_template.specs.Walks.{Walked, walk, selected, ended, let_at, value_at, column_at, cell, cells_at, keys_of, argument, arguments_at, all_columns, end_row, call_row, class_text}
use Rattle.cte_template.specs.declared.places.ItemColumn.{ItemColumn}
use Rattle.cte_names.proofs.PlainParts.{IsPlain, columns_plain, either_plain, entry_plain, gate_plain, label_plain, lateral_plain, let_plain, list_plain, not_true_plain, null_plain, nulls_plain, number_plain, placed_at_plain, select_plain, slots_same, text_plain, truth_plain}

-- the same over the expressions without their marks
abbrev pub without_marks : Making → Making
without_marks m = record m { table = map erased m.table }

-- ---- what is written, without marks

abbrev froms_plain : List FromItem → List FromItem
froms_plain fs = map (λ f. from_of erasing f) fs

abbrev walked_plain : Walked → Walked
walked_plain w = record { items = froms_plain w.items; list = map (λ i. item_of erasing i) w.list; next = w.next }

selected_plain : (w : Walked) → select_of erasing (selected w) ≡ selected (walked_plain w)
selected_plain w = eq.of_select erasing w.list w.items None [] None

one_more : (fs gs : List FromItem) (f g : FromItem) → froms_plain fs ≡ gs → from_of erasing f ≡ g → froms_plain (fs ++ f ∷ []) ≡ gs ++ g ∷ []
one_more fs gs f g h k = map-append (λ f. from_of erasing f) fs (f ∷ []) ∙ (λ i. h i ++ k i ∷ [])

as_many : (fs gs : List FromItem) → froms_plain fs ≡ gs → length fs ≡ length gs
as_many fs gs h = sym (length-map fs (λ f. from_of erasing f)) ∙ ap (λ gs. length gs) h

ended_plain : (fs gs : List FromItem) (list : List Expr) (next : ℕ) → froms_plain fs ≡ gs → Every IsPlain list → walked_plain (ended fs list next) ≡ ended gs list next
ended_plain fs gs list next h k = λ i. record { items = h i; list = list_plain list k i; next = next }

module _ (m : Making) where
  abbrev n : Making
  n = without_marks m

  -- ---- values

  value_plain : (depth : ℕ) (places : scopes.Scope ItemColumn) (t : Ty) (u : Term) → expr_of erasing (value_at m depth places t u) ≡ value_at n depth places t u
  unfolding erased
  value_plain depth places t u =
      let e : Expr = get_or m.table u.expr expr.Null in
      sym ((λ i. placed_at t (column_beside (slots_of (entry_plain m.table u.expr i)) (map (column_at (suc depth) places) u.names) (seen (suc depth) nowhere)) (entry_plain m.table u.expr i))
      ∙ ((λ i. placed_at t (column_beside (slots_same e i) (map (column_at (suc depth) places) u.names) (seen (suc depth) nowhere)) (erased e))
      ∙ placed_at_plain t (column_beside (slots_of e) (map (column_at (suc depth) places) u.names) (seen (suc depth) nowhere)) e))

  let_at_plain : (depth : ℕ) (places : scopes.Scope ItemColumn) (k : ℕ) (t : Ty) (u : Term) → from_of erasing (let_at m depth places k t u) ≡ let_at n depth places k t u
  let_at_plain depth places k t u = let_plain k (value_at m depth places t u) (value_at n depth places t u) (value_plain depth places t u)

  -- ---- rows

  cell_plain : (depth : ℕ) (places : scopes.Scope ItemColumn) (t : Ty) (o : Option ℕ) → IsPlain (cell depth places t o)
  cell_plain depth places t None = null_plain t
  cell_plain depth places t (Some x) = refl

  cells_plain : (i depth : ℕ) (places : scopes.Scope ItemColumn) (keys args : List ℕ) (ts : List Ty) → Every IsPlain (cells_at i depth places keys args ts)
  cells_plain i depth places keys args [] = tt
  cells_plain i depth places keys args (t ∷ ts) = (cell_plain depth places t (beside keys args i), cells_plain (suc i) depth places keys args ts)

  end_plain : (value class : Expr) → IsPlain value → IsPlain class → Every IsPlain (end_row m value class)
  end_plain value class h k =
      (truth_plain false, (number_plain (pos 0), every_append IsPlain (map null_of m.tail.columns) (value ∷ class ∷ []) (nulls_plain m.tail.columns) (h, (k, tt))))

  call_plain : (depth : ℕ) (places : scopes.Scope ItemColumn) (label : ℕ) (keys args : List ℕ) → Every IsPlain (call_row m depth places label keys args)
  call_plain depth places label keys args = (
    truth_plain true,
    (
      number_plain (pos (suc label)),
      every_append IsPlain (cells_at 0 depth places keys args m.tail.columns) (null_of m.result ∷ null_of ty.Text ∷ []) (cells_plain 0 depth places keys args m.tail.columns)
          (null_plain m.result, (null_plain ty.Text, tt)),
    ),
  )

  all_plain : (j : ℕ) → Every IsPlain (all_columns m j)
  all_plain j = columns_plain j (below (suc (suc (suc (suc (length m.tail.columns))))))

  -- ---- bodies

  walk_plain : (x : Body) (depth : ℕ) (places : scopes.Scope ItemColumn) (fs gs : List FromItem) (k : ℕ) → froms_plain fs ≡ gs
      → walked_plain (walk m depth places fs k x) ≡ walk n depth places gs k x
  walk_plain (sets v u x) depth places fs gs k h =
      walk_plain x depth (stands v (first_of depth (length fs)) places) (fs ++ let_at m depth places k (m.types v) u ∷ []) (gs ++ let_at n depth places k (m.types v) u ∷ []) (suc k)
      (one_more fs gs _ _ h (let_at_plain depth places k (m.types v) u))
      ∙ (λ i. walk n depth (stands v (first_of depth (as_many fs gs h i)) places) (gs ++ let_at n depth places k (m.types v) u ∷ []) (suc k) x)
  walk_plain (enters params args x) depth places fs gs k h = walk_plain x depth (paired places nowhere params args) fs gs k h
  walk_plain (picks u x y) depth places fs gs k h =
      let e : Expr = col 2 (length fs) 0 in
      let first : Walked = walk m (suc depth) places (gate_as (suc (suc k)) e ∷ []) (suc (suc (suc k))) x in
      let first_is = walk_plain x (suc depth) places (gate_as (suc (suc k)) e ∷ []) (gate_as (suc (suc k)) e ∷ []) (suc (suc (suc k))) (λ i. gate_plain (suc (suc k)) e refl i ∷ []) in
      let second : Walked = walk m (suc depth) places (gate_as first.next (is_not_true e) ∷ []) (suc first.next) y in
      let second_is = walk_plain y (suc depth) places (gate_as first.next (is_not_true e) ∷ []) (gate_as first.next (is_not_true e) ∷ []) (suc first.next)
      (λ i. gate_plain first.next (is_not_true e) (not_true_plain e refl) i ∷ [])
      ∙ (λ i. walk n (suc depth) places (gate_as (first_is i).next (is_not_true e) ∷ []) (suc (first_is i).next) y) in
      let first_select = selected_plain first ∙ ap (λ w. selected w) first_is in
      let second_select = selected_plain second ∙ ap (λ w. selected w) second_is in
      let rows = either_plain (suc k) 0 (length m.tail.columns) (selected first) (selected second) ∙ (λ i. either_as (suc k) (length m.tail.columns) (first_select i) (second_select i)) in
      let items = map-append (λ f. from_of erasing f) fs (let_at m depth places k ty.Boolean u ∷ either_as (suc k) (length m.tail.columns) (selected first) (selected second) ∷ [])
      ∙ (λ i. h i ++ (let_at_plain depth places k ty.Boolean u i ∷ rows i ∷ [])) in
      (λ i. record { items = items i; list = list_plain (all_columns m (suc (length fs))) (all_plain (suc (length fs))) i; next = (second_is i).next })
      ∙ (λ i. picked (as_many fs gs h i))
    where
      picked : ℕ → Walked
      picked many =
          let e : Expr = col 2 many 0 in
          let first : Walked = walk n (suc depth) places (gate_as (suc (suc k)) e ∷ []) (suc (suc (suc k))) x in
          let second : Walked = walk n (suc depth) places (gate_as first.next (is_not_true e) ∷ []) (suc first.next) y in
          ended (gs ++ (let_at n depth places k ty.Boolean u ∷ either_as (suc k) (length m.tail.columns) (selected first) (selected second) ∷ [])) (all_columns m (suc many)) second.next
  walk_plain (returns u) depth places fs gs k h =
      ended_plain (fs ++ let_at m depth places k m.result u ∷ []) (gs ++ let_at n depth places k m.result u ∷ []) (end_row m (col 0 (length fs) 0) (null_of ty.Text)) (suc k)
      (one_more fs gs _ _ h (let_at_plain depth places k m.result u)) (end_plain (col 0 (length fs) 0) (null_of ty.Text) refl (null_plain ty.Text))
      ∙ (λ i. ended (gs ++ let_at n depth places k m.result u ∷ []) (end_row m (col 0 (as_many fs gs h i) 0) (null_of ty.Text)) (suc k))
  walk_plain (fails class) depth places fs gs k h = ended_plain fs gs (end_row m (null_of m.result) (class_text m class)) k h (end_plain (null_of m.result) (class_text m class) (null_plain m.result) (text_plain class))
  walk_plain (calls label keys args) depth places fs gs k h = ended_plain fs gs (call_row m depth places label keys args) k h (call_plain depth places label keys args)
  walk_plain endless depth places fs gs k h = ended_plain fs gs (end_row m (null_of m.result) (null_of ty.Text)) k h (end_plain (null_of m.result) (null_of ty.Text) (null_plain m.result) (null_plain ty.Text))

  -- ---- branches

  walk_of_plain : (i l : ℕ) → walked_plain (walk_of m i l) ≡ walk_of n i l
  walk_of_plain i l =
      walk_plain (body_of m.anf m.tail l) 1 (paired row_place nowhere (params_of (slice_get m.anf.blocks l)) (keys_of m i)) (gate_as 1 (at_label m (suc i)) ∷ []) (gate_as 1 (at_label m (suc i)) ∷ []) 2
      (λ j. gate_plain 1 (at_label m (suc i)) (label_plain (suc i)) j ∷ [])

  branch_plain : (i l : ℕ) → select_of erasing (branch m i l) ≡ branch n i l
  branch_plain i l = selected_plain (walk_of m i l) ∙ ap (λ w. selected w) (walk_of_plain i l)

  branches_plain : (i : ℕ) (ls : List ℕ) → map (λ s. select_of erasing s) (branches m i ls) ≡ branches n i ls
  branches_plain i [] = refl
  branches_plain i (l ∷ ls) = λ j. branch_plain i l j ∷ branches_plain (suc i) ls j

  rows_plain : from_of erasing (label_rows m) ≡ label_rows n
  rows_plain =
      let names : List (List ℕ) = row_names (length m.tail.columns) in
      lateral_plain step_name names (roll-Query (record { recursive = None; selects = branches m 0 m.tail.labels }))
      ∙ ap (λ q. lateral_as step_name names q) (eq.of_query erasing (branches m 0 m.tail.labels) ∙ (λ i. roll-Query (record { recursive = None; selects = branches_plain 0 m.tail.labels i })))

  -- ---- the terms

  argument_plain : (t : Ty) (o : Option ℕ) → IsPlain (argument m t o)
  argument_plain t None = null_plain t
  argument_plain t (Some x) = refl

  arguments_plain : (i : ℕ) (keys params : List ℕ) (ts : List Ty) → Every IsPlain (arguments_at m i keys params ts)
  arguments_plain i keys params [] = tt
  arguments_plain i keys params (t ∷ ts) = (argument_plain t (beside keys params i), arguments_plain (suc i) keys params ts)

  start_plain : (entry : ℕ) → select_of erasing (start m entry) ≡ start n entry
  start_plain entry =
      let place : ℕ = entry_place m.table m.types m.result m.anf m.tail entry in
      let arguments : List Expr = arguments_at m 0 (keys_of m place) (params_of (slice_get m.anf.blocks entry)) m.tail.columns in
      select_plain (truth true ∷ number (pos (suc place)) ∷ arguments ++ (null_of m.result ∷ null_of ty.Text ∷ [])) [] [] None (
        truth_plain true,
        (
          number_plain (pos (suc place)),
          every_append IsPlain arguments (null_of m.result ∷ null_of ty.Text ∷ []) (arguments_plain 0 (keys_of m place) (params_of (slice_get m.anf.blocks entry)) m.tail.columns)
              (null_plain m.result, (null_plain ty.Text, tt)),
        ),
      )
      refl refl

  step_plain : (tables : ℕ) → select_of erasing (step m tables) ≡ step n tables
  step_plain tables =
      let table : FromItem = working tables (length m.tail.columns) in
      select_plain (all_columns m 1) (table ∷ label_rows m ∷ []) (table ∷ label_rows n ∷ []) (Some (col 0 0 0)) (all_plain 1) (λ i. table ∷ rows_plain i ∷ []) refl

  last_plain : (tables : ℕ) → select_of erasing (last m tables) ≡ last n tables
  last_plain tables =
      let width : ℕ = length m.tail.columns in
      let table : FromItem = working tables width in
      select_plain (col 0 0 (suc (suc width)) ∷ col 0 0 (suc (suc (suc width))) ∷ []) (table ∷ []) (table ∷ []) (Some (expr.Not (col 0 0 0))) (refl, (refl, tt)) refl (ap (λ e. Some e) (eq.of_not erasing (col 0 0 0)))

  -- ---- the whole

  table_plain : (entry tables : ℕ) → recursive_of erasing (working_table m entry tables) ≡ working_table n entry tables
  table_plain entry tables =
      let names : List (List ℕ) = row_names (length m.tail.columns) in
      eq.of_recursive erasing table_name names (start m entry ∷ []) (step m tables)
      ∙ (λ i. roll-Recursive (record { name = table_name; columns = names; first = start_plain entry i ∷ []; second = step_plain tables i }))

  pub tree_plain : (entry tables : ℕ) → erased_query (tree m entry tables) ≡ tree n entry tables
  unfolding erased_query
  tree_plain entry tables =
      eq.query_roll erasing (Some (working_table m entry tables)) (last m tables ∷ [])
      ∙ (λ i. roll-Query (record { recursive = Some (table_plain entry tables i); selects = last_plain tables i ∷ [] }))

  -- ---- what holds of the one holds of the other

  pub numbers_plain : NumbersFit m → NumbersFit n
  numbers_plain h = record { columns = h.columns; aliases = λ i l there. subst (λ k. k ≤ 2 ^ 64) (ap (λ w. w.next) (walk_of_plain i l)) (h.aliases i l there) }

  references_plain : (names : List ℕ) (u : Term) → HasReferences m.table names u → HasReferences n.table names u
  references_plain names u h = record {
    known = h.known;
    as_many = h.as_many ∙ sym (ap (λ e. length (slots_of e)) (entry_plain m.table u.expr) ∙ ap (λ ks. length ks) (slots_same (get_or m.table u.expr expr.Null)));
  }

  pub has_tree_plain : (names : List ℕ) (x : Body) → HasTree m.table names x → HasTree n.table names x
  has_tree_plain names (sets v u x) h = (references_plain names u h.0, has_tree_plain (v ∷ names) x h.1)
  has_tree_plain names (enters params args x) h = (h.0, has_tree_plain params x h.1)
  has_tree_plain names (picks u x y) h = (references_plain names u h.0, has_tree_plain names x h.1, has_tree_plain names y h.2)
  has_tree_plain names (returns u) h = references_plain names u h
  has_tree_plain names (fails class) h = tt
  has_tree_plain names (calls label places args) h = h
  has_tree_plain names endless h = h

  pub trees_plain : Each (λ l. HasTree m.table (params_of (slice_get m.anf.blocks l)) (body_of m.anf m.tail l)) m.tail.labels
      → Each (λ l. HasTree n.table (params_of (slice_get m.anf.blocks l)) (body_of m.anf m.tail l)) m.tail.labels
  trees_plain h = λ i l there. has_tree_plain (params_of (slice_get m.anf.blocks l)) (body_of m.anf m.tail l) (h i l there)
