-- The recursive table with its names is the template's recursive part, but for names.
use Rattle.std.proofs.Common.{◌≡◌, refl, ap, sym, ◌∙◌, subst, ℕ, zero, suc, ◌+◌, true, false, pos, List, [], ◌∷◌, ◌++◌, map, length, get_or, Option, Some, None, append_assoc, append-nil, length-append, decimal, arith}
use Rattle.std.specs.Prelude.{slice_get}
use Rattle.std.proofs.lemmas.List.{map-append}
use Rattle.away_trees.specs.declared.queries.Expr.{Expr}
use Rattle.away_trees.specs.declared.queries.Expr.TheVariants as expr
use Rattle.away_trees.specs.declared.queries.Expr.TheViews.{roll-Select, roll-Recursive, roll-Query}
use Rattle.away_trees.specs.declared.queries.FromItem.{FromItem}
use Rattle.away_trees.specs.declared.queries.Select.{Select}
use Rattle.away_trees.specs.declared.queries.Recursive.{Recursive}
use Rattle.away_trees.specs.declared.queries.Query.{Query}
use Rattle.away_trees.proofs.Equations as eq
use Rattle.away_values.specs.declared.types.Ty.{Ty}
use Rattle.away_values.specs.declared.types.Ty.TheVariants as ty
use Rattle.block_forms.specs.declared.forms.Term.{Term}
use Rattle.call_forms.specs.Bodies.{Body, sets, enters, picks, returns, fails, calls, endless, body_of}
use Rattle.call_forms.specs.Carrying as carrying
use Rattle.call_forms.specs.Forms.{params_of}
use Rattle.call_forms.specs.References.{Parts, is_not_true, either, refers, here, outside, no_column, gated, cells}
use Rattle.call_forms.specs.Scopes.{Scope, paired}
use Rattle.sql_meaning.specs.Names.{nameless, bare, bare_query, bare_recursive}
use Rattle.sql_meaning.specs.Placed.{placed_at}
use Rattle.sql_meaning.specs.Reads.{slots_of}
use Rattle.sql_meaning.specs.Template.{gate, let_item}
use Rattle.sql_meaning.specs.Trees.{col, item, select, table_by, lateral, truth, number, null_of}
use Rattle.cte_template.specs.Making.{Making}
use Rattle.cte_parts.specs.Names.{table_name, step_name}
use Rattle.cte_template.specs.Places.{nowhere, first_of, carried_place, stands}
use Rattle.cte_template.specs.CarriedTree as t
use Rattle.cte_parts.specs.Trees.{gate_as, let_as, either_carrying, working_carrying}
use Rattle.cte_template.specs.CarriedWalks.{walk, end_row, call_row, all_columns}
use Rattle.cte_template.specs.Written.{Walked, selected, value_at, let_at, class_text}
use Rattle.cte_template.specs.declared.places.ItemColumn.{ItemColumn}
use Rattle.cte_template.proofs.Nameless.{from_bare, select_bare, same_lateral, same_gate, same_let, same_selects, same_either, same_select}
use Rattle.cte_template.proofs.PlacesSeen.{Shallow, refs_of, outside_is, shallow_inside, refers_is, shallow_stands, entered_is, shallow_paired, row_is, carried_shallow, carried_is, slots_are, cells_are}

abbrev bares : List FromItem → List FromItem
bares fs = map (λ f. from_bare f) fs

-- what is written behind some items is these parts
record Writes (w : Walked) (before : List FromItem) (p : Parts) : Type 0 where
  items : bares w.items ≡ bares before ++ bares p.items
  list : w.list ≡ map item p.list

grown : (before : List FromItem) (f : FromItem) → length (before ++ (f ∷ [])) ≡ suc (length before)
grown before f = omega (arith, length-append before (f ∷ []))

module _ (m : Making) (carried : List Ty) where
  abbrev parts_of : ℕ → Scope ItemColumn → ℕ → Body → Parts
  parts_of out places n body = carrying.parts m.table m.types carried m.tail.columns m.result out (refs_of (suc out) places) n body

  let_same : (out : ℕ) (places : Scope ItemColumn) (k : ℕ) (ty : Ty) (u : Term) → Shallow (suc out) places
      → from_bare (let_at m (suc out) places k ty u) ≡ from_bare (carrying.let_of m.table out (refs_of (suc out) places) ty u)
  let_same out places k ty u h =
      let e : Expr = get_or m.table u.expr expr.Null in
      same_let k (value_at m (suc out) places ty u) ∙ ap (λ ref. from_bare (let_item (placed_at ty ref e))) (slots_are out places (slots_of e) u.names h)

  one_more : (before after : List FromItem) (f g : FromItem) (rest : List FromItem) → from_bare f ≡ from_bare g → bares after ≡ bares (before ++ (f ∷ [])) ++ bares rest
      → bares after ≡ bares before ++ bares (g ∷ rest)
  one_more before after f g rest same h =
      h ∙ (ap (λ zs. zs ++ bares rest) (map-append (λ f. from_bare f) before (f ∷ []))
      ∙ (append_assoc (bares before) (from_bare f ∷ []) (bares rest) ∙ ap (λ x. bares before ++ (x ∷ bares rest)) same))

  -- the select of an arm
  arm_same : (alias : ℕ) (c : Expr) (w : Walked) (p : Parts) → Writes w (gate_as alias c ∷ []) p → select_bare (selected w) ≡ select_bare (gated c p)
  arm_same alias c w p h =
      ap (λ xs. select_bare (roll-Select (record { list = xs; from = w.items; filter = None; order = []; limit = None }))) h.list
      ∙ same_select (map item p.list) w.items (gate c ∷ p.items) None (h.items ∙ ap (λ x. x ∷ bares p.items) (same_gate alias c))

  none_added : (before : List FromItem) → bares before ≡ bares before ++ []
  none_added before = sym (append-nil (bares before))

  end_same : (out : ℕ) (value class : Expr) → map item (end_row m carried (suc out) value class) ≡ map item (carrying.end_at m.table m.types carried m.tail.columns m.result out value class).list
  end_same out value class = ap (λ xs. map item (truth false ∷ number (pos 0) ∷ (xs ++ (map null_of m.tail.columns ++ (value ∷ class ∷ []))))) (carried_is out 2 carried)

  call_same : (out : ℕ) (places : Scope ItemColumn) (label : ℕ) (keys args : List ℕ)
      → map item (call_row m carried (suc out) places label keys args)
      ≡ map item (carrying.call_at m.table m.types carried m.tail.columns m.result out label (cells 0 (refs_of (suc out) places) keys args m.tail.columns)).list
  call_same out places label keys args =
      λ i. map item (truth true ∷ number (pos (suc label)) ∷ (carried_is out 2 carried i ++ (cells_are 0 (suc out) places keys args m.tail.columns i ++ (null_of m.result ∷ null_of ty.Text ∷ []))))

  writes : (out : ℕ) (places : Scope ItemColumn) (before : List FromItem) (k : ℕ) (x : Body) → Shallow (suc out) places
      → Writes (walk m carried (suc out) places before k x) before (parts_of out places (length before) x)
  writes out places before k (sets n u x) h =
      let added = let_at m (suc out) places k (m.types n) u in
      let now : Scope ItemColumn = stands n (first_of (suc out) (length before)) places in
      let next = writes out now (before ++ (added ∷ [])) (suc k) x (shallow_stands (suc out) n (length before) places h) in
      let same : parts_of out now (length (before ++ (added ∷ []))) x
      ≡ carrying.parts m.table m.types carried m.tail.columns m.result out (refers n (here (length before) 0) (refs_of (suc out) places)) (suc (length before)) x
      = (λ i. carrying.parts m.table m.types carried m.tail.columns m.result out (refers_is (suc out) n (length before) places i) (grown before added i) x)
      in
      let rest = carrying.parts m.table m.types carried m.tail.columns m.result out (refers n (here (length before) 0) (refs_of (suc out) places)) (suc (length before)) x in
      let there : Writes (walk m carried (suc out) now (before ++ (added ∷ [])) (suc k) x) (before ++ (added ∷ [])) rest = subst (Writes (walk m carried (suc out) now (before ++ (added ∷ [])) (suc k) x) (before ++ (added ∷ []))) same next in
      record {
        items = one_more before (walk m carried (suc out) now (before ++ (added ∷ [])) (suc k) x).items added (carrying.let_of m.table out (refs_of (suc out) places) (m.types n) u) rest.items (let_same out places k (m.types n) u h) there.items;
        list = there.list;
      }
  writes out places before k (enters params args x) h =
      let now : Scope ItemColumn = paired places nowhere params args in
      subst (λ refs. Writes (walk m carried (suc out) now before k x) before (carrying.parts m.table m.types carried m.tail.columns m.result out refs (length before) x)) (entered_is out places params args)
      (writes out now before k x (shallow_paired (suc out) places params args h))
  writes out places before k (picks u x y) h =
      let c : Expr = col 2 (length before) 0 in
      let first : Walked = walk m carried (suc (suc out)) places (gate_as (suc (suc k)) c ∷ []) (suc (suc (suc k))) x in
      let second : Walked = walk m carried (suc (suc out)) places (gate_as first.next (is_not_true c) ∷ []) (suc first.next) y in
      let inside = shallow_inside (suc out) places h in
      let outer = outside_is (suc out) places h in
      let arm : Body → Parts = λ (z : Body). carrying.parts m.table m.types carried m.tail.columns m.result (suc out) (outside (refs_of (suc out) places)) 1 z in
      let yes : Writes first (gate_as (suc (suc k)) c ∷ []) (arm x)
      = subst (λ refs. Writes first (gate_as (suc (suc k)) c ∷ []) (carrying.parts m.table m.types carried m.tail.columns m.result (suc out) refs 1 x)) outer (writes (suc out) places (gate_as (suc (suc k)) c ∷ []) (suc (suc (suc k))) x inside)
      in
      let no : Writes second (gate_as first.next (is_not_true c) ∷ []) (arm y)
      = subst (λ refs. Writes second (gate_as first.next (is_not_true c) ∷ []) (carrying.parts m.table m.types carried m.tail.columns m.result (suc out) refs 1 y)) outer (writes (suc out) places (gate_as first.next (is_not_true c) ∷ []) (suc first.next) y inside)
      in
      record {
        items =
            map-append (λ f. from_bare f) before (let_at m (suc out) places k ty.Boolean u ∷ either_carrying (suc k) (length carried) (length m.tail.columns) (selected first) (selected second) ∷ [])
            ∙ (λ i. bares before ++ (let_same out places k ty.Boolean u h i
            ∷ (same_either (suc k) (length carried) (length m.tail.columns) (selected first) (selected second) (gated c (arm x)) (gated (is_not_true c) (arm y)) (arm_same (suc (suc k)) c first (arm x) yes) (arm_same first.next (is_not_true c) second (arm y) no) i ∷ [])));
        list = refl;
      }
  writes out places before k (returns u) h =
      record {
        items = map-append (λ f. from_bare f) before (let_at m (suc out) places k m.result u ∷ []) ∙ ap (λ z. bares before ++ (z ∷ [])) (let_same out places k m.result u h);
        list = end_same out (col 0 (length before) 0) (null_of ty.Text);
      }
  writes out places before k (fails c) h = record { items = none_added before; list = end_same out (null_of m.result) (class_text m c) }
  writes out places before k (calls label keys args) h = record {
    items = none_added before;
    list = call_same out places label keys args;
  }
  writes out places before k endless h = record { items = none_added before; list = end_same out (null_of m.result) (null_of ty.Text) }

  -- ---- the whole

  branch_same : (i b : ℕ)
      → select_bare (t.branch m carried i b)
      ≡ select_bare (carrying.branch m.table m.types carried m.tail.columns m.result (suc i) (params_of (slice_get m.anf.blocks b)) (get_or m.tail.places i []) (body_of m.anf m.tail b))
  branch_same i b =
      let params = params_of (slice_get m.anf.blocks b) in
      let keys = get_or m.tail.places i [] in
      let here : Expr = t.at_label m (suc i) in
      let body : Body = body_of m.anf m.tail b in
      let w : Walked = walk m carried 1 (paired (carried_place carried) nowhere params keys) (gate_as 1 here ∷ []) 2 body in
      let p : Parts = carrying.parts m.table m.types carried m.tail.columns m.result 0 (paired (carrying.of_row carried) (no_column 0) params keys) 1 body in
      let same : Writes w (gate_as 1 here ∷ []) p
      = subst (λ refs. Writes w (gate_as 1 here ∷ []) (carrying.parts m.table m.types carried m.tail.columns m.result 0 refs 1 body)) (row_is carried params keys) (writes 0 (paired (carried_place carried) nowhere params keys) (gate_as 1 here ∷ []) 2 body (carried_shallow carried params keys))
      in
      arm_same 1 here w p same

  -- the selects of the template
  abbrev theirs : ℕ → List ℕ → List Select
  theirs i bs = carrying.branches m.table m.types carried m.result m.anf m.tail i bs

  branches_same : (i : ℕ) (bs : List ℕ) → map (λ s. select_bare s) (t.branches m carried i bs) ≡ map (λ s. select_bare s) (theirs i bs)
  branches_same i [] = refl
  branches_same i (b ∷ bs) = λ j. branch_same i b j ∷ branches_same (suc i) bs j

  working_same : (tables : ℕ) → from_bare (working_carrying tables (length carried) (t.width m)) ≡ from_bare (table_by (decimal tables))
  working_same tables = refl

  rows_same : from_bare (t.label_rows m carried) ≡ from_bare (lateral (roll-Query (record { recursive = None; selects = theirs 0 m.tail.labels })))
  rows_same =
      let mine : List Select = t.branches m carried 0 m.tail.labels in
      same_lateral step_name (t.column_names m carried) (roll-Query (record { recursive = None; selects = mine })) (roll-Query (record { recursive = None; selects = theirs 0 m.tail.labels }))
      (same_selects mine (theirs 0 m.tail.labels) (branches_same 0 m.tail.labels))

  pub step_same : (tables : ℕ) → select_bare (t.step m carried tables) ≡ select_bare (carrying.step m.table m.types carried m.result m.anf m.tail (decimal tables))
  step_same tables =
      same_select (map item (all_columns m carried 1)) (working_carrying tables (length carried) (t.width m) ∷ t.label_rows m carried ∷ [])
      (table_by (decimal tables) ∷ lateral (roll-Query (record { recursive = None; selects = theirs 0 m.tail.labels })) ∷ []) (Some (col 0 0 0))
      (λ i. working_same tables i ∷ (rows_same i ∷ []))

-- a query over a recursive table, without the table's name and those of its columns
pub bare_of : List Select → Select → List Select → Query
bare_of xs y zs = bare_query (record { recursive = Some (bare_recursive (record { name = []; columns = []; first = xs; second = y })); selects = zs })

pub whole : (name : List ℕ) (columns : List (List ℕ)) (first : List Select) (second : Select) (selects : List Select)
    → bare (roll-Query (record { recursive = Some (roll-Recursive (record { name = name; columns = columns; first = first; second = second })); selects = selects }))
    ≡ bare_of (map (λ s. select_bare s) first) (select_bare second) (map (λ s. select_bare s) selects)
unfolding bare_of roll-Query
whole name columns first second selects =
    eq.of_with nameless (roll-Recursive (record { name = name; columns = columns; first = first; second = second })) selects
    ∙ ap (λ r. bare_query (record { recursive = Some r; selects = map (λ s. select_bare s) selects })) (eq.of_recursive nameless name columns first second)

pub table_is_templates : (m : Making) (carried : List Ty) (first : List Select) (tables : ℕ) (selects : List Select)
    → bare (carrying.with_part (t.carried_table m carried first tables) selects)
    ≡ bare (carrying.with_part (carrying.part_of m.table m.types carried m.result m.anf m.tail first tables) selects)
table_is_templates m carried first tables selects =
    whole table_name (t.column_names m carried) first (t.step m carried tables) selects
    ∙ (ap (λ y. bare_of (map (λ s. select_bare s) first) y (map (λ s. select_bare s) selects)) (step_same m carried tables)
    ∙ sym (whole [] [] first (carrying.step m.table m.types carried m.result m.anf m.tail (decimal tables)) selects))
