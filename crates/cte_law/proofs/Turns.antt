-- The second term over a working table of calls and ends. And the first term, where nothing is carried.
use Rattle.std.proofs.Common.{◌≡◌, ℕ, zero, suc, ◌<◌, ◌^◌, true, false, pos, List, [], ◌∷◌, ◌++◌, map, length, decimal, Option, Some, None, Ok, Err, refl, ap, sym, ◌∙◌, subst, arith}
use Rattle.std.specs.Prelude.{slice_get, get_or}
use Rattle.away_trees.specs.declared.queries.Expr.{Expr}
use Rattle.away_trees.specs.declared.queries.Expr.TheVariants as expr
use Rattle.away_trees.specs.declared.queries.Expr.TheViews.{roll-Query}
use Rattle.away_trees.specs.declared.queries.FromItem.{FromItem}
use Rattle.away_trees.specs.declared.queries.Select.{Select}
use Rattle.away_values.specs.declared.types.Ty.{Ty}
use Rattle.away_values.specs.declared.types.Ty.TheVariants as ty
use Rattle.away_values.specs.declared.values.Value.{Value}
use Rattle.away_values.specs.declared.values.Value.TheVariants as val
use Rattle.away_values.specs.Operators.{is_true}
use Rattle.away_values.specs.Results.{Or, and_then, mapped, each_joined}
use Rattle.sql_meaning.specs.Context.{Rows, Frame, Context, at, column, inside, outermost}
use Rattle.sql_meaning.specs.Expressions.{any_aggregates}
use Rattle.sql_meaning.specs.Meaning.{value, rows_of_item, rows_of_select}
use Rattle.sql_meaning.specs.Selects.{product, extend, keep, keep_if}
use Rattle.sql_meaning.specs.Template.{below}
use Rattle.sql_meaning.specs.Trees.{col, table, lateral, number, truth, null_of}
use Rattle.sql_meaning.proofs.Returns.{Sees, turned, sees_tables}
use Rattle.sql_meaning.proofs.RowPlaces.{nulls_then, last_table}
use Rattle.sql_meaning.proofs.SelectRows.{Is, Are, is_number, is_truth, is_null_of, is_col, none, more, for_all, rows_of, fault_of, one_row, rows_of_table, extended}
use Rattle.call_forms.specs.Bodies.{body_of}
use Rattle.call_forms.specs.Forms.{params_of}
use Rattle.call_forms.specs.Scopes.{paired}
use Rattle.call_forms.specs.TailRuns.{row_from, entry_label, first_row}
use Rattle.call_forms.specs.Carrying.{branches, step}
use Rattle.call_forms.specs.Template.{start, argument_cells}
use Rattle.together.specs.Encoded.{AllGood}
use Rattle.together.specs.Steppers.{on, ended, left_by, carry}
use Rattle.together.specs.Tables.{joined}
use Rattle.cte_law.proofs.Bodies.{wide}
use Rattle.cte_law.proofs.Branches.{scope_at, visit_at, none_open, one_open, not_there}
use Rattle.cte_law.proofs.ScopesAlike.{paired_relates}
use Rattle.cte_law.proofs.Sequences.{unit, alone}
use Rattle.cte_law.proofs.States.{State, IsState, left, row_of, at_block, visit_rows}
use Rattle.cte_law.proofs.Visits.{walked, rows_of_visit}
use Rattle.cte_law.proofs.WorkingRows.{call_row, end_row, width, all_in, IsOneRow, are_all}
use Rattle.cte_law.proofs.Works.{all, froms, list_rows, union_rows}
use Rattle.cte_law.proofs.Worlds.{World, frame_in, OverTables}

-- a call holds the row of its label, and NULL behind it
padded : (row : List Value) (i : ℕ) → at (row ++ (val.Null ∷ val.Null ∷ [])) i ≡ at row i
padded [] zero = refl
padded [] (suc zero) = refl
padded [] (suc (suc i)) = refl
padded (x ∷ row) zero = refl
padded (x ∷ row) (suc i) = padded row i

-- a row and what it leaves, side by side
abbrev Pairs : Type 0
Pairs = List (List Value × List Value)

abbrev frames_of : Pairs → List Frame
frames_of = map (λ p. p.0 ∷ p.1 ∷ [])

abbrev seconds : Pairs → Rows
seconds = map (λ p. p.1)

frames_append : (ps qs : Pairs) → frames_of (ps ++ qs) ≡ frames_of ps ++ frames_of qs
frames_append [] qs = refl
frames_append (p ∷ ps) qs = ap (λ fs. (p.0 ∷ p.1 ∷ []) ∷ fs) (frames_append ps qs)

seconds_append : (ps qs : Pairs) → seconds (ps ++ qs) ≡ seconds ps ++ seconds qs
seconds_append [] qs = refl
seconds_append (p ∷ ps) qs = ap (λ rs. p.1 ∷ rs) (seconds_append ps qs)

map_append : {A B : Type 0} (f : A → B) (xs ys : List A) → map f (xs ++ ys) ≡ map f xs ++ map f ys
map_append f [] ys = refl
map_append f (x ∷ xs) ys = ap (λ more. f x ∷ more) (map_append f xs ys)

mapped_joined : {A B : Type 0} (f : A → B) (x y : Or (List A)) → and_then (mapped (map f) x) (λ xs. mapped (λ ys. xs ++ ys) (mapped (map f) y)) ≡ mapped (map f) (joined x y)
mapped_joined f (Err c) y = refl
mapped_joined f (Ok xs) (Err c) = refl
mapped_joined f (Ok xs) (Ok ys) = ap Ok (sym (map_append f xs ys))

module _ (w : World) (ok : OverTables w) (args : List Value) (small : length w.tables < 2 ^ 64) (carried : List Ty) where
  abbrev digits : List ℕ
  digits = decimal (length w.tables)

  abbrev pub turn : Rows → Or Rows
  turn rows = rows_of_select (step w.table w.types carried w.result w.anf w.tail digits) (turned w.tables args rows)

  abbrev selects : List Select
  selects = branches w.table w.types carried w.result w.anf w.tail 0 w.tail.labels

  abbrev union_item : FromItem
  union_item = lateral (roll-Query (record { recursive = None; selects = selects }))

  abbrev items : List FromItem
  items = table (length w.tables) ∷ union_item ∷ []

  abbrev the_list : List Expr
  the_list = all_in w carried 1

  abbrev row_in : State → List Value
  row_in = row_of w

  -- what one row leaves for the next table
  abbrev next_of : State → Or Rows
  next_of s = mapped (map row_in) (left w s)

  -- the branches beside a row, in any context with the tables
  beside : (cx : Context) → Sees w.tables cx → (s : State) → IsState carried s
      → each_joined (λ x. rows_of_select x (inside (row_in s ∷ []) cx)) selects ≡ next_of s
  beside cx sees (on (xs, (i, row))) many = by (slice_get w.tail.labels i) refl
    where
      by : (o : Option ℕ) → slice_get w.tail.labels i ≡ o
          → each_joined (λ x. rows_of_select x (inside (call_row xs i row ∷ []) cx)) selects
          ≡ mapped (map row_in) (left_by (carry xs (at_block w (i, row) o)))
      by None missed = not_there w ok carried xs many cx sees (val.Bool true) (suc i) (row ++ (val.Null ∷ val.Null ∷ [])) i 0 w.tail.labels (omega arith) missed
      by (Some b) found =
          one_open w ok carried xs many cx sees (val.Bool true) (suc i) (row ++ (val.Null ∷ val.Null ∷ [])) i 0 w.tail.labels b i refl (omega arith) found
          ∙ ((λ t. rows_of_visit w xs (walked w (body_of w.anf w.tail b)
          (paired (λ place. padded row place t) val.Null (params_of (slice_get w.anf.blocks b)) (get_or w.tail.places i []))))
          ∙ sym (visit_rows w xs (visit_at w i b row)))
  beside cx sees (ended (xs, (v, c))) many =
      none_open w ok carried xs many cx sees (val.Bool false) 0 (nulls_then w.tail.columns v c) 0 w.tail.labels (omega arith)

  -- rows that go on, and wide rows that they leave
  abbrev AreGood : Pairs → Type 0
  AreGood [] = Unit {0}
  AreGood (p ∷ ps) = (at p.0 0 ≡ val.Bool true) × (length p.1 ≡ width carried w.tail.columns) × AreGood ps

  good_append : (ps qs : Pairs) → AreGood ps → AreGood qs → AreGood (ps ++ qs)
  good_append [] qs h k = k
  good_append (p ∷ ps) qs h k = (h.0, h.1, good_append ps qs h.2 k)

  -- a fault, or the pairs that rows make
  abbrev Comes : Or (List Frame) → Or Rows → Type 0
  Comes (Err c) rows = rows ≡ Err c
  Comes (Ok frames) rows = (ps : Pairs) × (frames ≡ frames_of ps) × AreGood ps × (rows ≡ Ok (seconds ps))

  abbrev paired_with : List Value → Or Rows → Or (List Frame)
  paired_with row rows = mapped (map (λ (r : List Value). row ∷ r ∷ [])) rows

  one_comes : (go : List Value) → at go 0 ≡ val.Bool true → (rows : Or Rows) → IsOneRow w carried rows → Comes (paired_with go rows) rows
  one_comes go goes (Err c) one = refl
  one_comes go goes (Ok []) one = absurd one
  one_comes go goes (Ok (row ∷ [])) one = ((go, row) ∷ [], refl, (goes, one, tt), refl)
  one_comes go goes (Ok (row ∷ other ∷ more_rows)) one = absurd one

  state_comes : (s : State) → IsState carried s → Comes (paired_with (row_in s) (next_of s)) (next_of s)
  state_comes (on (xs, (i, row))) many = by (slice_get w.tail.labels i)
    where
      by : (o : Option ℕ)
          → Comes (paired_with (call_row xs i row) (mapped (map row_in) (left_by (carry xs (at_block w (i, row) o)))))
          (mapped (map row_in) (left_by (carry xs (at_block w (i, row) o))))
      by None = ([], refl, tt, refl)
      by (Some b) =
          subst (λ rows. Comes (paired_with (call_row xs i row) rows) rows) (sym (visit_rows w xs (visit_at w i b row)))
          (one_comes (call_row xs i row) refl (rows_of_visit w xs (visit_at w i b row)) (wide w carried xs many (body_of w.anf w.tail b) (scope_at w i b row)))
  state_comes (ended p) many = ([], refl, tt, refl)

  both_come : (x : Or (List Frame)) (a : Or Rows) (y : Or (List Frame)) (b : Or Rows) → Comes x a → Comes y b → Comes (joined x y) (joined a b)
  both_come (Err c) a y b h k = ap (λ a. joined a b) h
  both_come (Ok fs) a (Err c) b h k = (λ i. joined (h.3 i) (k i))
  both_come (Ok fs) a (Ok gs) b h k = (
    h.0 ++ k.0,
    (λ i. h.1 i ++ k.1 i) ∙ sym (frames_append h.0 k.0),
    good_append h.0 k.0 h.2 k.2,
    (λ i. joined (h.3 i) (k.3 i)) ∙ ap Ok (sym (seconds_append h.0 k.0)),
  )

  abbrev pairs_of : State → Or (List Frame)
  pairs_of s = paired_with (row_in s) (next_of s)

  come : (ss : List State) → AllGood (IsState carried) ss → Comes (each_joined pairs_of ss) (each_joined next_of ss)
  come [] h = ([], refl, tt, refl)
  come (s ∷ ss) h = both_come (pairs_of s) (next_of s) (each_joined pairs_of ss) (each_joined next_of ss) (state_comes s h.0) (come ss h.1)

  extended_all : (cx : Context) → Sees w.tables cx → (ss : List State) → AllGood (IsState carried) ss
      → extend cx (rows_of_item union_item) (map (λ row. row ∷ []) (map row_in ss)) ≡ each_joined pairs_of ss
  extended_all cx sees [] h = refl
  extended_all cx sees (s ∷ ss) h =
      (λ i. joined (paired_with (row_in s) ((union_rows selects cx (row_in s ∷ []) ∙ beside cx sees s h.0) i)) (extended_all cx sees ss h.1 i))

  all_kept : (cx : Context) (ps : Pairs) → AreGood ps → keep (λ frame. value (col 0 0 0) (inside frame cx)) (frames_of ps) ≡ Ok (frames_of ps)
  all_kept cx [] h = refl
  all_kept cx (p ∷ ps) h = (λ i. mapped (keep_if (p.0 ∷ p.1 ∷ []) (is_true (h.0 i))) (all_kept cx ps h.2 i))

  all_listed : (cx : Context) (ps : Pairs) → AreGood ps → list_rows cx the_list (frames_of ps) ≡ Ok (seconds ps)
  all_listed cx [] h = refl
  all_listed cx (p ∷ ps) h =
      (λ i. and_then ((are_all w carried cx (p.0 ∷ []) p.1 h.1).gives i) (λ y. mapped (λ ys. y ∷ ys) (all_listed cx ps h.2 i)))

  list_single : (cx : Context) → any_aggregates (all the_list) ≡ false
  list_single cx =
      (for_all cx (col 0 1) (λ i. column cx.frames (record { level = 0; item = 1; column = i })) (below (width carried w.tail.columns))
      (λ i. is_col cx 0 1 i)).single

  selected : (cx : Context) (o : Or (List Frame)) (rows : Or Rows) → product cx (froms items) ([] ∷ []) ≡ o → Comes o rows
      → rows_of_select (step w.table w.types carried w.result w.anf w.tail digits) cx ≡ rows
  selected cx (Err c) rows h come = fault_of cx the_list items (Some (col 0 0 0)) c h ∙ sym come
  selected cx (Ok frames) rows h come =
      rows_of cx the_list items (Some (col 0 0 0)) (frames_of come.0) (frames_of come.0) (Ok (seconds come.0)) (h ∙ ap Ok come.1)
      (all_kept cx come.0 come.2) (list_single cx) (all_listed cx come.0 come.2)
      ∙ sym come.3

  all_left : (ss : List State) → each_joined next_of ss ≡ mapped (map row_in) (each_joined (left w) ss)
  all_left [] = refl
  all_left (s ∷ ss) = ap (joined (next_of s)) (all_left ss) ∙ mapped_joined row_in (left w s) (each_joined (left w) ss)

  -- The second term over any rows of calls and ends: what each row leaves, in their order. The first class is that of the whole.
  pub turn_all : (ss : List State) → AllGood (IsState carried) ss → turn (map row_in ss) ≡ mapped (map row_in) (each_joined (left w) ss)
  turn_all ss h =
      let rows : Rows = map row_in ss in
      let cx : Context = turned w.tables args rows in
      let table_is = rows_of_table (length w.tables) cx [] small ∙ ap Ok (last_table w.tables rows) in
      let table_frames = extended cx (rows_of_item (table (length w.tables))) [] (Ok rows) table_is ∙ alone (Ok (map (λ row. row ∷ []) rows)) in
      selected cx (each_joined pairs_of ss) (each_joined next_of ss)
      (ap (λ x. and_then x (product cx (rows_of_item union_item ∷ []))) table_frames
      ∙ (ap (λ x. and_then x (λ y. Ok y)) (extended_all cx (sees_tables w.tables args rows) ss h) ∙ unit (each_joined pairs_of ss)))
      (come ss h)
      ∙ all_left ss

-- ---- one row, where nothing is carried

module _ (w : World) (ok : OverTables w) (args : List Value) (small : length w.tables < 2 ^ 64) where
  -- what a call leaves
  pub turn_call : (i : ℕ) (row : List Value) (b : ℕ) → slice_get w.tail.labels i ≡ Some b
      → turn w ok args small [] (call_row [] i row ∷ []) ≡ rows_of_visit w [] (visit_at w i b row)
  turn_call i row b found =
      turn_all w ok args small [] (on ([], (i, row)) ∷ []) (refl, tt)
      ∙ (ap (mapped (map (row_of w))) (alone (left w (on ([], (i, row)))))
      ∙ (ap (λ o. mapped (map (row_of w)) (left_by (carry [] (at_block w (i, row) o)))) found ∙ visit_rows w [] (visit_at w i b row)))

  -- no label has the number of a row that is finished
  pub turn_over : (v c : Value) → turn w ok args small [] (end_row [] w.tail.columns v c ∷ []) ≡ Ok []
  turn_over v c = turn_all w ok args small [] (ended ([], (v, c)) ∷ []) (refl, tt)

  -- ---- the first term

  is_argument : (cx : Context) (k : ℕ) (t : Ty) → Is cx (expr.Param (suc k) t) (at cx.args k)
  is_argument cx k t = record { gives = refl; single = refl }

  are_arguments : (cx : Context) (places params : List ℕ) (es : List Expr) (vs : List Value) → Are cx es vs → (i : ℕ) (columns : List Ty)
      → Are cx (argument_cells w.types i places params columns ++ es) (row_from i (λ p. at cx.args p) places params columns ++ vs)
  are_arguments cx places params es vs rest i [] = rest
  are_arguments cx places params es vs rest i (t ∷ ts) =
      more cx _ _ _ _
      (paired_relates (Is cx) (λ p. expr.Param (suc p) (w.types p)) (λ p. at cx.args p) (null_of t) val.Null (λ p. is_argument cx p (w.types p))
      (is_null_of cx t) places params i)
      (are_arguments cx places params es vs rest (suc i) ts)

  abbrev at_start : Context
  at_start = inside [] (outermost w.tables args)

  abbrev entry_at : ℕ
  entry_at = entry_label (frame_in w) w.anf w.tail

  pub first_rows : rows_of_select (start w.table w.types w.result w.anf w.tail w.goto.entry) (outermost w.tables args)
      ≡ Ok (call_row [] entry_at (first_row (frame_in w) w.anf w.tail args) ∷ [])
  first_rows =
      let nulls = more at_start (null_of w.result) _ val.Null _ (is_null_of at_start w.result)
      (more at_start (null_of ty.Text) _ val.Null _ (is_null_of at_start ty.Text) (none at_start)) in
      one_row (outermost w.tables args) _ [] None ([] ∷ []) [] _ refl refl
      (more at_start (truth true) _ _ _ (is_truth at_start true)
      (more at_start (number (pos (suc entry_at))) _ _ _ (is_number at_start (pos (suc entry_at)))
      (are_arguments at_start (get_or w.tail.places entry_at []) (params_of (slice_get w.anf.blocks w.goto.entry)) _ _ nulls 0 w.tail.columns)))
