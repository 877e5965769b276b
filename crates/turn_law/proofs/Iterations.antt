-- The second term over a working table of one row: a call, or a finished row.
use Rattle.std.proofs.Common.{◌≡◌, refl, ap, sym, ◌∙◌, subst, ℕ, zero, suc, ◌<◌, ◌^◌, Bool, true, false, nat_lt, pos, List, [], ◌∷◌, map, length, slice_index_or, decimal, Some, None, Ok, Err, ◌++◌, arith}
use Rattle.away_trees.specs.declared.queries.Expr.{Expr}
use Rattle.away_trees.specs.declared.queries.FromItem.{FromItem}
use Rattle.away_values.specs.declared.values.Class.{Class}
use Rattle.away_values.specs.declared.values.Value.{Value}
use Rattle.away_values.specs.declared.values.Value.TheVariants as val
use Rattle.away_values.specs.Results.{Or, and_then}
use Rattle.sql_meaning.specs.Context.{Rows, Context, at, column, inside, outermost}
use Rattle.sql_meaning.specs.Meaning.{rows_of_item, rows_of_select}
use Rattle.sql_meaning.specs.Selects.{product}
use Rattle.sql_meaning.specs.Template.{below}
use Rattle.sql_meaning.specs.Trees.{col, table, select, subquery, one, truth, number, null_of}
use Rattle.sql_meaning.specs.Working.{with_table}
use Rattle.sql_meaning.proofs.Returns as returns
use Rattle.sql_meaning.proofs.Returns.{sees_tables}
use Rattle.sql_meaning.proofs.RowPlaces.{last_table}
use Rattle.sql_meaning.proofs.SelectRows.{Are, is_col, for_all, fault_of, one_row, no_row, rows_of_table, extended, Is, is_truth, is_number, is_null_of, none, more}
use Rattle.away_trees.specs.declared.queries.Expr.TheVariants as expr
use Rattle.away_values.specs.declared.types.Ty.{Ty}
use Rattle.away_values.specs.declared.types.Ty.TheVariants as ty
use Rattle.std.specs.Prelude.{slice_get, get_or}
use Rattle.block_forms.specs.declared.forms.Term.{Term}
use Rattle.call_forms.specs.Bodies.{body_of}
use Rattle.call_forms.specs.Forms.{params_of}
use Rattle.call_forms.specs.TailRuns.{row_from, entry_label, first_row}
use Rattle.call_forms.specs.Template.{start, argument_cells}
use Rattle.cte_law.proofs.Branches.{scope_at, visit_at}
use Rattle.cte_law.proofs.ScopesAlike.{paired_relates}
use Rattle.cte_law.proofs.Visits.{Visited, gives, raises, faults, goes_on, stays}
use Rattle.cte_law.proofs.WorkingRows.{call_row}
use Rattle.cte_law.proofs.Worlds.{World, frame_in, OverTables}
use Rattle.turn_template.specs.TurnTemplate as turn
use Rattle.turn_template.specs.TurnTemplate.{all_cells, stacked, is_single, numbered}
use Rattle.turn_law.proofs.Levels as level
use Rattle.turn_law.proofs.Levels.{Gives, sub_is, stack_one, stack_none, copies}
use Rattle.turn_law.proofs.Terms.{IsTotal}
use Rattle.turn_law.proofs.RowCells.{row_of, work, work_long}
use Rattle.turn_law.proofs.SeveralTurns.{same_row, turns_rows, turns_single, all_turns}
use Rattle.turn_law.proofs.States.{row_width, walked_wide, Inner, IsWide, turned, turned_once, once_wide, Finished, Stands, entry_stands}
use Rattle.turn_law.proofs.Turns.{one_turn, turn_single, found_turn}

never_row : {c : Class} {z : List Value} → level.bad c ≡ level.good z → ⊥
never_row h = cc

module _ (w : World) (ok : OverTables w) (total : Term → Bool) (totals : (u : Term) → total u ≡ true → IsTotal w u)
    (same : Expr → Expr → Bool) (alike : (x y : Expr) → same x y ≡ true → x ≡ y)
    (heads : List ℕ) (inner : Inner w heads) (args : List Value)
    (small : length w.tables < 2 ^ 64) (k : ℕ) where
  abbrev digits : List ℕ
  digits = decimal (length w.tables)

  abbrev pub step_rows : Rows → Or Rows
  step_rows rows = rows_of_select (turn.step w.table w.types w.result total same w.anf w.tail w.goto.entry digits heads k) (returns.turned w.tables args rows)

  abbrev width : ℕ
  width = turn.width w.table w.types w.tail.columns w.result total (numbered same)

  abbrev list : List Expr
  list = all_cells width

  abbrev going : FromItem
  going = turn.going w.table w.types w.result total same w.anf w.tail w.goto.entry digits

  module _ (rows : Rows) where
    abbrev T : List Rows
    T = with_table w.tables rows

    sees : (j : ℕ) → nat_lt j (length w.tables) ≡ true → slice_index_or T j [] ≡ slice_index_or w.tables j []
    sees = sees_tables w.tables args rows

    from_table : (cx : Context) → cx.tables ≡ T → rows_of_item (table (length w.tables)) cx [] ≡ Ok rows
    from_table cx t = rows_of_table (length w.tables) cx [] small ∙ ap Ok (ap (λ z. slice_index_or z (length w.tables) []) t ∙ last_table w.tables rows)

  are_copies : (cx : Context) (r : List Value) → length r ≡ width → Are (inside (r ∷ []) cx) list r
  are_copies cx r long = subst (λ n. Are (inside (r ∷ []) cx) (map (col 0 0) (below n)) r) long (copies [] r cx)

  one_there : (r : List Value) (cx : Context) → cx.tables ≡ T (r ∷ [])
      → product cx (rows_of_item (table (length w.tables)) ∷ []) ([] ∷ []) ≡ Ok ((r ∷ []) ∷ [])
  one_there r cx t = ap (λ x. and_then x (λ y. Ok y)) (extended cx (rows_of_item (table (length w.tables))) [] (Ok (r ∷ [])) (from_table (r ∷ []) cx t))

  -- a call goes on
  call_goes : (i : ℕ) (row : List Value) → length (call_row [] i row) ≡ width → Gives (T (call_row [] i row ∷ [])) args going (Ok (call_row [] i row ∷ []))
  call_goes i row long cx t q frame =
      let r = call_row [] i row in
      sub_is (select list (table (length w.tables) ∷ []) (Some (col 0 0 0))) cx frame (Ok (r ∷ []))
      (one_row (inside [] cx) list (table (length w.tables) ∷ []) (Some (col 0 0 0)) ((r ∷ []) ∷ []) (r ∷ []) r (one_there r (inside [] cx) t) refl
      (are_copies (inside [] cx) r long))

  -- a finished row doesn't
  end_stops : (n : ℕ) (row : List Value) (v c : Value) → length (work false n row v c) ≡ width → Gives (T (work false n row v c ∷ [])) args going (Ok [])
  end_stops n row v c long cx t q frame =
      let r = work false n row v c in
      sub_is (select list (table (length w.tables) ∷ []) (Some (col 0 0 0))) cx frame (Ok [])
      (no_row (inside [] cx) list (table (length w.tables) ∷ []) (Some (col 0 0 0)) ((r ∷ []) ∷ []) (one_there r (inside [] cx) t) refl
      (are_copies (inside [] cx) r long).single)

  -- ---- the select over the turns

  over_one : (from : FromItem) (cx : Context) (o : Or (List Value)) → ((z : List Value) → o ≡ Ok z → length z ≡ width)
      → rows_of_item from cx [] ≡ level.one_row o → rows_of_select (select list (from ∷ []) None) cx ≡ level.one_row o
  over_one from cx (Ok z) long h =
      one_row cx list (from ∷ []) None ((z ∷ []) ∷ []) (z ∷ []) z
      (ap (λ x. and_then x (λ y. Ok y)) (extended cx (rows_of_item from) [] (Ok (z ∷ [])) h)) refl (are_copies cx z (long z refl))
  over_one from cx (Err c) long h =
      fault_of cx list (from ∷ []) None c (ap (λ x. and_then x (λ y. Ok y)) (extended cx (rows_of_item from) [] (Err c) h))

  over_none : (from : FromItem) (cx : Context) → rows_of_item from cx [] ≡ Ok [] → rows_of_select (select list (from ∷ []) None) cx ≡ Ok []
  over_none from cx h =
      no_row cx list (from ∷ []) None [] (ap (λ x. and_then x (λ y. Ok y)) (extended cx (rows_of_item from) [] (Ok []) h)) refl
      (for_all cx (col 0 0) (λ i. column cx.frames (record { level = 0; item = 0; column = i })) (below width) (λ i. is_col cx 0 0 i)).single

  -- ---- states

  abbrev stand : Visited → Or (List Value) → Type 0
  stand x o = Stands w (is_single heads) x o

  end_long : (v c : Value) (z : List Value) → Finished (is_single heads) w.tail.columns (level.good z) v c → length z ≡ width
  end_long v c z h = subst (λ r. length r ≡ width) (sym (same_row h.is)) (work_long false h.number h.row v c (length w.tail.columns) h.long)

  row_long : (x : Visited) → IsWide w heads x → (z : List Value) → stand x (level.good z) → length z ≡ width
  row_long (goes_on i row) wide z h =
      subst (λ r. length r ≡ width) (sym (same_row h)) (work_long true (suc i) row val.Null val.Null (length w.tail.columns) wide.0)
  row_long (gives v) wide z h = end_long v val.Null z h
  row_long (raises c) wide z h = end_long val.Null (val.Text c.code) z h
  row_long (faults c) wide z h = absurd (never_row (sym h))
  row_long stays wide z h = end_long val.Null val.Null z h

  stand_long : (x : Visited) → IsWide w heads x → (o : Or (List Value)) → stand x o → (z : List Value) → o ≡ level.good z → length z ≡ width
  stand_long x wide o h z e = row_long x wide z (subst (λ y. stand x y) e h)

  pub turned_wide : (n : ℕ) (x : Visited) → IsWide w heads x → IsWide w heads (turned w n x)
  turned_wide zero x h = h
  turned_wide (suc n) x h = turned_wide n (turned_once w x) (once_wide w heads inner x h)

  -- a row or a fault, which stands for a state
  pub record Leaves (o : Or Rows) (x : Visited) : Type 0 where
    pub outcome : Or (List Value)
    pub is : o ≡ level.one_row outcome
    pub stands : stand x outcome

  -- what a call leaves after k turns
  pub iteration_call : (i : ℕ) (row : List Value) → IsWide w heads (goes_on i row) → Leaves (step_rows (call_row [] i row ∷ [])) (turned w k (goes_on i row))
  iteration_call i row long =
      let r = call_row [] i row in
      let tables = T (r ∷ []) in
      let seen = sees (r ∷ []) in
      let cx = returns.turned w.tables args (r ∷ []) in
      let levels = all_turns w ok tables seen total totals same alike heads inner k in
      let after = turns_rows w ok tables seen total totals same alike heads inner k (goes_on i row) long r refl in
      record {
        outcome = after.outcome;
        is =
            over_one (stacked going levels) cx after.outcome
            (stand_long (turned w k (goes_on i row)) (turned_wide k (goes_on i row) long) after.outcome after.stands)
            (stack_one tables args levels (turns_single w ok tables seen total totals same alike heads inner k) going r after.outcome
            (call_goes i row (work_long true (suc i) row val.Null val.Null (length w.tail.columns) long.0)) after.comes cx refl refl []);
        stands = after.stands;
      }

  -- and a finished row
  pub iteration_over : (n : ℕ) (row : List Value) (v c : Value) → length row ≡ length w.tail.columns → step_rows (work false n row v c ∷ []) ≡ Ok []
  iteration_over n row v c long =
      let r = work false n row v c in
      let tables = T (r ∷ []) in
      let seen = sees (r ∷ []) in
      let cx = returns.turned w.tables args (r ∷ []) in
      let levels = all_turns w ok tables seen total totals same alike heads inner k in
      over_none (stacked going levels) cx
      (stack_none tables args levels (turns_single w ok tables seen total totals same alike heads inner k) going
      (end_stops n row v c (work_long false n row v c (length w.tail.columns) long)) cx refl refl [])

  -- ---- the first term: the row of the arguments, and the entry's turn

  is_argument : (cx : Context) (k : ℕ) (t : Ty) → Is cx (expr.Param (suc k) t) (at cx.args k)
  is_argument cx k t = record { gives = refl; single = refl }

  are_arguments : (cx : Context) (places params : List ℕ) (es : List Expr) (vs : List Value) → Are cx es vs → (i : ℕ) (columns : List Ty)
      → Are cx (argument_cells w.types i places params columns ++ es) (row_from i (λ p. at cx.args p) places params columns ++ vs)
  are_arguments cx places params es vs rest i [] = rest
  are_arguments cx places params es vs rest i (t ∷ ts) =
      more cx _ _ _ _
      (paired_relates (Is cx) (λ p. expr.Param (suc p) (w.types p)) (λ p. at cx.args p) (null_of t) val.Null (λ p. is_argument cx p (w.types p))
      (is_null_of cx t) places params i)
      (are_arguments cx places params es vs rest (suc i) ts)

  abbrev pub entry_at : ℕ
  entry_at = entry_label (frame_in w) w.anf w.tail

  abbrev pub first_at : List Value
  first_at = first_row (frame_in w) w.anf w.tail args

  start_rows : Gives w.tables args (subquery false (one (start w.table w.types w.result w.anf w.tail w.goto.entry))) (Ok (call_row [] entry_at first_at ∷ []))
  start_rows cx t q frame =
      let there : Context = inside [] (inside [] cx) in
      let places : List ℕ = get_or w.tail.places entry_at [] in
      let params : List ℕ = params_of (slice_get w.anf.blocks w.goto.entry) in
      let nulls = more there (null_of w.result) _ val.Null _ (is_null_of there w.result)
      (more there (null_of ty.Text) _ val.Null _ (is_null_of there ty.Text) (none there)) in
      sub_is (start w.table w.types w.result w.anf w.tail w.goto.entry) cx frame (Ok (call_row [] entry_at first_at ∷ []))
      (one_row (inside [] cx) _ [] None ([] ∷ []) [] _ refl refl
      (more there (truth true) _ _ _ (is_truth there true)
      (more there (number (pos (suc entry_at))) _ _ _ (is_number there (pos (suc entry_at)))
      (are_arguments there places params _ _ nulls 0 w.tail.columns)))
      ∙ ap (λ (z : List Value). Ok (call_row [] entry_at (row_from 0 (λ p. at z p) places params w.tail.columns) ∷ [])) q)

  pub first_long : length first_at ≡ length w.tail.columns
  first_long = row_width w 0 _ _ _ w.tail.columns

  -- where the entry is a label
  module _ (there : slice_get w.tail.labels entry_at ≡ Some w.goto.entry) where
    abbrev pub after_entry : Visited
    after_entry = visit_at w entry_at w.goto.entry first_at

    pub after_wide : IsWide w heads after_entry
    after_wide = walked_wide w heads (body_of w.anf w.tail w.goto.entry) (inner entry_at w.goto.entry there) (scope_at w entry_at w.goto.entry first_at)

    pub first_rows : Leaves (rows_of_select (turn.first w.table w.types w.result total same w.anf w.tail w.goto.entry) (outermost w.tables args)) after_entry
    first_rows =
        let seen : (j : ℕ) → nat_lt j (length w.tables) ≡ true → slice_index_or w.tables j [] ≡ slice_index_or w.tables j [] = λ j h. refl in
        let levels = one_turn w ok w.tables seen total totals (numbered same) alike entry_at (w.goto.entry ∷ []) in
        let o = row_of (numbered same) (suc entry_at) first_at after_entry in
        let stands = entry_stands w same heads (suc entry_at) first_at first_long after_entry after_wide in
        record {
          outcome = o;
          is =
              over_one (stacked (subquery false (one (start w.table w.types w.result w.anf w.tail w.goto.entry))) levels) (outermost w.tables args) o
              (stand_long after_entry after_wide o stands)
              (stack_one w.tables args levels (turn_single w ok w.tables seen total totals (numbered same) alike entry_at (w.goto.entry ∷ []))
              (subquery false (one (start w.table w.types w.result w.anf w.tail w.goto.entry))) (call_row [] entry_at first_at) o start_rows
              (found_turn w ok w.tables seen total totals (numbered same) alike entry_at (w.goto.entry ∷ []) (λ e. absurd (cc)) entry_at first_at first_long 0
              w.goto.entry (omega arith) refl)
              (outermost w.tables args) refl refl []);
          stands = stands;
        }
