-- The items and the list of a body give the row of its visit.
use Rattle.std.proofs.Common.{◌≡◌, ℕ, suc, Bool, true, false, List, [], ◌∷◌, ◌++◌, length, Ok, Err, refl, ap, subst, arith}
use Rattle.away_trees.specs.declared.queries.Col.{Col}
use Rattle.away_values.specs.declared.types.Ty.{Ty}
use Rattle.away_values.specs.declared.types.Ty.TheVariants as ty
use Rattle.away_values.specs.declared.values.Value.{Value}
use Rattle.away_values.specs.declared.values.Value.TheVariants as val
use Rattle.away_values.specs.Operators.{is_true}
use Rattle.away_values.specs.Results.{Or}
use Rattle.sql_meaning.specs.Context.{Frame, Context, inside}
use Rattle.sql_meaning.specs.Trees.{col, null_of}
use Rattle.sql_meaning.proofs.Returns.{Sees}
use Rattle.sql_meaning.proofs.RowPlaces.{nulls_then, length_nulls}
use Rattle.sql_meaning.proofs.SelectRows.{is_null_of, none, more}
use Rattle.call_forms.specs.Bodies.{Body, sets, enters, picks, returns, fails, calls, endless}
use Rattle.call_forms.specs.Scopes.{Scope, paired}
use Rattle.call_forms.specs.TailRuns.{row_from}
use Rattle.call_forms.specs.Carrying.{parts, let_of, end_at, call_at, text_of}
use Rattle.call_forms.specs.References.{Parts, no_column, outside, here, refers, either, gated, is_not_true, cells}
use Rattle.cte_law.proofs.ScopesAlike.{paired_relates, refers_relates}
use Rattle.cte_law.proofs.Terms.{Holds, Hold, seen, keeps, new_holds, one_more, deeper_holds, let_rows}
use Rattle.cte_law.proofs.Visits.{Visited, gives, with_term, chosen, renewed, walked, rows_of_visit}
use Rattle.cte_law.proofs.WorkingRows.{Carries, call_row, end_row, width, all_in, is_reference, are_cells, are_ended, are_called, is_text, IsOneRow, passed_on}
use Rattle.cte_law.proofs.Works.{Works, list_works, beside, item_works, either_of, either_rows}
use Rattle.cte_law.proofs.Worlds.{World, value_in, OverTables}

module _ (w : World) (carried : List Ty) (xs : List Value) (as_many : length xs ≡ length carried) where
  -- ---- each visit leaves one row, or a fault

  abbrev IsWide : Visited → Type 0
  IsWide x = IsOneRow w carried (rows_of_visit w xs x)

  long_row : (i : ℕ) (s : Scope Value) (places args : List ℕ) (ts : List Ty)
      → length (row_from i s places args ts ++ (val.Null ∷ val.Null ∷ [])) ≡ suc (suc (length ts))
  long_row i s places args [] = refl
  long_row i s places args (t ∷ ts) = ap suc (long_row (suc i) s places args ts)

  -- what is carried, and as many values more as there are columns and two
  longer_by : (xs ys : List Value) (carried columns : List Ty) → length xs ≡ length carried → length ys ≡ suc (suc (length columns))
      → length (xs ++ ys) ≡ suc (suc (length (carried ++ columns)))
  longer_by [] ys [] columns p q = q
  longer_by (x ∷ xs) ys (t ∷ ts) columns p q = ap suc (longer_by xs ys ts columns (omega (arith, p)) q)
  longer_by [] ys (t ∷ ts) columns p q = absurd (omega (arith, p))
  longer_by (x ∷ xs) ys [] columns p q = absurd (omega (arith, p))

  long_call : (label : ℕ) (s : Scope Value) (places args : List ℕ)
      → length (call_row xs label (row_from 0 s places args w.tail.columns)) ≡ width carried w.tail.columns
  long_call label s places args =
      ap (λ k. suc (suc k))
      (longer_by xs (row_from 0 s places args w.tail.columns ++ (val.Null ∷ val.Null ∷ [])) carried w.tail.columns as_many
      (long_row 0 s places args w.tail.columns))

  long_end : (v c : Value) → length (end_row xs w.tail.columns v c) ≡ width carried w.tail.columns
  long_end v c =
      ap (λ k. suc (suc k)) (longer_by xs (nulls_then w.tail.columns v c) carried w.tail.columns as_many (length_nulls w.tail.columns v c))

  wide_with : (o : Or Value) (next : Value → Visited) → ((v : Value) → IsWide (next v)) → IsWide (with_term o next)
  wide_with (Ok v) next h = h v
  wide_with (Err c) next h = tt

  wide_chosen : (b : Bool) (x y : Visited) → IsWide x → IsWide y → IsWide (chosen b x y)
  wide_chosen true x y h k = h
  wide_chosen false x y h k = k

  pub wide : (b : Body) (s : Scope Value) → IsWide (walked w b s)
  wide (sets n t x) s = wide_with (value_in w t s) (λ v. walked w x (renewed n v s)) (λ v. wide x (renewed n v s))
  wide (enters params args x) s = wide x (paired s val.Null params args)
  wide (picks t x y) s =
      wide_with (value_in w t s) (λ v. chosen (is_true v) (walked w x s) (walked w y s))
      (λ v. wide_chosen (is_true v) (walked w x s) (walked w y s) (wide x s) (wide y s))
  wide (returns t) s = wide_with (value_in w t s) gives (λ v. long_end v val.Null)
  wide (fails c) s = long_end val.Null (val.Text c.code)
  wide (calls label places args) s = long_call label s places args
  wide endless s = long_end val.Null val.Null

  -- ---- the body

  abbrev made : ℕ → Scope Col → ℕ → Body → Parts
  made out refs m b = parts w.table w.types carried w.tail.columns w.result out refs m b

  -- rows of what follows the item of a term
  rows_with : (o : Or Value) (next : Value → Visited) → beside o (λ v. rows_of_visit w xs (next v)) ≡ rows_of_visit w xs (with_term o next)
  rows_with (Ok v) next = refl
  rows_with (Err c) next = refl

  rows_chosen : (b : Bool) (x y : Visited) → either_of b (rows_of_visit w xs x) (rows_of_visit w xs y) ≡ rows_of_visit w xs (chosen b x y)
  rows_chosen true x y = refl
  rows_chosen false x y = refl

  pick_works : (cx : Context) (frame : Frame) (m : ℕ) → m ≡ length frame → (v : Value) (p q : Parts) (x y : Visited) → IsWide x → IsWide y
      → Works (inside (frame ++ (v ∷ []) ∷ []) cx) ((val.Bool true ∷ []) ∷ []) p (rows_of_visit w xs x)
      → Works (inside (frame ++ (v ∷ []) ∷ []) cx) ((val.Bool true ∷ []) ∷ []) q (rows_of_visit w xs y)
      → Works cx (frame ++ (v ∷ []) ∷ [])
      (record { items = either (gated (col 2 m 0) p) (gated (is_not_true (col 2 m 0)) q) ∷ []; list = all_in w carried (suc m) })
      (rows_of_visit w xs (chosen (is_true v) x y))
  pick_works cx frame m long v p q x y wide_x wide_y works_x works_y =
      let next : Frame = frame ++ (v ∷ []) ∷ [] in
      let at_gate : Context = inside [] (inside [] (inside next cx)) in
      let reads = is_reference at_gate (record { level = 2; item = m; column = 0 }) v
      (seen next cx.frames (here m 0) v (new_holds frame cx.frames (v ∷ []) m 0 long)) in
      subst (λ rows. Works cx next (record { items = either (gated (col 2 m 0) p) (gated (is_not_true (col 2 m 0)) q) ∷ []; list = all_in w carried (suc m) }) rows)
      (rows_chosen (is_true v) x y)
      (passed_on w carried cx next (either (gated (col 2 m 0) p) (gated (is_not_true (col 2 m 0)) q)) (either_of (is_true v) (rows_of_visit w xs x) (rows_of_visit w xs y))
      (suc m) (one_more frame (v ∷ []) m long)
      (wide_either (is_true v))
      (either_rows cx next (col 2 m 0) v p q (rows_of_visit w xs x) (rows_of_visit w xs y) (is_true v) refl reads works_x works_y))
    where
      wide_either : (b : Bool) → IsOneRow w carried (either_of b (rows_of_visit w xs x) (rows_of_visit w xs y))
      wide_either true = wide_x
      wide_either false = wide_y

  module _ (ok : OverTables w) where
    pub body_works : (b : Body) (cx : Context) → Sees w.tables cx → (frame : Frame) (m : ℕ) → m ≡ length frame → (out : ℕ) (refs : Scope Col)
        (s : Scope Value) → Carries carried xs cx.frames out → Holds frame cx.frames (no_column out) val.Null → Hold frame cx.frames refs s
        → Works cx frame (made out refs m b) (rows_of_visit w xs (walked w b s))
    body_works (sets n t x) cx sees frame m p out refs s carries nil hold =
        subst (λ rows. Works cx frame (made out refs m (sets n t x)) rows) (rows_with (value_in w t s) (λ v. walked w x (renewed n v s)))
        (item_works cx frame (let_of w.table out refs (w.types n) t) (made out (refers n (here m 0) refs) (suc m) x)
        (λ v. rows_of_visit w xs (walked w x (renewed n v s))) (value_in w t s)
        (let_rows w ok cx sees frame out refs s nil hold (w.types n) t)
        (λ v.
        let next : Frame = frame ++ (v ∷ []) ∷ [] in
        body_works x cx sees next (suc m) (one_more frame (v ∷ []) m p) out (refers n (here m 0) refs) (renewed n v s) carries
        (keeps frame cx.frames (v ∷ []) (no_column out) val.Null nil)
        (refers_relates (Holds next cx.frames) refs s n (here m 0) v (λ i. keeps frame cx.frames (v ∷ []) (refs i) (s i) (hold i))
        (new_holds frame cx.frames (v ∷ []) m 0 p))))
    body_works (enters params args x) cx sees frame m p out refs s carries nil hold =
        body_works x cx sees frame m p out (paired refs (no_column out) params args) (paired s val.Null params args) carries nil
        (paired_relates (Holds frame cx.frames) refs s (no_column out) val.Null hold nil params args)
    body_works (picks t x y) cx sees frame m p out refs s carries nil hold =
        let open_gate : Frame = (val.Bool true ∷ []) ∷ [] in
        let yes_parts : Parts = made (suc out) (outside refs) 1 x in
        let no_parts : Parts = made (suc out) (outside refs) 1 y in
        subst (λ rows. Works cx frame (made out refs m (picks t x y)) rows)
        (rows_with (value_in w t s) (λ v. chosen (is_true v) (walked w x s) (walked w y s)))
        (item_works cx frame (let_of w.table out refs ty.Boolean t)
        (record { items = either (gated (col 2 m 0) yes_parts) (gated (is_not_true (col 2 m 0)) no_parts) ∷ []; list = all_in w carried (suc m) })
        (λ v. rows_of_visit w xs (chosen (is_true v) (walked w x s) (walked w y s))) (value_in w t s)
        (let_rows w ok cx sees frame out refs s nil hold ty.Boolean t)
        (λ v.
        let next : Frame = frame ++ (v ∷ []) ∷ [] in
        let there : Context = inside next cx in
        let nil_there = deeper_holds open_gate next cx.frames (no_column out) val.Null (keeps frame cx.frames (v ∷ []) (no_column out) val.Null nil) in
        let hold_there = λ (n : ℕ). deeper_holds open_gate next cx.frames (refs n) (s n) (keeps frame cx.frames (v ∷ []) (refs n) (s n) (hold n)) in
        pick_works cx frame m p v yes_parts no_parts (walked w x s) (walked w y s) (wide x s) (wide y s)
        (body_works x there sees open_gate 1 refl (suc out) (outside refs) s carries nil_there hold_there)
        (body_works y there sees open_gate 1 refl (suc out) (outside refs) s carries nil_there hold_there)))
    body_works (returns t) cx sees frame m p out refs s carries nil hold =
        subst (λ rows. Works cx frame (made out refs m (returns t)) rows) (rows_with (value_in w t s) gives)
        (item_works cx frame (let_of w.table out refs w.result t)
        (end_at w.table w.types carried w.tail.columns w.result out (col 0 m 0) (null_of ty.Text)) (λ v. rows_of_visit w xs (gives v)) (value_in w t s)
        (let_rows w ok cx sees frame out refs s nil hold w.result t)
        (λ v.
        let next : Frame = frame ++ (v ∷ []) ∷ [] in
        let there : Context = inside next cx in
        list_works cx next (end_at w.table w.types carried w.tail.columns w.result out (col 0 m 0) (null_of ty.Text)).list (end_row xs w.tail.columns v val.Null)
        (are_ended w carried xs cx next out carries (col 0 m 0) (null_of ty.Text) v val.Null
        (is_reference there (here m 0) v (seen next cx.frames (here m 0) v (new_holds frame cx.frames (v ∷ []) m 0 p))) (is_null_of there ty.Text))))
    body_works (fails c) cx sees frame m p out refs s carries nil hold =
        let there : Context = inside frame cx in
        let text = text_of c in
        list_works cx frame (end_at w.table w.types carried w.tail.columns w.result out (null_of w.result) text).list (end_row xs w.tail.columns val.Null (val.Text c.code))
        (are_ended w carried xs cx frame out carries (null_of w.result) text val.Null (val.Text c.code) (is_null_of there w.result) (is_text w carried there c))
    body_works (calls label places args) cx sees frame m p out refs s carries nil hold =
        let there : Context = inside frame cx in
        let nulls = more there (null_of w.result) _ val.Null _ (is_null_of there w.result) (more there (null_of ty.Text) _ val.Null _ (is_null_of there ty.Text) (none there)) in
        list_works cx frame (call_at w.table w.types carried w.tail.columns w.result out label (cells 0 refs places args w.tail.columns)).list
        (call_row xs label (row_from 0 s places args w.tail.columns))
        (are_called w carried xs cx frame out carries label (cells 0 refs places args w.tail.columns) (row_from 0 s places args w.tail.columns)
        (are_cells there refs s places args _ _ (λ n. seen frame cx.frames (refs n) (s n) (hold n)) nulls 0 w.tail.columns))
    body_works endless cx sees frame m p out refs s carries nil hold =
        let there : Context = inside frame cx in
        list_works cx frame (end_at w.table w.types carried w.tail.columns w.result out (null_of w.result) (null_of ty.Text)).list (end_row xs w.tail.columns val.Null val.Null)
        (are_ended w carried xs cx frame out carries (null_of w.result) (null_of ty.Text) val.Null val.Null (is_null_of there w.result) (is_null_of there ty.Text))
