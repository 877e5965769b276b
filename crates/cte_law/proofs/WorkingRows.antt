-- The rows of the working tables: what stands for a call of a label and for an end, and how a row is passed on.
use Rattle.std.proofs.Common.{◌≡◌, ℕ, suc, true, false, pos, List, [], ◌∷◌, ◌++◌, map, length, Ok, Err, refl, ap, sym, ◌∙◌, subst}
use Rattle.away_trees.specs.declared.queries.Col.{Col}
use Rattle.away_trees.specs.declared.queries.Expr.{Expr}
use Rattle.away_trees.specs.declared.queries.Expr.TheVariants as expr
use Rattle.away_trees.specs.declared.queries.FromItem.{FromItem}
use Rattle.away_values.specs.declared.types.Ty.{Ty}
use Rattle.away_values.specs.declared.types.Ty.TheVariants as ty
use Rattle.away_values.specs.declared.values.Class.{Class}
use Rattle.away_values.specs.declared.values.Value.{Value}
use Rattle.away_values.specs.declared.values.Value.TheVariants as val
use Rattle.away_values.specs.Results.{Or, and_then}
use Rattle.sql_meaning.specs.Context.{Rows, Frame, Context, at, column, inside}
use Rattle.sql_meaning.specs.Meaning.{rows_of_item}
use Rattle.sql_meaning.specs.Template.{below}
use Rattle.sql_meaning.specs.Trees.{col, number, truth, null_of}
use Rattle.sql_meaning.proofs.RowPlaces.{read_all, nulls_then}
use Rattle.sql_meaning.proofs.SelectRows.{Is, Are, is_cast, is_number, is_truth, is_null_of, is_col, none, more, for_each, for_all, extended}
use Rattle.call_forms.specs.Scopes.{Scope}
use Rattle.call_forms.specs.TailRuns.{row_from}
use Rattle.call_forms.specs.Carrying.{carried_from, end_at, call_at, text_of, all_of}
use Rattle.call_forms.specs.References.{Parts, cells}
use Rattle.cte_law.proofs.ScopesAlike.{paired_relates}
use Rattle.cte_law.proofs.Terms.{last_is}
use Rattle.cte_law.proofs.Works.{Works, list_rows, list_works}
use Rattle.cte_law.proofs.Worlds.{World}

-- ---- references

pub is_reference : (cx : Context) (c : Col) (v : Value) → column cx.frames c ≡ v → Is cx (expr.Column c) v
is_reference cx c v h = record { gives = ap Ok h; single = refl }

-- a label's columns, and more behind them
pub are_cells : (cx : Context) (refs : Scope Col) (s : Scope Value) (places args : List ℕ) (es : List Expr) (vs : List Value)
    → ((n : ℕ) → column cx.frames (refs n) ≡ s n) → Are cx es vs → (i : ℕ) (columns : List Ty)
    → Are cx (cells i refs places args columns ++ es) (row_from i s places args columns ++ vs)
are_cells cx refs s places args es vs h rest i [] = rest
are_cells cx refs s places args es vs h rest i (t ∷ ts) =
    more cx _ _ _ _
    (paired_relates (Is cx) (λ n. expr.Column (refs n)) s (null_of t) val.Null (λ n. is_reference cx (refs n) (s n) (h n)) (is_null_of cx t) places
    args i)
    (are_cells cx refs s places args es vs h rest (suc i) ts)

-- ---- what is carried

-- values at places from i on, one for each type
abbrev pub read_from : (ℕ → Value) → ℕ → List Ty → List Value
read_from g i [] = []
read_from g i (t ∷ ts) = g i ∷ read_from g (suc i) ts

-- the columns of r that are carried, and more behind them
are_carried : (cx : Context) (frame : Frame) (out : ℕ) (es : List Expr) (vs : List Value) → Are (inside frame cx) es vs → (i : ℕ) (ts : List Ty)
    → Are (inside frame cx) (carried_from out i ts ++ es) (read_from (λ j. column cx.frames (record { level = out; item = 0; column = j })) i ts ++ vs)
are_carried cx frame out es vs rest i [] = rest
are_carried cx frame out es vs rest i (t ∷ ts) =
    more (inside frame cx) _ _ _ _ (is_col (inside frame cx) (suc out) 0 i) (are_carried cx frame out es vs rest (suc i) ts)

-- the row of r, `out` selects outside the frames here, has the values that are carried
abbrev pub Carries : List Ty → List Value → List Frame → ℕ → Type 0
Carries carried xs frames out = read_from (λ j. column frames (record { level = out; item = 0; column = j })) 2 carried ≡ xs

with_carried : (carried : List Ty) (xs : List Value) (cx : Context) (frame : Frame) (out : ℕ) → Carries carried xs cx.frames out
    → (es : List Expr) (vs : List Value) → Are (inside frame cx) es vs → Are (inside frame cx) (carried_from out 2 carried ++ es) (xs ++ vs)
with_carried carried xs cx frame out same es vs h =
    subst (λ ys. Are (inside frame cx) (carried_from out 2 carried ++ es) (ys ++ vs)) same (are_carried cx frame out es vs h 2 carried)

-- ---- rows

-- the row of a call of label i, counted from 0, with what it carries
abbrev pub call_row : List Value → ℕ → List Value → List Value
call_row xs i row = val.Bool true ∷ val.Int (pos (suc i)) ∷ (xs ++ (row ++ (val.Null ∷ val.Null ∷ [])))

-- the row of an end, with what it carries, a result and a class
abbrev pub end_row : List Value → List Ty → Value → Value → List Value
end_row xs columns v c = val.Bool false ∷ val.Int (pos 0) ∷ (xs ++ nulls_then columns v c)

abbrev pub width : List Ty → List Ty → ℕ
width carried columns = suc (suc (suc (suc (length (carried ++ columns)))))

module _ (w : World) (carried : List Ty) where
  abbrev ended : ℕ → Expr → Expr → Parts
  ended out x y = end_at w.table w.types carried w.tail.columns w.result out x y

  abbrev called : ℕ → ℕ → List Expr → Parts
  called out i row = call_at w.table w.types carried w.tail.columns w.result out i row

  abbrev pub all_in : ℕ → List Expr
  all_in m = all_of w.table w.types carried w.tail.columns w.result m

  pub are_ended : (xs : List Value) (cx : Context) (frame : Frame) (out : ℕ) → Carries carried xs cx.frames out → (x y : Expr) (v c : Value)
      → Is (inside frame cx) x v → Is (inside frame cx) y c → Are (inside frame cx) (ended out x y).list (end_row xs w.tail.columns v c)
  are_ended xs cx frame out same x y v c h k =
      let there : Context = inside frame cx in
      more there (truth false) _ _ _ (is_truth there false)
      (more there (number (pos 0)) _ _ _ (is_number there (pos 0))
      (with_carried carried xs cx frame out same _ _
      (for_each there null_of (λ t. val.Null) w.tail.columns _ _ (λ t. is_null_of there t) (more there x _ v _ h (more there y _ c _ k (none there))))))

  pub are_called : (xs : List Value) (cx : Context) (frame : Frame) (out : ℕ) → Carries carried xs cx.frames out → (i : ℕ) (es : List Expr) (row : List Value)
      → Are (inside frame cx) (es ++ (null_of w.result ∷ null_of ty.Text ∷ [])) (row ++ (val.Null ∷ val.Null ∷ []))
      → Are (inside frame cx) (called out i es).list (call_row xs i row)
  are_called xs cx frame out same i es row h =
      let there : Context = inside frame cx in
      more there (truth true) _ _ _ (is_truth there true)
      (more there (number (pos (suc i))) _ _ _ (is_number there (pos (suc i))) (with_carried carried xs cx frame out same _ _ h))

  pub is_text : (cx : Context) (c : Class) → Is cx (text_of c) (val.Text c.code)
  is_text cx c = is_cast cx (expr.Str c.code) (val.Text c.code) (val.Text c.code) ty.Text (record { gives = refl; single = refl }) refl

  -- ---- passing a row on

  -- a fault, or one row as wide as the table
  abbrev pub IsOneRow : Or Rows → Type 0
  IsOneRow (Err c) = Unit {0}
  IsOneRow (Ok []) = ⊥
  IsOneRow (Ok (row ∷ [])) = length row ≡ width carried w.tail.columns
  IsOneRow (Ok (row ∷ other ∷ rows)) = ⊥

  pub are_all : (cx : Context) (frame : Frame) (row : List Value) → length row ≡ width carried w.tail.columns
      → Are (inside (frame ++ row ∷ []) cx) (all_in (length frame)) row
  are_all cx frame row long =
      let there : Context = inside (frame ++ row ∷ []) cx in
      subst (λ vs. Are there (all_in (length frame)) vs) (ap (λ k. map (λ i. at row i) (below k)) (sym long) ∙ read_all row)
      (for_all there (col 0 (length frame)) (λ i. at row i) (below (width carried w.tail.columns))
      (λ i. is_reference there (record { level = 0; item = length frame; column = i }) (at row i) (ap (λ (r : List Value). at r i) (last_is frame row))))

  -- an item of one row, and a list of its columns
  pub passed_on : (cx : Context) (frame : Frame) (item : FromItem) (rows : Or Rows) (m : ℕ) → m ≡ length frame → IsOneRow rows
      → rows_of_item item cx frame ≡ rows → Works cx frame (record { items = item ∷ []; list = all_in m }) rows
  passed_on cx frame item (Err c) m p one h = record {
    gives = ap (λ x. and_then (and_then x (λ frames. Ok frames)) (list_rows cx (all_in m))) (extended cx (rows_of_item item) frame (Err c) h);
    single =
        (for_all cx (col 0 m) (λ i. column cx.frames (record { level = 0; item = m; column = i })) (below (width carried w.tail.columns)) (λ i. is_col cx 0 m i)).single;
  }
  passed_on cx frame item (Ok []) m p one h = absurd one
  passed_on cx frame item (Ok (row ∷ [])) m p one h =
      let list = list_works cx (frame ++ row ∷ []) (all_in m) row
      (subst (λ m. Are (inside (frame ++ row ∷ []) cx) (all_in m) row) (sym p) (are_all cx frame row one)) in
      record {
        gives =
            ap (λ x. and_then (and_then x (λ frames. Ok frames)) (list_rows cx (all_in m))) (extended cx (rows_of_item item) frame (Ok (row ∷ [])) h)
            ∙ list.gives;
        single = list.single;
      }
  passed_on cx frame item (Ok (row ∷ other ∷ rows)) m p one h = absurd one
