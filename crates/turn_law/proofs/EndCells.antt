-- Cells of an end: what the row has already stays, and the last two are its result and its class.
use Rattle.std.proofs.Common.{◌≡◌, refl, ap, ◌∙◌, subst, ℕ, zero, suc, Bool, true, false, ◌||◌, if◌then◌else◌, nat_lt, pos, List, [], ◌∷◌, ◌++◌, map, length, slice_index_or, Ok, Err}
use Rattle.std.proofs.lemmas.List.{append_assoc}
use Rattle.away_trees.specs.declared.queries.Expr.{Expr}
use Rattle.away_trees.specs.declared.queries.Expr.TheVariants as expr
use Rattle.away_values.specs.declared.types.Ty.{Ty}
use Rattle.away_values.specs.declared.types.Ty.TheVariants as ty
use Rattle.away_values.specs.declared.values.Class.{Class}
use Rattle.away_values.specs.declared.values.Value.{Value}
use Rattle.away_values.specs.declared.values.Value.TheVariants as val
use Rattle.away_values.specs.Results.{Or, and_then, mapped}
use Rattle.sql_meaning.specs.Context.{Rows, Context, at, inside}
use Rattle.sql_meaning.specs.Expressions.{values, any_aggregates}
use Rattle.sql_meaning.specs.Meaning.{value, has_aggregate}
use Rattle.sql_meaning.specs.Template.{count_from, below}
use Rattle.sql_meaning.specs.Trees.{col, number, truth}
use Rattle.sql_meaning.proofs.SelectRows.{Is, Are, is_cast, is_number, is_truth, is_col, none, more, for_each}
use Rattle.block_forms.specs.declared.forms.Term.{Term}
use Rattle.call_forms.specs.Bodies.{Body, sets, enters, picks, returns, fails, calls, endless}
use Rattle.call_forms.specs.Scopes.{Scope, paired}
use Rattle.cte_law.proofs.Visits.{gives, with_term}
use Rattle.cte_law.proofs.Worlds.{World, OverTables}
use Rattle.turn_template.specs.TurnTemplate.{Style, Ref, no_ref, names, kept_result, kept_class, end_cells, row_cells, text_of, width, waiting}
use Rattle.turn_law.proofs.Levels.{all, At, AtAll}
use Rattle.turn_law.proofs.Terms.{IsTotal}
use Rattle.turn_law.proofs.Settled.{ref_of}
use Rattle.turn_law.proofs.Choices.{choices_long}
use Rattle.turn_law.proofs.RowCells.{work, none_of, row_of, Begun, any_context}

-- ---- places of a longer row

pub moved : (x : Value) (xs : List Value) (k n : ℕ) → map (λ i. at (x ∷ xs) i) (count_from (suc k) n) ≡ map (λ i. at xs i) (count_from k n)
moved x xs k zero = refl
moved x xs k (suc n) = ap (λ ys. at xs k ∷ ys) (moved x xs (suc k) n)

pub read_first : (xs more_ : List Value) → map (λ i. at (xs ++ more_) i) (below (length xs)) ≡ xs
read_first [] more_ = refl
read_first (x ∷ xs) more_ = ap (λ ys. x ∷ ys) (moved x (xs ++ more_) 0 (length xs) ∙ read_first xs more_)

result_at : (row : List Value) (v c : Value) (more_ : List Value) → at ((row ++ (v ∷ c ∷ [])) ++ more_) (length row) ≡ v
result_at [] v c more_ = refl
result_at (x ∷ row) v c more_ = result_at row v c more_

class_at : (row : List Value) (v c : Value) (more_ : List Value) → at ((row ++ (v ∷ c ∷ [])) ++ more_) (suc (length row)) ≡ c
class_at [] v c more_ = refl
class_at (x ∷ row) v c more_ = class_at row v c more_

columns_at : (go a : Value) (row : List Value) (v c : Value) (more_ : List Value)
    → map (λ i. at ((go ∷ a ∷ (row ++ (v ∷ c ∷ []))) ++ more_) i) (count_from 2 (length row)) ≡ row
columns_at go a row v c more_ =
    let rest : List Value = (row ++ (v ∷ c ∷ [])) ++ more_ in
    moved go (a ∷ rest) 1 (length row)
    ∙ (moved a rest 0 (length row)
    ∙ (ap (λ z. map (λ i. at z i) (below (length row))) (append_assoc row (v ∷ c ∷ []) more_) ∙ read_first row ((v ∷ c ∷ []) ++ more_)))

module _ (columns : List Ty) (a : ℕ) (row y : List Value) (begun : Begun columns a row y) where
  label_there : at y 1 ≡ val.Int (pos a)
  label_there = ap (λ z. at z 1) begun.over.is

  columns_there : map (λ i. at y i) (count_from 2 (length columns)) ≡ row
  columns_there =
      subst (λ n. map (λ i. at y i) (count_from 2 n) ≡ row) begun.long
      (ap (λ z. map (λ i. at z i) (count_from 2 (length row))) begun.over.is
      ∙ columns_at (val.Bool true) (val.Int (pos a)) row val.Null val.Null begun.over.more)

  result_there : at y (suc (suc (length columns))) ≡ val.Null
  result_there =
      subst (λ n. at y (suc (suc n)) ≡ val.Null) begun.long
      (ap (λ z. at z (suc (suc (length row)))) begun.over.is ∙ result_at row val.Null val.Null begun.over.more)

  class_there : at y (suc (suc (suc (length columns)))) ≡ val.Null
  class_there =
      subst (λ n. at y (suc (suc (suc n))) ≡ val.Null) begun.long
      (ap (λ z. at z (suc (suc (suc (length row))))) begun.over.is ∙ class_at row val.Null val.Null begun.over.more)

  -- ---- cells that keep what is there

  module _ (cx : Context) where
    abbrev there : Context
    there = inside (y ∷ []) cx

    is_there : (i : ℕ) (v : Value) → at y i ≡ v → Is there (col 0 0 i) v
    is_there i v h = subst (λ z. Is there (col 0 0 i) z) h (is_col there 0 0 i)

    pub result_is : Is there (col 0 0 (suc (suc (length columns)))) val.Null
    result_is = is_there (suc (suc (length columns))) val.Null result_there

    pub class_is : Is there (col 0 0 (suc (suc (suc (length columns))))) val.Null
    class_is = is_there (suc (suc (suc (length columns)))) val.Null class_there

    -- the row's number, or another
    pub label_is : (b : Bool) (k : ℕ) → Is there (if b then col 0 0 1 else number (pos k)) (val.Int (pos (if b then a else k)))
    label_is true k = is_there 1 (val.Int (pos a)) label_there
    label_is false k = is_number there (pos k)

    columns_are : (es : List Expr) (vs : List Value) → Are there es vs → Are there (map (col 0 0) (count_from 2 (length columns)) ++ es) (row ++ vs)
    columns_are es vs rest =
        subst (λ z. Are there (map (col 0 0) (count_from 2 (length columns)) ++ es) (z ++ vs)) columns_there
        (for_each there (col 0 0) (λ i. at y i) (count_from 2 (length columns)) es vs (λ i. is_col there 0 0 i) rest)

-- what is no aggregate
pub label_single : (b : Bool) (k : ℕ) → has_aggregate (if b then col 0 0 1 else number (pos k)) ≡ false
label_single true k = refl
label_single false k = (is_number (any_context []) (pos k)).single

columns_single : (es : List Expr) → any_aggregates (all es) ≡ false → (k n : ℕ) → any_aggregates (all (map (col 0 0) (count_from k n) ++ es)) ≡ false
columns_single es h k zero = h
columns_single es h k (suc n) = columns_single es h (suc k) n

-- a fault behind columns
columns_fault : (cx : Context) (e : Expr) (fs : List Expr) (c : Class) → value e cx ≡ Err c → (k n : ℕ)
    → values cx (all (map (col 0 0) (count_from k n) ++ (e ∷ fs))) ≡ Err c
columns_fault cx e fs c h k zero = ap (λ o. and_then o (λ v. mapped (λ ys. v ∷ ys) (values cx (all fs)))) h
columns_fault cx e fs c h k (suc n) = λ i. and_then ((is_col cx 0 0 k).gives i) (λ v. mapped (λ ys. v ∷ ys) (columns_fault cx e fs c h (suc k) n i))

module _ (w : World) (ok : OverTables w) (T : List Rows)
    (sees : (k : ℕ) → nat_lt k (length w.tables) ≡ true → slice_index_or T k [] ≡ slice_index_or w.tables k [])
    (total : Term → Bool) (totals : (u : Term) → total u ≡ true → IsTotal w u) (style : Style) (alike : (x y : Expr) → style.same x y ≡ true → x ≡ y) where
  abbrev cells : Scope Ref → Body → List Expr
  cells refs x = waiting w.table w.types w.tail.columns w.result total style refs x

  abbrev at_width : ℕ
  at_width = width w.table w.types w.tail.columns w.result total style

  abbrev pub ends_with : Expr → Expr → List Expr
  ends_with x z = end_cells w.table w.types w.tail.columns w.result total style x z

  abbrev row_at : ℕ → Scope Ref → List ℕ → List ℕ → List Ty → List Expr
  row_at i refs places args ts = row_cells w.table w.types w.tail.columns w.result total style i refs places args ts

  abbrev pub result_cell : Expr
  result_cell = kept_result w.table w.types w.tail.columns w.result total style

  abbrev pub class_cell : Expr
  class_cell = kept_class w.table w.types w.tail.columns w.result total style

  -- ---- as many as columns

  ends_long : (a b : Expr) → length (ends_with a b) ≡ at_width
  ends_long a b = by (length w.tail.columns) 2
    where
      by : (n k : ℕ) → suc (suc (length (map (col 0 0) (count_from k n) ++ (a ∷ b ∷ [])))) ≡ suc (suc (suc (suc n)))
      by zero k = refl
      by (suc n) k = ap suc (by n (suc k))

  row_long : (a b : Expr) (refs : Scope Ref) (places args : List ℕ) (i : ℕ) (ts : List Ty)
      → length (row_at i refs places args ts ++ (a ∷ b ∷ [])) ≡ suc (suc (length ts))
  row_long a b refs places args i [] = refl
  row_long a b refs places args i (t ∷ ts) = ap suc (row_long a b refs places args (suc i) ts)

  pub waiting_long : (x : Body) (refs : Scope Ref) → length (cells refs x) ≡ at_width
  waiting_long (sets n t x) refs = waiting_long x (names n (ref_of w ok T sees total totals style alike refs (w.types n) t) refs)
  waiting_long (enters params args x) refs = waiting_long x (paired refs no_ref params args)
  waiting_long (picks t x y) refs =
      choices_long style.same alike (ref_of w ok T sees total totals style alike refs ty.Boolean t 0) at_width (cells refs x) (cells refs y)
      (waiting_long x refs) (waiting_long y refs)
  waiting_long (returns t) refs = ends_long (ref_of w ok T sees total totals style alike refs w.result t 0) class_cell
  waiting_long (fails c) refs = ends_long result_cell (text_of w.table w.types w.tail.columns w.result total style c)
  waiting_long (calls label places args) refs = ap (λ k. suc (suc k)) (row_long result_cell class_cell refs places args 0 w.tail.columns)
  waiting_long endless refs = ends_long result_cell class_cell

  pub ended_single : (x z : Expr) → has_aggregate x ≡ false → has_aggregate z ≡ false → any_aggregates (all (ends_with x z)) ≡ false
  ended_single x z h k =
      λ i. (is_truth (any_context []) false).single i
      || (label_single style.alone 0 i || columns_single (x ∷ z ∷ []) (λ j. h j || (k j || false)) 2 (length w.tail.columns) i)

  pub is_text : (cx : Context) (c : Class) → Is cx (text_of w.table w.types w.tail.columns w.result total style c) (val.Text c.code)
  is_text cx c = is_cast cx (expr.Str c.code) (val.Text c.code) (val.Text c.code) ty.Text (record { gives = refl; single = refl }) refl

  -- ---- over a row that is begun

  module _ (a : ℕ) (row y : List Value) (begun : Begun w.tail.columns a row y) where
    pub are_ended : (cx : Context) (x z : Expr) (v c : Value) → Is (inside (y ∷ []) cx) x v → Is (inside (y ∷ []) cx) z c
        → Are (inside (y ∷ []) cx) (ends_with x z) (work false (none_of style a) row v c)
    are_ended cx x z v c h k =
        let here : Context = inside (y ∷ []) cx in
        more here (truth false) _ _ _ (is_truth here false)
        (more here (if style.alone then col 0 0 1 else number (pos 0)) _ _ _ (label_is w.tail.columns a row y begun cx style.alone 0)
        (columns_are w.tail.columns a row y begun cx (x ∷ z ∷ []) (v ∷ c ∷ []) (more here x _ v _ h (more here z _ c _ k (none here)))))

    ended_fault : (cx : Context) (x z : Expr) (c : Class) → value x (inside (y ∷ []) cx) ≡ Err c → values (inside (y ∷ []) cx) (all (ends_with x z)) ≡ Err c
    ended_fault cx x z c h =
        let here : Context = inside (y ∷ []) cx in
        λ i. and_then ((is_truth here false).gives i) (λ v. mapped (λ ys. v ∷ ys)
        (and_then ((label_is w.tail.columns a row y begun cx style.alone 0).gives i) (λ v. mapped (λ ys. v ∷ ys)
        (columns_fault here x (z ∷ []) c h 2 (length w.tail.columns) i))))

    -- what an expression comes to is the result
    pub ended_by : (e : Expr) → has_aggregate e ≡ false → (o : Or Value) → At T e y o
        → AtAll T (ends_with e class_cell) y (row_of style a row (with_term o gives))
    ended_by e alone (Ok v) is = λ cx t.
        (are_ended cx e class_cell v val.Null (record { gives = is cx t; single = alone }) (class_is w.tail.columns a row y begun cx)).gives
    ended_by e alone (Err c) is = λ cx t. ended_fault cx e class_cell c (is cx t)
