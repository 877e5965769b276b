-- What the expressions over the subquery mean.
use Rattle.std.proofs.Common.{◌≡◌, refl, ap, ◌∙◌, ℕ, suc, false, not, ◌&&◌, pos, length, map, take, List, [], ◌∷◌, ◌++◌, append-nil, slice_index_or, Option, Some, None, Ok, Err, arith}
use Rattle.std.proofs.lemmas.Bool.{lt-ltb, le-ltb}
use Rattle.away_values.specs.declared.values.Value.{Value}
use Rattle.away_values.specs.declared.values.Value.TheVariants as val
use Rattle.away_values.specs.declared.operators.CmpOp.{CmpOp}
use Rattle.away_values.specs.declared.operators.CmpOp.TheVariants as cmp
use Rattle.away_values.specs.declared.types.Ty.{Ty}
use Rattle.away_values.specs.Operators.{cast, compare}
use Rattle.away_values.specs.Results.{Or, and_then, mapped, each}
use Rattle.away_trees.specs.declared.queries.Expr.{Expr}
use Rattle.away_trees.specs.declared.queries.Expr.TheVariants as expr
use Rattle.away_trees.specs.declared.queries.Expr.TheOpen as ex
use Rattle.away_trees.specs.declared.queries.Select.{Select}
use Rattle.away_trees.specs.declared.queries.Expr.TheViews.{out-Select}
use Rattle.away_trees.specs.Algebra.{expr_of, from_of, select_of}
use Rattle.away_trees.proofs.Equations as eq
use Rattle.sql_meaning.specs.Context.{Rows, Frame, Context, inside, at}
use Rattle.sql_meaning.specs.Expressions.{ExprMeaning, SelectMeaning, constant, expr_meaning}
use Rattle.sql_meaning.specs.Meaning.{meaning, value, rows_of_item, rows_of_select}
use Rattle.sql_meaning.specs.Parts.{only}
use Rattle.sql_meaning.specs.Selects.{select_meaning, union}
use Rattle.sql_meaning.specs.Trees.{item, one, col}
use Rattle.plsql_meaning.specs.Conversions.{converted_value}
use Rattle.select_into.specs.Laws.{is_empty, has_two, first_row}
use Rattle.select_into.specs.Wrapped.{as_source, over_source, scalar_over, count_compared, value_names, no_row, more_rows, pick, pick_as}

-- ---- the rows of the subquery

abbrev whole : Or Rows → Or Rows
whole o = and_then o (λ ys. Ok (ys ++ []))

source_rows : (s : Select) (cx : Context) (frame : Frame) → rows_of_item (as_source s) cx frame ≡ whole (rows_of_select s (inside [] cx))
source_rows s cx frame =
    ap (λ o. o (value_names (length (out-Select s).list)) cx frame) (eq.of_sub meaning (one s) false)
    ∙ ap (λ w. w.rows (inside [] cx)) (eq.of_query meaning (s ∷ []))

-- ---- a scalar subquery of one item over it

abbrev only_value : ExprMeaning → Option ExprMeaning → Or Rows → Context → Or Value
only_value e limit o cx = and_then (union (select_meaning (record { list = e ∷ []; from = (λ cx frame. o) ∷ []; filter = None; order = []; limit = limit }) ∷ []) cx) only

abbrev optional : Option Expr → Option ExprMeaning
optional None = None
optional (Some e) = Some (expr_of meaning e)

over_is : (e : Expr) (limit : Option Expr) (s : Select) → select_of meaning (over_source e limit s) ≡ select_meaning (record { list = expr_of meaning e ∷ []; from = from_of meaning (as_source s) ∷ []; filter = None; order = []; limit = optional limit })
over_is e None s = eq.of_select meaning (item e ∷ []) (as_source s ∷ []) None [] None
over_is e (Some l) s = eq.of_select meaning (item e ∷ []) (as_source s ∷ []) None [] (Some l)

scalar_is : (e : Expr) (limit : Option Expr) (s : Select) (cx : Context) → value (scalar_over e limit s) cx ≡ only_value (expr_of meaning e) (optional limit) (whole (rows_of_select s (inside [] cx))) cx
scalar_is e limit s cx =
    ap (λ m. m.value cx) (eq.of_scalar meaning (one (over_source e limit s)))
    ∙ ap (λ w. and_then (w.rows cx) only) (eq.of_query meaning (over_source e limit s ∷ []))
    ∙ ap (λ (x : SelectMeaning). and_then (union (x ∷ []) cx) only) (over_is e limit s)
    ∙ ap (λ o. only_value (expr_of meaning e) (optional limit) o cx) (source_rows s cx [])

-- ---- its count

length_map : {A B : Type 0} (f : A → B) (xs : List A) → length (map f xs) ≡ length xs
length_map f [] = refl
length_map f (x ∷ xs) = ap suc (length_map f xs)

counted_over : (o : Or Rows) (cx : Context) → only_value (expr_meaning ex.CountRows) None (whole o) cx ≡ mapped (λ rows. val.Int (pos (length rows))) o
counted_over (Err c) cx = refl
counted_over (Ok rows) cx =
    let f : List Value → Frame = λ row. row ∷ [] in
    ap (λ n. Ok (val.Int (pos n))) (ap length (append-nil (map f (rows ++ []))) ∙ length_map f (rows ++ []) ∙ ap length (append-nil rows))

counted_is : (s : Select) (cx : Context) → value (scalar_over expr.CountRows None s) cx ≡ mapped (λ rows. val.Int (pos (length rows))) (rows_of_select s (inside [] cx))
counted_is s cx = scalar_is expr.CountRows None s cx ∙ counted_over (rows_of_select s (inside [] cx)) cx

compared_is : (op : CmpOp) (s : Select) (k : ℕ) (cx : Context) → value (count_compared op s (pos k)) cx ≡ mapped (λ rows. compare op (val.Int (pos (length rows))) (val.Int (pos k))) (rows_of_select s (inside [] cx))
compared_is op s k cx =
    ap (λ m. m.value cx) (eq.of_compare meaning op (scalar_over expr.CountRows None s) (expr.Int (pos k)))
    ∙ ap (λ o. and_then o (λ v. Ok (compare op v (val.Int (pos k))))) (counted_is s cx)
    ∙ again (rows_of_select s (inside [] cx))
  where
    again : (o : Or Rows) → and_then (mapped (λ rows. val.Int (pos (length rows))) o) (λ v. Ok (compare op v (val.Int (pos k)))) ≡ mapped (λ rows. compare op (val.Int (pos (length rows))) (val.Int (pos k))) o
    again (Ok rows) = refl
    again (Err c) = refl

count_is_none : (o : Or Rows) → mapped (λ rows. compare cmp.Eq (val.Int (pos (length rows))) (val.Int (pos 0))) o ≡ mapped (λ rows. val.Bool (is_empty rows)) o
count_is_none (Err c) = refl
count_is_none (Ok []) = refl
count_is_none (Ok (r ∷ rows)) =
    let n = suc (length rows) in
    λ i. Ok (val.Bool (not (le-ltb n 0 (omega arith) i) && not (lt-ltb 0 n (omega arith) i)))

count_is_more : (o : Or Rows) → mapped (λ rows. compare cmp.Gt (val.Int (pos (length rows))) (val.Int (pos 1))) o ≡ mapped (λ rows. val.Bool (has_two rows)) o
count_is_more (Err c) = refl
count_is_more (Ok []) = refl
count_is_more (Ok (r ∷ [])) = refl
count_is_more (Ok (r ∷ q ∷ rows)) = ap (λ b. Ok (val.Bool b)) (lt-ltb 1 (suc (suc (length rows))) (omega arith))

pub no_row_is : (s : Select) (cx : Context) → value (no_row s) cx ≡ mapped (λ rows. val.Bool (is_empty rows)) (rows_of_select s (inside [] cx))
no_row_is s cx = compared_is cmp.Eq s 0 cx ∙ count_is_none (rows_of_select s (inside [] cx))

pub more_rows_is : (s : Select) (cx : Context) → value (more_rows s) cx ≡ mapped (λ rows. val.Bool (has_two rows)) (rows_of_select s (inside [] cx))
more_rows_is s cx = compared_is cmp.Gt s 1 cx ∙ count_is_more (rows_of_select s (inside [] cx))

-- ---- a pick

each_ok : {A B : Type 0} (g : A → B) (xs : List A) → each (λ x. Ok (g x)) xs ≡ Ok (map g xs)
each_ok g [] = refl
each_ok g (x ∷ xs) = ap (mapped (λ ys. g x ∷ ys)) (each_ok g xs)

abbrev column_at : ℕ → ExprMeaning
column_at j = expr_meaning (ex.Column (record { level = 0; item = 0; column = j }))

picked_over : (j : ℕ) (o : Or Rows) (cx : Context) → only_value (column_at j) (Some (constant (val.Int (pos 1)))) (whole o) cx ≡ mapped (λ rows. at (first_row rows) j) o
picked_over j (Err c) cx = refl
picked_over j (Ok []) cx = refl
picked_over j (Ok (r ∷ rows)) cx =
    let f : List Value → Frame = λ row. row ∷ [] in
    let g : Frame → List Value = λ frame. at (slice_index_or frame 0 []) j ∷ [] in
    let rest : Or Rows → Or Value = λ m. and_then (and_then (and_then (and_then (mapped (λ ys. (at r j ∷ []) ∷ ys) m) (λ rows. Ok rows)) (λ rows. Ok (take 1 rows))) (λ ys. Ok (ys ++ []))) only in
    ap rest (each_ok g (map f (rows ++ []) ++ []))

pub pick_is : (s : Select) (j : ℕ) (cx : Context) → value (pick s j) cx ≡ mapped (λ rows. at (first_row rows) j) (rows_of_select s (inside [] cx))
pick_is s j cx = scalar_is (col 0 0 j) (Some (expr.Int (pos 1))) s cx ∙ picked_over j (rows_of_select s (inside [] cx)) cx

-- a value of the first row, under a cast
pub cast_pick_is : (c : Option Ty) (s : Select) (j : ℕ) (cx : Context)
    → value (pick_as c s j) cx ≡ and_then (rows_of_select s (inside [] cx)) (λ rows. converted_value c (at (first_row rows) j))
cast_pick_is None s j cx = pick_is s j cx ∙ plain (rows_of_select s (inside [] cx))
  where
    plain : (o : Or Rows) → mapped (λ rows. at (first_row rows) j) o ≡ and_then o (λ rows. Ok (at (first_row rows) j))
    plain (Ok rows) = refl
    plain (Err c) = refl
cast_pick_is (Some t) s j cx =
    ap (λ m. m.value cx) (eq.of_cast meaning (pick s j) t)
    ∙ ap (λ o. and_then o (cast t)) (pick_is s j cx)
    ∙ again (rows_of_select s (inside [] cx))
  where
    again : (o : Or Rows) → and_then (mapped (λ rows. at (first_row rows) j) o) (cast t) ≡ and_then o (λ rows. cast t (at (first_row rows) j))
    again (Ok rows) = refl
    again (Err c) = refl
