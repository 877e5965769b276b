-- The working tables of the template of one RETURN: the call, the finished row, and nothing.
use Rattle.std.proofs.Common.{◌≡◌, refl, ap, sym, ◌∙◌, subst, ℕ, suc, ◌+◌, ◌<◌, ◌^◌, pos, Bool, true, false, ◌||◌, if◌then◌else◌, nat_lt, List, [], ◌∷◌, ◌++◌, map, length, slice_index_or, decimal, Some, None, Ok, Err, arith}
use Rattle.std.proofs.lemmas.List.{get_or_append_left}
use Rattle.std.proofs.lemmas.Bool.{ltb-true}
use Rattle.away_values.specs.declared.types.Ty.{Ty}
use Rattle.away_values.specs.declared.types.Ty.TheVariants as ty
use Rattle.away_values.specs.declared.values.Class.{Class}
use Rattle.away_values.specs.declared.values.Value.{Value}
use Rattle.away_values.specs.declared.values.Value.TheVariants as val
use Rattle.away_values.specs.declared.operators.CmpOp.TheVariants as cmp
use Rattle.away_trees.specs.declared.queries.Expr.{Expr}
use Rattle.away_trees.specs.declared.queries.Expr.TheVariants as expr
use Rattle.away_trees.specs.declared.queries.FromItem.{FromItem}
use Rattle.away_trees.specs.declared.queries.Select.{Select}
use Rattle.away_values.specs.Operators.{compare, is_true, negation, cast, fits_small}
use Rattle.away_values.specs.Values.{HasType}
use Rattle.away_values.specs.Results.{Or, and_then, mapped}
use Rattle.away_trees.specs.Algebra.{expr_of, from_of}
use Rattle.away_trees.proofs.Equations as eq
use Rattle.sql_meaning.specs.Context.{Rows, Frame, Context, at, column, inside, outermost}
use Rattle.sql_meaning.specs.Expressions.{FromMeaning, values}
use Rattle.sql_meaning.specs.Meaning.{meaning, value, has_aggregate, rows_of_item, rows_of_select}
use Rattle.sql_meaning.specs.OneReturn.{body, IsSource}
use Rattle.sql_meaning.specs.Placed.{placed_at}
use Rattle.sql_meaning.specs.Selects.{product, extend, keep, keep_if}
use Rattle.sql_meaning.specs.Substitution.{Keeps}
use Rattle.sql_meaning.specs.Template.{below, slot_at, gate, let_item, arguments, start, is_label, branch, step, last}
use Rattle.sql_meaning.specs.Trees.{col, cast_to, number, truth, null_of, select, one, lateral, table}
use Rattle.sql_meaning.specs.Typed.{AreTyped}
use Rattle.sql_meaning.specs.Working.{with_table}
use Rattle.sql_meaning.proofs.RowPlaces.{read_all, nulls_then, length_nulls, at_value, after_value, last_table, at_append}
use Rattle.sql_meaning.proofs.SelectRows.{Is, Are, is_cast, is_number, is_truth, is_null_of, is_col, none, more, for_each, for_all, rows_of, fault_of, one_row, no_row, lateral_is, rows_of_table, extended, each_one}
use Rattle.sql_meaning.proofs.Substitution.{substitution}

abbrev froms : List FromItem → List FromMeaning
froms = map (λ f. from_of meaning f)

-- ---- the first term

abbrev pub start_row : List Value → List Value
start_row args = val.Bool true ∷ val.Int (pos 1) ∷ args ++ (val.Null ∷ val.Null ∷ [])

is_argument : (cx : Context) (k : ℕ) (t : Ty) (v : Value) → at cx.args k ≡ v → Is cx (expr.Param (suc k) t) v
is_argument cx k t v p = record { gives = ap Ok p; single = refl }

-- the arguments from the k-th on, which are vs, and more behind them
are_arguments : (cx : Context) (es : List Expr) (ws : List Value) → Are cx es ws → (k : ℕ) (ts : List Ty) (vs : List Value) → AreTyped ts vs → ((j : ℕ) → at cx.args (k + j) ≡ at vs j) → Are cx (arguments k ts ++ es) (vs ++ ws)
are_arguments cx es ws rest k [] [] h sees = rest
are_arguments cx es ws rest k (t ∷ ts) (v ∷ vs) h sees =
    more cx (expr.Param (suc k) t) _ v _ (is_argument cx k t v (ap (at cx.args) (first k) ∙ sees 0)) (are_arguments cx es ws rest (suc k) ts vs h.1 (λ j. ap (at cx.args) (next k j) ∙ sees (suc j)))
  where
    first : (k : ℕ) → k ≡ k + 0
    first k = omega arith

    next : (k j : ℕ) → suc k + j ≡ k + suc j
    next k j = omega arith
are_arguments cx es ws rest k [] (v ∷ vs) h sees = absurd h
are_arguments cx es ws rest k (t ∷ ts) [] h sees = absurd h

abbrev start_list : List Ty → Ty → List Expr
start_list params result = truth true ∷ number (pos 1) ∷ arguments 0 params ++ (null_of result ∷ null_of ty.Text ∷ [])

pub rows_of_start : (T : List Rows) (params : List Ty) (result : Ty) (args : List Value) → AreTyped params args → rows_of_select (start params result) (outermost T args) ≡ Ok (start_row args ∷ [])
rows_of_start T params result args typed =
    let cx : Context = outermost T args in
    let there : Context = inside [] cx in
    let nulls = more there (null_of result) _ val.Null _ (is_null_of there result) (more there (null_of ty.Text) _ val.Null _ (is_null_of there ty.Text) (none there)) in
    let row = more there (truth true) _ _ _ (is_truth there true) (more there (number (pos 1)) _ _ _ (is_number there (pos 1)) (are_arguments there _ _ nulls 0 params args typed (λ j. ap (at args) (zero_plus j)))) in
    one_row cx (start_list params result) [] None ([] ∷ []) [] (start_row args) refl refl row
  where
    zero_plus : (j : ℕ) → 0 + j ≡ j
    zero_plus j = omega arith

-- ---- the gate

is_test : (cx : Context) → Is cx is_label (compare cmp.Eq (column cx.frames (record { level = 2; item = 0; column = 1 })) (val.Int (pos 1)))
is_test cx = record {
  gives = ap (λ x. x.value cx) (eq.of_compare meaning cmp.Eq (col 2 0 1) (number (pos 1))) ∙ (λ i. and_then ((is_col cx 2 0 1).gives i) (λ v. mapped (compare cmp.Eq v) ((is_number cx (pos 1)).gives i)));
  single = ap (λ x. x.aggregates) (eq.of_compare meaning cmp.Eq (col 2 0 1) (number (pos 1))) ∙ (λ i. (is_col cx 2 0 1).single i || (is_number cx (pos 1)).single i);
}

abbrev gate_select : Select
gate_select = select (truth true ∷ []) [] (Some is_label)

-- a row whose label is m
abbrev marked : Bool → ℕ → List Value → List Value
marked b m rest = val.Bool b ∷ val.Int (pos m) ∷ rest

open_gate : (cx : Context) (b : Bool) (rest : List Value) → rows_of_select gate_select (inside [] (inside (marked b 1 rest ∷ []) cx)) ≡ Ok ((val.Bool true ∷ []) ∷ [])
open_gate cx b rest =
    let here : Context = inside [] (inside (marked b 1 rest ∷ []) cx) in
    let there : Context = inside [] here in
    one_row here (truth true ∷ []) [] (Some is_label) ([] ∷ []) [] (val.Bool true ∷ []) refl (ap (λ x. and_then x (λ v. Ok (keep_if [] (is_true v) []))) (is_test there).gives) (more there (truth true) [] (val.Bool true) [] (is_truth there true) (none there))

shut_gate : (cx : Context) (b : Bool) (rest : List Value) → rows_of_select gate_select (inside [] (inside (marked b 0 rest ∷ []) cx)) ≡ Ok []
shut_gate cx b rest =
    let here : Context = inside [] (inside (marked b 0 rest ∷ []) cx) in
    let there : Context = inside [] here in
    no_row here (truth true ∷ []) [] (Some is_label) ([] ∷ []) refl (ap (λ x. and_then x (λ v. Ok (keep_if [] (is_true v) []))) (is_test there).gives) (more there (truth true) [] (val.Bool true) [] (is_truth there true) (none there)).single

-- ---- the let

-- the tables are there
abbrev pub Sees : List Rows → Context → Type 0
Sees T cx = (k : ℕ) → nat_lt k (length T) ≡ true → slice_index_or cx.tables k [] ≡ slice_index_or T k []

pub sees_tables : (T : List Rows) (args : List Value) (rows : Rows) → Sees T (outermost (with_table T rows) args)
sees_tables T args rows k h = get_or_append_left T (rows ∷ []) [] k (ltb-true k (length T) h)

-- where the branch stands
abbrev in_branch : Context → List Value → Context
in_branch cx row = inside (row ∷ []) cx

abbrev let_select : Expr → Select
let_select e = select (e ∷ []) [] None

module _ (T : List Rows) (args : List Value) (result : Ty) (e : Expr) (ok : IsSource (length T) (length args) e) (cx : Context) (sees : Sees T cx) where
  abbrev lowered : Expr
  lowered = placed_at result slot_at e

  abbrev here : Context
  here = inside ((val.Bool true ∷ []) ∷ []) (in_branch cx (start_row args))

  same : Keeps (body T args) (inside [] here) e lowered
  same =
      (substitution slot_at (λ i. nat_lt i (length args)) 0 (length T) (body T args) (inside [] here) (record { params_are = λ i h. absurd (omega (arith, ltb-true i 0 h)); tables_are = sees; no_group = refl; no_rows = refl }) (λ i h. at_append args (val.Null ∷ val.Null ∷ []) i h) e ok.reads_own).1 result

  single : has_aggregate lowered ≡ false
  single = same.single ∙ ok.single

  let_value : (v : Value) → value e (body T args) ≡ Ok v → rows_of_select (let_select lowered) here ≡ Ok ((v ∷ []) ∷ [])
  let_value v h =
      one_row here (lowered ∷ []) [] None ([] ∷ []) [] (v ∷ []) refl refl (more (inside [] here) lowered [] v [] (record { gives = same.same ∙ h; single = single }) (none (inside [] here)))

  let_fault : (c : Class) → value e (body T args) ≡ Err c → rows_of_select (let_select lowered) here ≡ Err c
  let_fault c h =
      rows_of here (lowered ∷ []) [] None ([] ∷ []) ([] ∷ []) (Err c) refl refl (λ i. single i || false) (each_one (λ frame. values (inside frame here) (map (λ e. expr_of meaning e) (lowered ∷ []))) [] (Err c) (ap (λ x. and_then x (λ y. Ok (y ∷ []))) (same.same ∙ h)))

  abbrev let_part : Or Value → Or Rows
  let_part (Ok v) = Ok ((v ∷ []) ∷ [])
  let_part (Err c) = Err c

  let_rows : (o : Or Value) → value e (body T args) ≡ o → rows_of_select (let_select lowered) here ≡ let_part o
  let_rows (Ok v) h = let_value v h
  let_rows (Err c) h = let_fault c h

-- ---- the branch

abbrev branch_list : List Ty → List Expr
branch_list params = truth false ∷ number (pos 0) ∷ map null_of params ++ (col 0 1 0 ∷ null_of ty.Text ∷ [])

abbrev pub done_row : List Ty → Value → List Value
done_row params v = val.Bool false ∷ val.Int (pos 0) ∷ nulls_then params v val.Null

abbrev branch_from : Expr → List FromItem
branch_from e = gate is_label ∷ let_item e ∷ []

-- the list of the branch, where the let has the value v
is_done : (cx : Context) (params : List Ty) (v : Value) → Are (inside ((val.Bool true ∷ []) ∷ (v ∷ []) ∷ []) cx) (branch_list params) (done_row params v)
is_done cx params v =
    let there : Context = inside ((val.Bool true ∷ []) ∷ (v ∷ []) ∷ []) cx in
    let last_two = more there (col 0 1 0) _ v _ (is_col there 0 1 0) (more there (null_of ty.Text) _ val.Null _ (is_null_of there ty.Text) (none there)) in
    more there (truth false) _ _ _ (is_truth there false) (more there (number (pos 0)) _ _ _ (is_number there (pos 0)) (for_each there null_of (λ t. val.Null) params _ _ (λ t. is_null_of there t) last_two))

module _ (T : List Rows) (args : List Value) (params : List Ty) (result : Ty) (e : Expr) (ok : IsSource (length T) (length args) e) (cx : Context) (sees : Sees T cx) where
  abbrev placed : Expr
  placed = placed_at result slot_at e

  abbrev branch_here : Context
  branch_here = in_branch cx (start_row args)

  gate_open : extend branch_here (rows_of_item (gate is_label)) ([] ∷ []) ≡ Ok (((val.Bool true ∷ []) ∷ []) ∷ [])
  gate_open =
      extended branch_here (rows_of_item (gate is_label)) [] (Ok ((val.Bool true ∷ []) ∷ [])) (lateral_is gate_select branch_here [] (Ok ((val.Bool true ∷ []) ∷ [])) (open_gate cx true _))

  abbrev branch_frames : Or Value → Or (List Frame)
  branch_frames (Ok v) = Ok (((val.Bool true ∷ []) ∷ (v ∷ []) ∷ []) ∷ [])
  branch_frames (Err c) = Err c

  let_frames : (o : Or Value) → value e (body T args) ≡ o → extend branch_here (rows_of_item (let_item placed)) (((val.Bool true ∷ []) ∷ []) ∷ []) ≡ branch_frames o
  let_frames (Ok v) h =
      extended branch_here (rows_of_item (let_item placed)) ((val.Bool true ∷ []) ∷ []) (Ok ((v ∷ []) ∷ [])) (lateral_is (let_select placed) branch_here ((val.Bool true ∷ []) ∷ []) (Ok ((v ∷ []) ∷ [])) (let_rows T args result e ok cx sees (Ok v) h))
  let_frames (Err c) h =
      extended branch_here (rows_of_item (let_item placed)) ((val.Bool true ∷ []) ∷ []) (Err c) (lateral_is (let_select placed) branch_here ((val.Bool true ∷ []) ∷ []) (Err c) (let_rows T args result e ok cx sees (Err c) h))

  branch_product : (o : Or Value) → value e (body T args) ≡ o → product branch_here (froms (branch_from placed)) ([] ∷ []) ≡ and_then (branch_frames o) (λ x. Ok x)
  branch_product o h =
      ap (λ x. and_then x (product branch_here (rows_of_item (let_item placed) ∷ []))) gate_open ∙ ap (λ x. and_then x (λ y. Ok y)) (let_frames o h)

  pub branch_value : (v : Value) → value e (body T args) ≡ Ok v → rows_of_select (branch params placed) branch_here ≡ Ok (done_row params v ∷ [])
  branch_value v h =
      one_row branch_here (branch_list params) (branch_from placed) None (((val.Bool true ∷ []) ∷ (v ∷ []) ∷ []) ∷ []) ((val.Bool true ∷ []) ∷ (v ∷ []) ∷ []) (done_row params v) (branch_product (Ok v) h) refl (is_done branch_here params v)

  pub branch_fault : (c : Class) → value e (body T args) ≡ Err c → rows_of_select (branch params placed) branch_here ≡ Err c
  branch_fault c h = fault_of branch_here (branch_list params) (branch_from placed) None c (branch_product (Err c) h)

-- a row that is done opens no gate
pub branch_over : (cx : Context) (params : List Ty) (e : Expr) (rest : List Value) → rows_of_select (branch params e) (in_branch cx (marked false 0 rest)) ≡ Ok []
branch_over cx params e rest =
    let there : Context = in_branch cx (marked false 0 rest) in
    let gate_shut = extended there (rows_of_item (gate is_label)) [] (Ok []) (lateral_is gate_select there [] (Ok []) (shut_gate cx false rest)) in
    no_row there (branch_list params) (branch_from e) None [] (ap (λ x. and_then x (product there (rows_of_item (let_item e) ∷ []))) gate_shut) refl (is_done there params val.Null).single

-- ---- the second term over a working table

abbrev step_from : ℕ → Select → List FromItem
step_from place b = table place ∷ lateral (one b) ∷ []

abbrev columns : ℕ → List Expr
columns n = map (col 0 1) (below (suc (suc (suc (suc n)))))

abbrev pub turned : List Rows → List Value → Rows → Context
turned T args rows = outermost (with_table T rows) args

module _ (T : List Rows) (args : List Value) (small_place : length T < 2 ^ 64) (params : List Ty) (e : Expr) where
  abbrev n : ℕ
  n = length params

  abbrev pub stepped : Rows → Or Rows
  stepped rows = rows_of_select (step (decimal (length T)) params e) (turned T args rows)

  pub rows_of_work : (rows : Rows) → rows_of_item (table (length T)) (turned T args rows) [] ≡ Ok rows
  rows_of_work rows = rows_of_table (length T) (turned T args rows) [] small_place ∙ ap Ok (last_table T rows)

  -- the FROM of the second term at one row, by what the branch gives there
  step_product : (row : List Value) (rows : Or Rows) → rows_of_select (branch params e) (in_branch (turned T args (row ∷ [])) row) ≡ rows →
      product (turned T args (row ∷ [])) (froms (step_from (length T) (branch params e))) ([] ∷ []) ≡ and_then (and_then (mapped (map (λ r. row ∷ r ∷ [])) (and_then rows (λ ys. Ok (ys ++ [])))) (λ ys. Ok (ys ++ []))) (λ x. Ok x)
  step_product row rows h =
      let cx : Context = turned T args (row ∷ []) in
      ap (λ x. and_then x (product cx (rows_of_item (lateral (one (branch params e))) ∷ []))) (extended cx (rows_of_item (table (length T))) [] (Ok (row ∷ [])) (rows_of_work (row ∷ [])))
      ∙ ap (λ x. and_then x (λ y. Ok y)) (extended cx (rows_of_item (lateral (one (branch params e)))) (row ∷ []) _ (lateral_is (branch params e) cx (row ∷ []) rows h))

  -- the columns of the branch are its row
  is_row : (cx : Context) (row : List Value) (v : Value) → Are (inside (row ∷ done_row params v ∷ []) cx) (columns n) (done_row params v)
  is_row cx row v =
      let there : Context = inside (row ∷ done_row params v ∷ []) cx in
      let whole = read_all (done_row params v) in
      let long = ap (λ k. suc (suc k)) (length_nulls params v val.Null) in
      subst (λ vs. Are there (columns n) vs) (ap (λ k. map (λ i. at (done_row params v) i) (below k)) (sym long) ∙ whole) (for_all there (col 0 1) (λ i. at (done_row params v) i) (below (suc (suc (suc (suc n))))) (λ i. is_col there 0 1 i))

  pub turn_over : (v : Value) → stepped (done_row params v ∷ []) ≡ Ok []
  turn_over v =
      let cx : Context = turned T args (done_row params v ∷ []) in
      no_row cx (columns n) (step_from (length T) (branch params e)) (Some (col 0 0 0)) [] (step_product (done_row params v) (Ok []) (branch_over cx params e _)) refl (is_row cx (done_row params v) v).single

  -- what the branch gives beside the call is what the second term gives over it
  pub turn_value : (v : Value) → rows_of_select (branch params e) (in_branch (turned T args (start_row args ∷ [])) (start_row args)) ≡ Ok (done_row params v ∷ []) → stepped (start_row args ∷ []) ≡ Ok (done_row params v ∷ [])
  turn_value v h =
      let cx : Context = turned T args (start_row args ∷ []) in
      one_row cx (columns n) (step_from (length T) (branch params e)) (Some (col 0 0 0)) ((start_row args ∷ done_row params v ∷ []) ∷ []) (start_row args ∷ done_row params v ∷ []) (done_row params v) (step_product (start_row args) (Ok (done_row params v ∷ [])) h) (ap (λ x. and_then x (λ w. Ok (keep_if (start_row args ∷ done_row params v ∷ []) (is_true w) []))) (is_col (inside (start_row args ∷ done_row params v ∷ []) cx) 0 0 0).gives) (is_row cx (start_row args) v)

  pub turn_fault : (c : Class) → rows_of_select (branch params e) (in_branch (turned T args (start_row args ∷ [])) (start_row args)) ≡ Err c → stepped (start_row args ∷ []) ≡ Err c
  turn_fault c h =
      let cx : Context = turned T args (start_row args ∷ []) in
      fault_of cx (columns n) (step_from (length T) (branch params e)) (Some (col 0 0 0)) c (step_product (start_row args) (Err c) h)

-- ---- the last select

abbrev last_list : ℕ → List Expr
last_list n = col 0 0 (suc (suc n)) ∷ col 0 0 (suc (suc (suc n))) ∷ []

abbrev pub both_rows : List Value → List Ty → Value → Rows
both_rows args params v = start_row args ∷ done_row params v ∷ []

stops : (cx : Context) → value (expr.Not (col 0 0 0)) cx ≡ Ok (negation (column cx.frames (record { level = 0; item = 0; column = 0 })))
stops cx = ap (λ x. x.value cx) (eq.of_not meaning (col 0 0 0)) ∙ ap (mapped negation) (is_col cx 0 0 0).gives

module _ (T : List Rows) (args : List Value) (small_place : length T < 2 ^ 64) (params : List Ty) where
  keeps_last : (cx : Context) (v : Value) → keep (λ frame. value (expr.Not (col 0 0 0)) (inside frame cx)) ((start_row args ∷ []) ∷ (done_row params v ∷ []) ∷ []) ≡ Ok ((done_row params v ∷ []) ∷ [])
  keeps_last cx v = λ i. and_then (stops (inside (start_row args ∷ []) cx) i) (λ w. mapped (keep_if (start_row args ∷ []) (is_true w)) (and_then (stops (inside (done_row params v ∷ []) cx) i) (λ w. Ok (keep_if (done_row params v ∷ []) (is_true w) []))))

  pub last_rows : (v : Value) → rows_of_select (last (decimal (length T)) (length params)) (turned T args (both_rows args params v)) ≡ Ok ((v ∷ val.Null ∷ []) ∷ [])
  last_rows v =
      let cx : Context = turned T args (both_rows args params v) in
      let there : Context = inside (done_row params v ∷ []) cx in
      let n : ℕ = length params in
      let cells = more there (col 0 0 (suc (suc n))) _ _ _ (is_col there 0 0 (suc (suc n))) (more there (col 0 0 (suc (suc (suc n)))) _ _ _ (is_col there 0 0 (suc (suc (suc n)))) (none there)) in
      one_row cx (last_list n) (table (length T) ∷ []) (Some (expr.Not (col 0 0 0))) ((start_row args ∷ []) ∷ (done_row params v ∷ []) ∷ []) (done_row params v ∷ []) (v ∷ val.Null ∷ []) (ap (λ x. and_then x (λ y. Ok y)) (extended cx (rows_of_item (table (length T))) [] (Ok (both_rows args params v)) (rows_of_work T args small_place params (expr.Null) (both_rows args params v)))) (keeps_last cx v) (subst (λ vs. Are there (last_list n) vs) (λ i. at_value params v val.Null i ∷ after_value params v val.Null i ∷ []) cells)
