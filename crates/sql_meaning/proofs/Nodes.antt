-- What the meaning gives at each kind of node, by what it gives at the parts.
use Rattle.std.proofs.Common.{◌≡◌, ◌≢◌, refl, ap, sym, ◌∙◌, ℕ, ◌||◌, Bool, true, false, List, map, Option, Some, None, Ok, Err, option_map}
use Rattle.std.specs.List.{list_any}
use Rattle.away_values.specs.declared.values.Value.{Value}
use Rattle.away_values.specs.declared.values.Value.TheVariants as val
use Rattle.away_values.specs.declared.types.Ty.TheVariants as ty
use Rattle.away_values.specs.declared.operators.IntOp.{IntOp}
use Rattle.away_values.specs.declared.operators.ChainOp.{ChainOp}
use Rattle.away_values.specs.declared.operators.ChainOp.TheVariants as chain
use Rattle.away_trees.specs.declared.queries.Expr.{Expr}
use Rattle.away_trees.specs.declared.queries.Expr.TheVariants as expr
use Rattle.away_trees.specs.declared.queries.Query.{Query}
use Rattle.away_trees.specs.declared.queries.Recursive.{Recursive}
use Rattle.away_trees.specs.declared.queries.Expr.TheViews.{out-Query, out-Recursive, roll-out-Recursive}
use Rattle.away_values.specs.Operators.{int_op, negated, small, negation_if}
use Rattle.away_values.specs.Results.{Or, and_then, mapped, each, each_joined}
use Rattle.away_trees.specs.Algebra.{expr_of, recursive_of, select_of}
use Rattle.away_trees.proofs.Equations as eq
use Rattle.sql_meaning.specs.Context.{Rows, Context, at_row, outermost}
use Rattle.sql_meaning.specs.Equations.{all_values, known, recursive_part}
use Rattle.sql_meaning.specs.Expressions.{ExprMeaning, values, over_group, called}
use Rattle.sql_meaning.specs.Functions.{Function, Length, Substr, Coalesce, Greatest, Least, Count, Min, Max, Sum, BoolAnd, BoolOr, Unknown, aggregate, function, is_aggregate, scalar}
use Rattle.sql_meaning.specs.Meaning.{has_aggregate, meaning, rows_of_query, rows_of_select, value}
use Rattle.sql_meaning.specs.Parts.{pair, among, chained, chosen, first_known}
use Rattle.sql_meaning.specs.Selects.{recursive_meaning}
use Rattle.sql_meaning.specs.Working.{over_table, recursive_table, rows, rows_with}
use Rattle.sql_meaning.proofs.Lists.{fused, any_map, each_map, joined_map}

abbrev of : Expr → ExprMeaning
of e = expr_of meaning e

pub value_chain : (e : Expr) (links : List (ChainOp × Expr)) (cx : Context) → value (expr.Chain e links) cx ≡ and_then (value e cx) (chained (map (λ l. (l.0, value l.1 cx)) links))
value_chain e links cx =
    ap (λ m. m.value cx) (eq.of_chain meaning e links) ∙ ap (λ ls. and_then (value e cx) (chained ls)) (fused (λ (l : ChainOp × ExprMeaning). (l.0, l.1.value cx)) (λ (l : ChainOp × Expr). (l.0, of l.1)) links)

pub value_one_of : (negative : Bool) (e : Expr) (choices : List Expr) (cx : Context) → value (expr.OneOf negative e choices) cx ≡ mapped (negation_if negative) (and_then (value e cx) (λ v. among v (map (λ c. value c cx) choices) (val.Bool false)))
value_one_of negative e choices cx =
    ap (λ m. m.value cx) (eq.of_oneof meaning negative e choices) ∙ ap (λ os. mapped (negation_if negative) (and_then (value e cx) (λ v. among v os (val.Bool false)))) (fused (λ (m : ExprMeaning). m.value cx) of choices)

arms_are : (arms : List (Expr × Expr)) (cx : Context) (other : Or Value) →
    chosen other (map (λ (a : ExprMeaning × ExprMeaning). (a.0.value cx, a.1.value cx)) (map (λ a. eq.arm_of meaning a) arms)) ≡ chosen other (map (λ a. (value a.0 cx, value a.1 cx)) arms)
arms_are arms cx other = ap (chosen other) (fused (λ (a : ExprMeaning × ExprMeaning). (a.0.value cx, a.1.value cx)) (λ (a : Expr × Expr). (of a.0, of a.1)) arms)

pub value_cases : (arms : List (Expr × Expr)) (e : Expr) (cx : Context) → value (expr.Cases arms (Some e)) cx ≡ chosen (value e cx) (map (λ a. (value a.0 cx, value a.1 cx)) arms)
value_cases arms e cx = ap (λ m. m.value cx) (eq.of_cases meaning arms (Some e)) ∙ arms_are arms cx (value e cx)

pub value_cases_alone : (arms : List (Expr × Expr)) (cx : Context) → value (expr.Cases arms None) cx ≡ chosen (Ok val.Null) (map (λ a. (value a.0 cx, value a.1 cx)) arms)
value_cases_alone arms cx = ap (λ m. m.value cx) (eq.of_cases meaning arms None) ∙ arms_are arms cx (Ok val.Null)

-- ---- operations of 32 bits

then_again : (o : Or Value) (f g : Value → Or Value) → and_then o (λ v. and_then (f v) g) ≡ and_then (and_then o f) g
then_again (Ok v) f g = refl
then_again (Err c) f g = refl

pub small_pair : (op : IntOp) (a : Value) (right : Or Value) → pair (chain.Small op) a right ≡ and_then (pair (chain.Int op) a right) small
small_pair op a right = then_again right (int_op op a) small

pub small_minus : (e : Expr) (cx : Context) → value (expr.NegSmall e) cx ≡ and_then (value (expr.Neg e) cx) small
small_minus e cx =
    ap (λ m. m.value cx) (eq.of_negsmall meaning e) ∙ (then_again (value e cx) negated small ∙ sym (ap (λ m. and_then (m.value cx) small) (eq.of_neg meaning e)))

pub small_cast : (e : Expr) (cx : Context) → value (expr.Cast e ty.Integer) cx ≡ and_then (value (expr.Cast e ty.Bigint) cx) small
small_cast e cx =
    ap (λ m. m.value cx) (eq.of_cast meaning e ty.Integer) ∙ (then_again (value e cx) (λ v. Ok v) small ∙ sym (ap (λ m. and_then (m.value cx) small) (eq.of_cast meaning e ty.Bigint)))

-- ---- calls

values_are : (es : List Expr) (cx : Context) → values cx (map (λ e. of e) es) ≡ all_values es cx
values_are es cx = ap (each (λ o. o)) (fused (λ (m : ExprMeaning). m.value cx) of es) ∙ each_map (λ o. o) (λ e. value e cx) es

pub value_coalesce : (name : List ℕ) (es : List Expr) (cx : Context) → function name ≡ Coalesce → value (expr.Call name es) cx ≡ first_known (map (λ e. value e cx) es)
value_coalesce name es cx h =
    ap (λ m. m.value cx) (eq.of_call meaning name es) ∙ (ap (λ f. called f (map (λ e. of e) es) cx) h ∙ ap first_known (fused (λ (m : ExprMeaning). m.value cx) of es))

group_is : (f : Function) (es : List Expr) (cx : Context) → over_group f (map (λ e. of e) es) cx ≡ and_then (each_joined (λ frame. all_values es (at_row frame cx)) cx.group) (λ vs. aggregate f (known vs))
group_is f es cx = λ i. and_then (each_joined (λ frame. values_are es (at_row frame cx) i) cx.group) (λ vs. aggregate f (known vs))

of_aggregate : (f : Function) (ms : List ExprMeaning) (cx : Context) → is_aggregate f ≡ true → called f ms cx ≡ over_group f ms cx
of_aggregate Count ms cx h = refl
of_aggregate Min ms cx h = refl
of_aggregate Max ms cx h = refl
of_aggregate Sum ms cx h = refl
of_aggregate BoolAnd ms cx h = refl
of_aggregate BoolOr ms cx h = refl
of_aggregate Length ms cx h = cc
of_aggregate Substr ms cx h = cc
of_aggregate Coalesce ms cx h = cc
of_aggregate Greatest ms cx h = cc
of_aggregate Least ms cx h = cc
of_aggregate Unknown ms cx h = cc

of_other : (f : Function) (ms : List ExprMeaning) (cx : Context) → f ≢ Coalesce → is_aggregate f ≡ false → called f ms cx ≡ and_then (values cx ms) (scalar f)
of_other Length ms cx c h = refl
of_other Substr ms cx c h = refl
of_other Greatest ms cx c h = refl
of_other Least ms cx c h = refl
of_other Unknown ms cx c h = refl
of_other Coalesce ms cx c h = absurd (c refl)
of_other Count ms cx c h = cc
of_other Min ms cx c h = cc
of_other Max ms cx c h = cc
of_other Sum ms cx c h = cc
of_other BoolAnd ms cx c h = cc
of_other BoolOr ms cx c h = cc

pub value_aggregate : (name : List ℕ) (es : List Expr) (cx : Context) → is_aggregate (function name) ≡ true → value (expr.Call name es) cx ≡ and_then (each_joined (λ frame. all_values es (at_row frame cx)) cx.group) (λ vs. aggregate (function name) (known vs))
value_aggregate name es cx h =
    ap (λ m. m.value cx) (eq.of_call meaning name es) ∙ (of_aggregate (function name) (map (λ e. of e) es) cx h ∙ group_is (function name) es cx)

pub value_other : (name : List ℕ) (es : List Expr) (cx : Context) → function name ≢ Coalesce → is_aggregate (function name) ≡ false → value (expr.Call name es) cx ≡ and_then (all_values es cx) (scalar (function name))
value_other name es cx c h =
    ap (λ m. m.value cx) (eq.of_call meaning name es) ∙ (of_other (function name) (map (λ e. of e) es) cx c h ∙ ap (λ vs. and_then vs (scalar (function name))) (values_are es cx))

-- ---- where aggregates stand

pub aggregate_chain : (e : Expr) (links : List (ChainOp × Expr)) → has_aggregate (expr.Chain e links) ≡ (has_aggregate e || list_any (λ l. has_aggregate l.1) links)
aggregate_chain e links =
    ap (λ m. m.aggregates) (eq.of_chain meaning e links) ∙ ap (λ b. has_aggregate e || b) (any_map (λ (l : ChainOp × ExprMeaning). l.1.aggregates) (λ (l : ChainOp × Expr). (l.0, of l.1)) links)

pub aggregate_one_of : (negative : Bool) (e : Expr) (choices : List Expr) → has_aggregate (expr.OneOf negative e choices) ≡ (has_aggregate e || list_any has_aggregate choices)
aggregate_one_of negative e choices =
    ap (λ m. m.aggregates) (eq.of_oneof meaning negative e choices) ∙ ap (λ b. has_aggregate e || b) (any_map (λ (m : ExprMeaning). m.aggregates) of choices)

arms_any : (arms : List (Expr × Expr)) → list_any (λ (a : ExprMeaning × ExprMeaning). a.0.aggregates || a.1.aggregates) (map (λ a. eq.arm_of meaning a) arms) ≡ list_any (λ a. has_aggregate a.0 || has_aggregate a.1) arms
arms_any arms = any_map (λ (a : ExprMeaning × ExprMeaning). a.0.aggregates || a.1.aggregates) (λ (a : Expr × Expr). (of a.0, of a.1)) arms

pub aggregate_cases : (arms : List (Expr × Expr)) (e : Expr) → has_aggregate (expr.Cases arms (Some e)) ≡ (list_any (λ a. has_aggregate a.0 || has_aggregate a.1) arms || has_aggregate e)
aggregate_cases arms e = ap (λ m. m.aggregates) (eq.of_cases meaning arms (Some e)) ∙ ap (λ b. b || has_aggregate e) (arms_any arms)

pub aggregate_cases_alone : (arms : List (Expr × Expr)) → has_aggregate (expr.Cases arms None) ≡ (list_any (λ a. has_aggregate a.0 || has_aggregate a.1) arms || false)
aggregate_cases_alone arms = ap (λ m. m.aggregates) (eq.of_cases meaning arms None) ∙ ap (λ b. b || false) (arms_any arms)

pub aggregate_call : (name : List ℕ) (es : List Expr) → has_aggregate (expr.Call name es) ≡ (is_aggregate (function name) || list_any has_aggregate es)
aggregate_call name es =
    ap (λ m. m.aggregates) (eq.of_call meaning name es) ∙ ap (λ b. is_aggregate (function name) || b) (any_map (λ (m : ExprMeaning). m.aggregates) of es)

-- ---- queries

pub rows_union : (q : Query) (cx : Context) → rows_of_query q cx ≡ each_joined (λ s. rows_of_select s cx) (out-Query q).selects
rows_union q cx = ap (λ w. w.rows cx) (eq.query_is meaning q) ∙ joined_map (λ s. s cx) (λ s. select_of meaning s) (out-Query q).selects

recursive_is : (r : Recursive) → recursive_part r ≡ recursive_meaning (record { name = (out-Recursive r).name; columns = (out-Recursive r).columns; first = map (λ x. select_of meaning x) (out-Recursive r).first; second = select_of meaning (out-Recursive r).second })
recursive_is r =
    ap (recursive_of meaning) (sym (roll-out-Recursive r)) ∙ eq.of_recursive meaning (out-Recursive r).name (out-Recursive r).columns (out-Recursive r).first (out-Recursive r).second

pub first_rows : (r : Recursive) (cx : Context) → (recursive_part r).first cx ≡ each_joined (λ s. rows_of_select s cx) (out-Recursive r).first
first_rows r cx = ap (λ m. m.first cx) (recursive_is r) ∙ joined_map (λ s. s cx) (λ s. select_of meaning s) (out-Recursive r).first

pub second_rows : (r : Recursive) (cx : Context) → (recursive_part r).second cx ≡ rows_of_select (out-Recursive r).second cx
second_rows r cx = ap (λ m. m.second cx) (recursive_is r)

recursive_of_query : (q : Query) (r : Option Recursive) → (out-Query q).recursive ≡ r → (T : List Rows) (args : List Value) (k : ℕ) → rows q T args k ≡ rows_with (option_map recursive_part r) (rows_of_query q) T args k
recursive_of_query q r h T args k =
    ap (λ x. rows_with x (rows_of_query q) T args k) (ap (λ m. m.recursive) (eq.query_is meaning q) ∙ ap (λ x. option_map recursive_part x) h)

pub rows_plain : (q : Query) (T : List Rows) (args : List Value) (k : ℕ) → (out-Query q).recursive ≡ None → rows q T args k ≡ Some (rows_of_query q (outermost T args))
rows_plain q T args k h = recursive_of_query q None h T args k

pub rows_recursive : (q : Query) (r : Recursive) (T : List Rows) (args : List Value) (k : ℕ) → (out-Query q).recursive ≡ Some r → rows q T args k ≡ over_table (rows_of_query q) T args (recursive_table (recursive_part r) T args k)
rows_recursive q r T args k h = recursive_of_query q (Some r) h T args k
