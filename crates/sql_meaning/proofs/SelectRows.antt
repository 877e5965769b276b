-- The rows of a select, of a table and of a LATERAL subquery, by those of their parts.
use Rattle.std.proofs.Common.{◌≡◌, refl, ap, ◌∙◌, ℕ, ◌<◌, ◌^◌, ℤ, Bool, true, false, ◌||◌, cond, List, [], ◌∷◌, ◌++◌, map, slice_index_or, Option, None, Ok, Err, option_map}
use Rattle.std.proofs.lemmas.Fmt.{decimal_is_IsNumeral}
use Rattle.away_values.specs.declared.types.Ty.{Ty}
use Rattle.away_values.specs.declared.types.Ty.TheVariants as ty
use Rattle.away_values.specs.declared.values.Class.{Class}
use Rattle.away_values.specs.declared.values.Value.{Value}
use Rattle.away_values.specs.declared.values.Value.TheVariants as val
use Rattle.away_trees.specs.declared.queries.Expr.{Expr}
use Rattle.away_trees.specs.declared.queries.Expr.TheVariants as expr
use Rattle.away_trees.specs.declared.queries.FromItem.{FromItem}
use Rattle.away_trees.specs.declared.queries.Select.{Select}
use Rattle.away_values.specs.Operators.{cast}
use Rattle.away_values.specs.Results.{Or, and_then, mapped, each}
use Rattle.away_trees.specs.Algebra.{expr_of, item_of, from_of}
use Rattle.away_trees.proofs.Equations as eq
use Rattle.sql_meaning.specs.Context.{Rows, Frame, Context, inside, over, column}
use Rattle.sql_meaning.specs.Expressions.{ExprMeaning, FromMeaning, values, any_aggregates}
use Rattle.sql_meaning.specs.Meaning.{meaning, value, has_aggregate, rows_of_item, rows_of_select}
use Rattle.sql_meaning.specs.Selects.{select_meaning, product, kept, listed, cut, ordered, extend, union}
use Rattle.sql_meaning.specs.Trees as t

-- ---- single expressions

-- its value here, and no aggregate
pub record Is (cx : Context) (e : Expr) (v : Value) : Type 0 where
  pub gives : value e cx ≡ Ok v
  pub single : has_aggregate e ≡ false

pub is_cast : (cx : Context) (e : Expr) (v w : Value) (t : Ty) → Is cx e v → cast t v ≡ Ok w → Is cx (expr.Cast e t) w
is_cast cx e v w t h k = record {
  gives = ap (λ x. x.value cx) (eq.of_cast meaning e t) ∙ (ap (λ o. and_then o (cast t)) h.gives ∙ k);
  single = ap (λ x. x.aggregates) (eq.of_cast meaning e t) ∙ h.single;
}

pub is_number : (cx : Context) (k : ℤ) → Is cx (t.number k) (val.Int k)
is_number cx k = is_cast cx (expr.Int k) (val.Int k) (val.Int k) ty.Bigint (record { gives = refl; single = refl }) refl

pub is_truth : (cx : Context) (b : Bool) → Is cx (t.truth b) (val.Bool b)
is_truth cx b = is_cast cx (expr.Bool b) (val.Bool b) (val.Bool b) ty.Boolean (record { gives = refl; single = refl }) refl

-- NULL has every type
pub null_cast : (t : Ty) → cast t val.Null ≡ Ok val.Null
null_cast ty.Bigint = refl
null_cast ty.Boolean = refl
null_cast ty.Integer = refl
null_cast ty.Text = refl

pub is_null_of : (cx : Context) (w : Ty) → Is cx (t.null_of w) val.Null
is_null_of cx w = is_cast cx expr.Null val.Null val.Null w (record { gives = refl; single = refl }) (null_cast w)

pub is_col : (cx : Context) (l i c : ℕ) → Is cx (t.col l i c) (column cx.frames (record { level = l; item = i; column = c }))
is_col cx l i c = record { gives = refl; single = refl }

-- ---- lists of them

abbrev all : List Expr → List ExprMeaning
all = map (λ e. expr_of meaning e)

pub record Are (cx : Context) (es : List Expr) (vs : List Value) : Type 0 where
  pub gives : values cx (map (λ e. expr_of meaning e) es) ≡ Ok vs
  pub single : any_aggregates (map (λ e. expr_of meaning e) es) ≡ false

pub none : (cx : Context) → Are cx [] []
none cx = record { gives = refl; single = refl }

pub more : (cx : Context) (e : Expr) (es : List Expr) (v : Value) (vs : List Value) → Is cx e v → Are cx es vs → Are cx (e ∷ es) (v ∷ vs)
more cx e es v vs h rest = record {
  gives = λ i. and_then (h.gives i) (λ v. mapped (λ ys. v ∷ ys) (rest.gives i));
  single = λ i. h.single i || rest.single i;
}

-- an expression for each member of a list
pub for_each : {A : Type 0} (cx : Context) (f : A → Expr) (g : A → Value) (is : List A) (es : List Expr) (vs : List Value) → ((i : A) → Is cx (f i) (g i)) → Are cx es vs → Are cx (map f is ++ es) (map g is ++ vs)
for_each cx f g [] es vs each_is rest = rest
for_each cx f g (i ∷ is) es vs each_is rest = more cx (f i) _ (g i) _ (each_is i) (for_each cx f g is es vs each_is rest)

-- the same with nothing after them
pub for_all : {A : Type 0} (cx : Context) (f : A → Expr) (g : A → Value) (is : List A) → ((i : A) → Is cx (f i) (g i)) → Are cx (map f is) (map g is)
for_all cx f g [] each_is = none cx
for_all cx f g (i ∷ is) each_is = more cx (f i) _ (g i) _ (each_is i) (for_all cx f g is each_is)

-- ---- a select

abbrev froms : List FromItem → List FromMeaning
froms = map (λ f. from_of meaning f)

abbrev optional : Option Expr → Option ExprMeaning
optional = option_map (λ e. expr_of meaning e)

items : (es : List Expr) → map (λ i. item_of meaning i) (map t.item es) ≡ all es
items [] = refl
items (e ∷ es) = ap (λ ms. expr_of meaning e ∷ ms) (items es)

select_is : (es : List Expr) (from : List FromItem) (filter : Option Expr) → rows_of_select (t.select es from filter) ≡ select_meaning (record { list = all es; from = froms from; filter = optional filter; order = []; limit = None })
select_is es from filter =
    eq.of_select meaning (map t.item es) from filter [] None ∙ ap (λ l. select_meaning (record { list = l; from = froms from; filter = optional filter; order = []; limit = None })) (items es)

pub rows_of : (cx : Context) (es : List Expr) (from : List FromItem) (filter : Option Expr) (frames some_ : List Frame) (rows : Or Rows) →
    product cx (map (λ f. from_of meaning f) from) ([] ∷ []) ≡ Ok frames → kept cx (option_map (λ e. expr_of meaning e) filter) frames ≡ Ok some_ → any_aggregates (map (λ e. expr_of meaning e) es) ≡ false → each (λ frame. values (inside frame cx) (map (λ e. expr_of meaning e) es)) some_ ≡ rows → rows_of_select (t.select es from filter) cx ≡ and_then (and_then rows (ordered cx [] some_)) (cut cx None)
rows_of cx es from filter frames some_ rows p q s r =
    ap (λ l. l cx) (select_is es from filter)
    ∙ (ap (λ x. and_then x (λ frames. and_then (kept cx (optional filter) frames) (λ rows. and_then (listed cx (all es) [] rows) (cut cx None)))) p
    ∙ (ap (λ x. and_then x (λ rows. and_then (listed cx (all es) [] rows) (cut cx None))) q
    ∙ (ap (λ b. and_then (cond b (mapped (λ row. row ∷ []) (values (over some_ cx) (all es))) (and_then (each (λ frame. values (inside frame cx) (all es)) some_) (ordered cx [] some_))) (cut cx None)) s
    ∙ ap (λ x. and_then (and_then x (ordered cx [] some_)) (cut cx None)) r)))

pub fault_of : (cx : Context) (es : List Expr) (from : List FromItem) (filter : Option Expr) (c : Class) →
    product cx (map (λ f. from_of meaning f) from) ([] ∷ []) ≡ Err c → rows_of_select (t.select es from filter) cx ≡ Err c
fault_of cx es from filter c p =
    ap (λ l. l cx) (select_is es from filter)
    ∙ ap (λ x. and_then x (λ frames. and_then (kept cx (optional filter) frames) (λ rows. and_then (listed cx (all es) [] rows) (cut cx None)))) p

-- one row is kept
pub each_one : {A B : Type 0} (f : A → Or B) (x : A) (y : Or B) → f x ≡ y → each f (x ∷ []) ≡ and_then y (λ y. Ok (y ∷ []))
each_one f x y h = ap (λ z. and_then z (λ y. Ok (y ∷ []))) h

pub one_row : (cx : Context) (es : List Expr) (from : List FromItem) (filter : Option Expr) (frames : List Frame) (frame : Frame) (vs : List Value) →
    product cx (map (λ f. from_of meaning f) from) ([] ∷ []) ≡ Ok frames → kept cx (option_map (λ e. expr_of meaning e) filter) frames ≡ Ok (frame ∷ []) → Are (inside frame cx) es vs → rows_of_select (t.select es from filter) cx ≡ Ok (vs ∷ [])
one_row cx es from filter frames frame vs p q row =
    rows_of cx es from filter frames (frame ∷ []) (Ok (vs ∷ [])) p q row.single (each_one (λ frame. values (inside frame cx) (all es)) frame (Ok vs) row.gives)

-- no row is kept
pub no_row : (cx : Context) (es : List Expr) (from : List FromItem) (filter : Option Expr) (frames : List Frame) →
    product cx (map (λ f. from_of meaning f) from) ([] ∷ []) ≡ Ok frames → kept cx (option_map (λ e. expr_of meaning e) filter) frames ≡ Ok [] → any_aggregates (map (λ e. expr_of meaning e) es) ≡ false → rows_of_select (t.select es from filter) cx ≡ Ok []
no_row cx es from filter frames p q s = rows_of cx es from filter frames [] (Ok []) p q s refl

-- ---- FROM items

pub rows_of_lateral : (s : Select) (cx : Context) (frame : Frame) → rows_of_item (t.lateral (t.one s)) cx frame ≡ union (rows_of_select s ∷ []) (inside frame cx)
rows_of_lateral s cx frame =
    ap (λ o. o [] cx frame) (eq.of_sub meaning (t.one s) true)
    ∙ ap (λ w. w.rows (inside frame cx)) (eq.of_query meaning (s ∷ []))

pub lateral_is : (s : Select) (cx : Context) (frame : Frame) (rows : Or Rows) → rows_of_select s (inside frame cx) ≡ rows → rows_of_item (t.lateral (t.one s)) cx frame ≡ and_then rows (λ ys. Ok (ys ++ []))
lateral_is s cx frame rows h = rows_of_lateral s cx frame ∙ ap (λ x. and_then x (λ ys. Ok (ys ++ []))) h

pub rows_of_table : (place : ℕ) (cx : Context) (frame : Frame) → place < 2 ^ 64 → rows_of_item (t.table place) cx frame ≡ Ok (slice_index_or cx.tables place [])
rows_of_table place cx frame h = ap (λ n. Ok (slice_index_or cx.tables n [])) (decimal_is_IsNumeral place h).1

pub extended : (cx : Context) (item : FromMeaning) (frame : Frame) (rows : Or Rows) → item cx frame ≡ rows → extend cx item (frame ∷ []) ≡ and_then (mapped (map (λ row. frame ++ row ∷ [])) rows) (λ ys. Ok (ys ++ []))
extended cx item frame rows h = ap (λ x. and_then (mapped (map (λ row. frame ++ row ∷ [])) x) (λ ys. Ok (ys ++ []))) h
