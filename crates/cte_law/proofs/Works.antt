-- What a select gives behind its gate, and what an item and a list add to it.
use Rattle.std.proofs.Common.{◌≡◌, refl, ap, ◌∙◌, Bool, true, false, not, List, [], ◌∷◌, ◌++◌, map, Some, None, Ok, Err}
use Rattle.away_values.specs.declared.values.Value.{Value}
use Rattle.away_values.specs.declared.values.Value.TheVariants as val
use Rattle.away_values.specs.declared.operators.IsTest.TheVariants as test
use Rattle.away_trees.specs.declared.queries.Expr.{Expr}
use Rattle.away_trees.specs.declared.queries.Expr.TheViews.{roll-Query}
use Rattle.away_trees.specs.declared.queries.FromItem.{FromItem}
use Rattle.away_trees.specs.declared.queries.Select.{Select}
use Rattle.away_values.specs.Operators.{is_true, negation_if}
use Rattle.away_values.specs.Results.{Or, and_then, mapped, each, each_joined}
use Rattle.away_trees.specs.Algebra.{expr_of, from_of, select_of}
use Rattle.away_trees.proofs.Equations as eq
use Rattle.sql_meaning.specs.Context.{Rows, Frame, Context, inside}
use Rattle.sql_meaning.specs.Expressions.{ExprMeaning, FromMeaning, values, any_aggregates}
use Rattle.sql_meaning.specs.Meaning.{meaning, rows_of_item, rows_of_select}
use Rattle.sql_meaning.specs.Selects.{product, extend, keep_if}
use Rattle.sql_meaning.specs.Template.{gate}
use Rattle.sql_meaning.specs.Trees.{truth, select, lateral}
use Rattle.sql_meaning.proofs.Lists.{joined_map}
use Rattle.sql_meaning.proofs.SelectRows.{Is, Are, is_truth, none, more, rows_of, fault_of, one_row, no_row, lateral_is, extended}
use Rattle.call_forms.specs.Template.{Parts, gated, either, in_parts, is_not_true}
use Rattle.cte_law.proofs.Sequences.{unit_twice, alone, after_nothing}
use Rattle.cte_law.proofs.Terms.{let_part}

abbrev pub all : List Expr → List ExprMeaning
all = map (λ e. expr_of meaning e)

abbrev pub froms : List FromItem → List FromMeaning
froms = map (λ f. from_of meaning f)

-- the list at each row of FROM
abbrev pub list_rows : Context → List Expr → List Frame → Or Rows
list_rows cx list frames = each (λ frame. values (inside frame cx) (all list)) frames

-- ---- a select without WHERE

plain : (cx : Context) (list : List Expr) (from : List FromItem) → any_aggregates (all list) ≡ false → (o : Or (List Frame)) → product cx (froms from) ([] ∷ []) ≡ o → rows_of_select (select list from None) cx ≡ and_then o (list_rows cx list)
plain cx list from s (Ok frames) h =
    rows_of cx list from None frames frames (list_rows cx list frames) h refl s refl ∙ unit_twice (list_rows cx list frames)
plain cx list from s (Err c) h = fault_of cx list from None c h

-- ---- parts of a select, beside a row of the items before them

-- they give these rows
pub record Works (cx : Context) (frame : Frame) (p : Parts) (rows : Or Rows) : Type 0 where
  pub gives : and_then (product cx (froms p.items) (frame ∷ [])) (list_rows cx p.list) ≡ rows
  pub single : any_aggregates (all p.list) ≡ false

-- a list alone
pub list_works : (cx : Context) (frame : Frame) (list : List Expr) (row : List Value) → Are (inside frame cx) list row → Works cx frame (record { items = []; list = list }) (Ok (row ∷ []))
list_works cx frame list row h = record {
  gives = ap (λ x. and_then x (λ y. Ok (y ∷ []))) h.gives;
  single = h.single;
}

-- an item of one row and one column, or of a fault
abbrev pub beside : Or Value → (Value → Or Rows) → Or Rows
beside (Ok v) go = go v
beside (Err c) go = Err c

pub item_works : (cx : Context) (frame : Frame) (item : FromItem) (p : Parts) (go : Value → Or Rows) (o : Or Value) → rows_of_item item cx frame ≡ let_part o → ((v : Value) → Works cx (frame ++ (v ∷ []) ∷ []) p (go v)) → Works cx frame (in_parts item p) (beside o go)
item_works cx frame item p go (Ok v) h works = record {
  gives = ap (λ x. and_then (and_then x (product cx (froms p.items))) (list_rows cx p.list)) (extended cx (rows_of_item item) frame (Ok ((v ∷ []) ∷ [])) h) ∙ (works v).gives;
  single = (works v).single;
}
item_works cx frame item p go (Err c) h works = record {
  gives = ap (λ x. and_then (and_then x (product cx (froms p.items))) (list_rows cx p.list)) (extended cx (rows_of_item item) frame (Err c) h);
  single = (works val.Null).single;
}

-- ---- gates

gate_select : (cx : Context) (c : Expr) (w : Value) (b : Bool) → Is (inside [] cx) c w → is_true w ≡ b → rows_of_select (select (truth true ∷ []) [] (Some c)) cx ≡ Ok (keep_if (val.Bool true ∷ []) b [])
gate_select cx c w true h p =
    one_row cx (truth true ∷ []) [] (Some c) ([] ∷ []) [] (val.Bool true ∷ []) refl (ap (λ x. and_then x (λ v. Ok (keep_if [] (is_true v) []))) h.gives ∙ ap (λ b. Ok (keep_if [] b [])) p) (more (inside [] cx) (truth true) [] (val.Bool true) [] (is_truth (inside [] cx) true) (none (inside [] cx)))
gate_select cx c w false h p =
    no_row cx (truth true ∷ []) [] (Some c) ([] ∷ []) refl (ap (λ x. and_then x (λ v. Ok (keep_if [] (is_true v) []))) h.gives ∙ ap (λ b. Ok (keep_if [] b [])) p) (more (inside [] cx) (truth true) [] (val.Bool true) [] (is_truth (inside [] cx) true) (none (inside [] cx))).single

gate_frames : (cx : Context) (c : Expr) (w : Value) (b : Bool) → Is (inside [] (inside [] cx)) c w → is_true w ≡ b → extend cx (rows_of_item (gate c)) ([] ∷ []) ≡ Ok (keep_if ((val.Bool true ∷ []) ∷ []) b [])
gate_frames cx c w true h p =
    extended cx (rows_of_item (gate c)) [] (Ok ((val.Bool true ∷ []) ∷ [])) (lateral_is (select (truth true ∷ []) [] (Some c)) cx [] (Ok ((val.Bool true ∷ []) ∷ [])) (gate_select (inside [] cx) c w true h p))
gate_frames cx c w false h p =
    extended cx (rows_of_item (gate c)) [] (Ok []) (lateral_is (select (truth true ∷ []) [] (Some c)) cx [] (Ok []) (gate_select (inside [] cx) c w false h p))

-- no row stands beside no row
over_none : (cx : Context) (items : List FromMeaning) → product cx items [] ≡ Ok []
over_none cx [] = refl
over_none cx (item ∷ items) = over_none cx items

abbrev pub if_open : Bool → Or Rows → Or Rows
if_open true rows = rows
if_open false rows = Ok []

pub gated_rows : (cx : Context) (c : Expr) (w : Value) (p : Parts) (rows : Or Rows) (b : Bool) → Is (inside [] (inside [] cx)) c w → is_true w ≡ b → Works cx ((val.Bool true ∷ []) ∷ []) p rows → rows_of_select (gated c p) cx ≡ if_open b rows
gated_rows cx c w p rows true h q works =
    plain cx p.list (gate c ∷ p.items) works.single (product cx (froms p.items) (((val.Bool true ∷ []) ∷ []) ∷ [])) (ap (λ x. and_then x (product cx (froms p.items))) (gate_frames cx c w true h q)) ∙ works.gives
gated_rows cx c w p rows false h q works =
    plain cx p.list (gate c ∷ p.items) works.single (Ok []) (ap (λ x. and_then x (product cx (froms p.items))) (gate_frames cx c w false h q) ∙ over_none cx (froms p.items))

-- ---- several selects in a LATERAL item

pub union_rows : (selects : List Select) (cx : Context) (frame : Frame) → rows_of_item (lateral (roll-Query (record { recursive = None; selects = selects }))) cx frame ≡ each_joined (λ s. rows_of_select s (inside frame cx)) selects
union_rows selects cx frame =
    ap (λ o. o [] cx frame) (eq.of_sub meaning (roll-Query (record { recursive = None; selects = selects })) true)
    ∙ (ap (λ w. w.rows (inside frame cx)) (eq.of_query meaning selects) ∙ joined_map (λ s. s (inside frame cx)) (λ s. select_of meaning s) selects)

-- the first where the test is true, the second where it isn't
abbrev pub either_of : Bool → Or Rows → Or Rows → Or Rows
either_of true x y = x
either_of false x y = y

both : (b : Bool) (x y : Or Rows) → and_then (if_open b x) (λ ys. mapped (λ zs. ys ++ zs) (and_then (if_open (not b) y) (λ ys. Ok (ys ++ [])))) ≡ either_of b x y
both true x y = alone x
both false x y = after_nothing (and_then y (λ ys. Ok (ys ++ []))) ∙ alone y

is_negated : (cx : Context) (c : Expr) (w : Value) → Is cx c w → Is cx (is_not_true c) (val.Bool (not (is_true w)))
is_negated cx c w h = record {
  gives = ap (λ x. x.value cx) (eq.of_is meaning c (test.True) true) ∙ ap (mapped (λ v. negation_if true (val.Bool (is_true v)))) h.gives;
  single = ap (λ x. x.aggregates) (eq.of_is meaning c (test.True) true) ∙ h.single;
}

negated_true : (b : Bool) → is_true (val.Bool (not b)) ≡ not b
negated_true true = refl
negated_true false = refl

pub either_rows : (cx : Context) (frame : Frame) (c : Expr) (w : Value) (p q : Parts) (x y : Or Rows) (b : Bool) → is_true w ≡ b → Is (inside [] (inside [] (inside frame cx))) c w → Works (inside frame cx) ((val.Bool true ∷ []) ∷ []) p x → Works (inside frame cx) ((val.Bool true ∷ []) ∷ []) q y → rows_of_item (either (gated c p) (gated (is_not_true c) q)) cx frame ≡ either_of b x y
either_rows cx frame c w p q x y b t h works_p works_q =
    let inner : Context = inside frame cx in
    union_rows (gated c p ∷ gated (is_not_true c) q ∷ []) cx frame
    ∙ ((λ i. and_then (gated_rows inner c w p x b h t works_p i) (λ ys. mapped (λ zs. ys ++ zs) (and_then (gated_rows inner (is_not_true c) (val.Bool (not (is_true w))) q y (not b) (is_negated (inside [] (inside [] inner)) c w h) (negated_true (is_true w) ∙ ap not t) works_q i) (λ ys. Ok (ys ++ []))))) ∙ both b x y)
