-- What is moved is what the law names: arguments one select further in, and subqueries in the
-- places of calls.
use Rattle.std.proofs.Common.{◌≡◌, ℕ, ◌+◌, ◌<◌, List, [], ◌∷◌, ◌++◌, map, length, drop, get_or, refl, sym, ap, ◌∙◌, append_assoc}
use Rattle.std.proofs.lemmas.List.{drop_more}
use Rattle.away_trees.specs.Algebra.{expr_of, item_of}
use Rattle.away_trees.specs.declared.queries.Col.{Col}
use Rattle.away_trees.specs.declared.queries.Expr.{Expr}
use Rattle.away_trees.specs.declared.queries.FromItem.{FromItem}
use Rattle.away_trees.specs.declared.queries.Item.{Item}
use Rattle.inline_law.specs.Moved.{deeper, item_filled, moving, outward, same_column, same_slot}
use Rattle.inline_law.specs.Written.{call_leaf, inner_calls}
use Rattle.inline_calls.specs.Leaves.{leaf_of, place_of}
use Rattle.inline_calls.specs.declared.leaves.Moves.{Moves}
use Rattle.inline_calls.specs.Moving.{expr_in, item_in}
use Rattle.inline_calls.specs.declared.leaves.Moves.TheVariants.{Calls, Nulls, Outward}

expr_is : (leaf : ℕ → ℕ → Expr) (place : ℕ → Col → Expr) (d : ℕ) (e : Expr) → expr_in leaf place d e ≡ expr_of (moving leaf place) e d
unfolding expr_in
expr_is leaf place d e = refl

item_is : (leaf : ℕ → ℕ → Expr) (place : ℕ → Col → Expr) (d : ℕ) (i : Item) → item_in leaf place d i ≡ item_of (moving leaf place) i d
unfolding item_in
item_is leaf place d i = refl

-- ---- one select further in

slot_stays : (d i : ℕ) → leaf_of Outward d i ≡ same_slot d i
unfolding leaf_of
slot_stays d i = refl

column_outward : (d : ℕ) (c : Col) → place_of Outward d c ≡ outward 1 d c
unfolding place_of
column_outward d c = refl

moved_deeper : (e : Expr) → expr_in (leaf_of Outward) (place_of Outward) 0 e ≡ deeper 1 e
moved_deeper e =
    (λ z. expr_in (λ d i. slot_stays d i z) (λ d c. column_outward d c z) 0 e) ∙ expr_is same_slot (outward 1) 0 e

moved_outward : (es : List Expr) → map (expr_in (leaf_of Outward) (place_of Outward) 0) es ≡ map (deeper 1) es
moved_outward es = λ z. map (λ e. moved_deeper e z) es

-- the arguments of one call more
pub inner_more : (calls : List (List Expr)) (i : ℕ) (es given moved : List Expr) (all new whole : List (List Expr)) → i < length calls → es ≡ get_or calls i es → given ≡ es
    → moved ≡ map (expr_in (leaf_of Outward) (place_of Outward) 0) given → new ≡ all ++ (moved ∷ []) → all ++ inner_calls (drop i calls) ≡ whole → new ++ inner_calls (drop (i + 1) calls) ≡ whole
inner_more calls i es given moved all new whole within is same was grown h =
    let rest : List (List Expr) = drop (i + 1) calls in
    let at : drop i calls ≡ es ∷ rest = drop_more calls i es within ∙ ap (λ x. x ∷ rest) (sym is) in
    let first : moved ≡ map (deeper 1) es = was ∙ (moved_outward given ∙ ap (map (deeper 1)) same) in
    ap (λ xs. xs ++ inner_calls rest) grown
    ∙ (append_assoc all (moved ∷ []) (inner_calls rest)
    ∙ (ap (λ x. all ++ (x ∷ inner_calls rest)) first
    ∙ (sym (ap (λ xs. all ++ inner_calls xs) at) ∙ h)))

-- ---- subqueries in the places of calls

-- subqueries of these calls over a table stand for slots
abbrev pub AreCalls : Moves → FromItem → ℕ → List (List Expr) → Type 0
AreCalls (Calls c) table columns calls = (c.now.table.now ≡ table) × ((c.now.columns ≡ columns) × (c.now.calls.now ≡ calls))
AreCalls (Nulls t) table columns calls = ⊥
AreCalls Outward table columns calls = ⊥

slots_are : (m : Moves) (table : FromItem) (columns : ℕ) (calls : List (List Expr)) → AreCalls m table columns calls → (d i : ℕ) → leaf_of m d i ≡ call_leaf table columns calls d i
unfolding leaf_of
slots_are (Calls c) table columns calls h d i = λ z. call_leaf (h.0 z) (h.1.0 z) (h.1.1 z) d i
slots_are (Nulls t) table columns calls h d i = absurd h
slots_are Outward table columns calls h d i = absurd h

columns_stay : (m : Moves) (table : FromItem) (columns : ℕ) (calls : List (List Expr)) → AreCalls m table columns calls → (d : ℕ) (c : Col) → place_of m d c ≡ same_column d c
unfolding place_of
columns_stay (Calls k) table columns calls h d c = refl
columns_stay (Nulls t) table columns calls h d c = absurd h
columns_stay Outward table columns calls h d c = absurd h

items_filled : (leaf : ℕ → ℕ → Expr) (place : ℕ → Col → Expr) (filled : ℕ → ℕ → Expr) (list : List Item) → ((d i : ℕ) → leaf d i ≡ filled d i) → ((d : ℕ) (c : Col) → place d c ≡ same_column d c)
    → map (item_in leaf place 0) list ≡ map (item_filled filled) list
items_filled leaf place filled list leaves columns =
    (λ z. map (item_in (λ d i. leaves d i z) (λ d c. columns d c z) 0) list) ∙ (λ z. map (λ i. item_is filled same_column 0 i z) list)

pub calls_filled : (m : Moves) (table : FromItem) (columns : ℕ) (calls : List (List Expr)) (list : List Item) → AreCalls m table columns calls
    → map (item_in (leaf_of m) (place_of m) 0) list ≡ map (item_filled (call_leaf table columns calls)) list
calls_filled m table columns calls list h =
    items_filled (leaf_of m) (place_of m) (call_leaf table columns calls) list (slots_are m table columns calls h) (columns_stay m table columns calls h)
