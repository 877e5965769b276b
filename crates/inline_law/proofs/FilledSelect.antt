-- The select with its calls' subqueries over the recursive table has the rows of the select in which each slot has its call's value.
use Rattle.std.proofs.Common.{◌≡◌, refl, ap, sym, ◌∙◌, subst, ℕ, zero, suc, ◌<◌, Bool, true, false, ◌||◌, cond, nat_lt, List, [], ◌∷◌, ◌++◌, map, filter, length, get_or, slice_index_or, option_map, Ok, Err, arith}
use Rattle.std.proofs.lemmas.Bool.{ltb-true}
use Rattle.std.specs.List.{list_all}
use Rattle.away_trees.specs.Algebra.{expr_of, from_of, item_of, key_of, select_of}
use Rattle.away_trees.specs.declared.queries.Expr.{Expr}
use Rattle.away_trees.specs.declared.queries.Expr.TheOpen as ex
use Rattle.away_trees.specs.declared.queries.Expr.TheViews.{out-Item, out-Select}
use Rattle.away_trees.specs.declared.queries.FromItem.{FromItem}
use Rattle.away_trees.specs.declared.queries.Item.{Item}
use Rattle.away_trees.specs.declared.queries.Select.{Select}
use Rattle.away_trees.proofs.Equations as eq
use Rattle.away_values.specs.declared.values.Value.{Value}
use Rattle.away_values.specs.Results.{Or, and_then, mapped, each}
use Rattle.sql_meaning.specs.Context.{Rows, Frame, Context, at, inside, over, outermost}
use Rattle.sql_meaning.specs.Expressions.{ExprMeaning, values, any_aggregates, expr_meaning}
use Rattle.sql_meaning.specs.Meaning.{meaning, value, rows_of_select}
use Rattle.sql_meaning.specs.Reads.{Read, Slot, Table, reading, reads, of_list, of_option}
use Rattle.sql_meaning.specs.Selects.{product, kept, listed, ordered, cut}
use Rattle.sql_meaning.specs.Working.{with_table}
use Rattle.sql_meaning.proofs.RowPlaces.{last_table}
use Rattle.sql_meaning.proofs.Same as same
use Rattle.sql_meaning.proofs.Uses.{left, right}
use Rattle.cte_law.proofs.Works.{all}
use Rattle.inline_law.specs.Answers.{Every, IsOver, within}
use Rattle.inline_law.specs.Filled.{CallingSelect, arguments_at, filter_of, froms_of, kept_rows, keys_of, limit_of, list_of, rest_of, with_slots}
use Rattle.inline_law.specs.Moved.{deeper, item_filled, same_column}
use Rattle.inline_law.specs.Written.{at_depth, call_leaf, filled_select, inner_calls, result_place}
use Rattle.inline_law.proofs.CallFilter.{Have, HaveAtRows, IsTable, have_at_rows, call_value, first_result, is_row_of}
use Rattle.inline_law.proofs.Deeper.{deeper_same}
use Rattle.inline_law.proofs.FirstTerm.{parted}
use Rattle.inline_law.proofs.Moving.{moved_same}
use Rattle.inline_law.proofs.Parts as parts

-- ---- the arguments of a call, further in

abbrev just : List Value → Or (List Value)
just vs = Ok vs

no_values : (u : Value) (us : List Value) → just [] ≡ just (u ∷ us) → ⊥
no_values u us e = cc

abbrev any_read : Read → Bool
any_read r = true

all_read : (rs : List Read) → list_all any_read rs ≡ true
all_read [] = refl
all_read (r ∷ rs) = all_read rs

-- a list that isn't empty, and its last member
last_of : (f : Frame) (l : List Frame) → (m : List Frame) × (x : Frame) × (f ∷ l ≡ m ++ x ∷ []) × (length l ≡ length m)
last_of f [] = ([], f, refl, refl)
last_of f (g ∷ l) = let p = last_of g l in (f ∷ p.0, p.1, ap (λ (fs : List Frame). f ∷ fs) p.2, ap suc p.3)

regrouped : (m : List Frame) (x y : Frame) → (m ++ x ∷ []) ++ y ∷ [] ≡ m ++ (x ∷ y ∷ [])
regrouped [] x y = refl
regrouped (f ∷ m) x y = ap (λ (fs : List Frame). f ∷ fs) (regrouped m x y)

module _ (T : List Rows) (R : Rows) (args : List Value) (frame : Frame) where
  abbrev place_of_list : Context
  place_of_list = inside frame (outermost T args)

  abbrev in_list : List Value → same.Surroundings
  in_list env = record { env = env; args = args; outer = frame ∷ []; tables = T }

  abbrev in_written : same.Surroundings
  in_written = record { env = []; args = args; outer = frame ∷ []; tables = with_table T R }

  stands_with : (calls k : ℕ) → within calls (length T) (Table k) ≡ true → slice_index_or (with_table T R) k [] ≡ slice_index_or T k []
  stands_with calls k h = parts.stands T R args calls k h

  abbrev further_in : List Frame → List Value → Context
  further_in l row = record { env = []; args = args; frames = (row ∷ []) ∷ (l ++ frame ∷ []); tables = with_table T R; group = [] }

  -- one select further in
  one_deeper : (inner : Frame) (es : List Expr) (us : List Value) → Every (IsOver 0 (length T)) es → values place_of_list (all es) ≡ Ok us
      → Have (record { env = []; args = args; frames = inner ∷ frame ∷ []; tables = with_table T R; group = [] }) (map (deeper 1) es) us
  one_deeper inner [] [] over h = tt
  one_deeper inner [] (u ∷ us) over h = absurd (no_values u us h)
  one_deeper inner (e ∷ es) us over h =
      let p = parted place_of_list e es us h in
      subst (Have (record { env = []; args = args; frames = inner ∷ frame ∷ []; tables = with_table T R; group = [] }) (map (deeper 1) (e ∷ es))) (sym p.is) (
        (deeper_same [] args (frame ∷ []) (inner ∷ []) T (with_table T R) (within 0 (length T)) (stands_with 0) e over.0.reads).1 [] [] (record { size = refl; alone = λ z. refl }) ∙ p.gives,
        one_deeper inner es p.others over.1 p.rest,
      )

  -- and more selects
  more_deeper : (outer extra : List Frame) (es : List Expr) (us : List Value)
      → Have (record { env = []; args = args; frames = outer; tables = with_table T R; group = [] }) es us
      → Have (record { env = []; args = args; frames = extra ++ outer; tables = with_table T R; group = [] }) (map (deeper (length extra)) es) us
  more_deeper outer extra [] [] h = tt
  more_deeper outer extra (e ∷ es) (u ∷ us) h = (
    (deeper_same [] args outer extra (with_table T R) (with_table T R) any_read (λ k low. refl) e (all_read (reads e))).1 [] [] (record { size = refl; alone = λ z. refl }) ∙ h.0,
    more_deeper outer extra es us h.1,
  )
  more_deeper outer extra [] (u ∷ us) h = absurd h
  more_deeper outer extra (e ∷ es) [] h = absurd h

  have_deeper : (l : List Frame) (d : ℕ) → length l ≡ d → (row : List Value) (es : List Expr) (us : List Value) → Every (IsOver 0 (length T)) es
      → values place_of_list (all es) ≡ Ok us
      → Have (further_in l row) (at_depth d (map (deeper 1) es)) us
  have_deeper [] zero size row es us over h = one_deeper (row ∷ []) es us over h
  have_deeper [] (suc d) size row es us over h = absurd (omega (arith, size))
  have_deeper (f ∷ l) zero size row es us over h = absurd (omega (arith, size))
  have_deeper (f ∷ l) (suc d) size row es us over h =
      let p = last_of f l in
      let long : length ((row ∷ []) ∷ p.0) ≡ suc d = ap suc (sym p.3 ∙ (let e = size in omega (arith, e))) in
      let whole : (row ∷ []) ∷ ((f ∷ l) ++ frame ∷ []) ≡ ((row ∷ []) ∷ p.0) ++ (p.1 ∷ frame ∷ []) = ap (λ (fs : List Frame). (row ∷ []) ∷ fs) (ap (λ (fs : List Frame). fs ++ frame ∷ []) p.2 ∙ regrouped p.0 p.1 frame) in
      subst (λ (fs : List Frame). Have (record { env = []; args = args; frames = fs; tables = with_table T R; group = [] }) (map (deeper (suc d)) (map (deeper 1) es)) us) (sym whole)
      (subst (λ n. Have (record { env = []; args = args; frames = ((row ∷ []) ∷ p.0) ++ (p.1 ∷ frame ∷ []); tables = with_table T R; group = [] }) (map (deeper n) (map (deeper 1) es)) us) long
      (more_deeper (p.1 ∷ frame ∷ []) ((row ∷ []) ∷ p.0) (map (deeper 1) es) us (one_deeper p.1 es us over h)))

module _ (T : List Rows) (from : FromItem) (from_rows : IsTable from (length T)) (R : Rows) (args : List Value) (columns : ℕ) (q : CallingSelect) where
  abbrev before : Context
  before = outermost T args

  abbrev behind : Context
  behind = outermost (with_table T R) args

  abbrev arguments_of : ℕ → List Expr
  arguments_of i = get_or q.calls i []

  abbrev pub leaf : ℕ → ℕ → Expr
  leaf = call_leaf from columns (inner_calls q.calls)

  -- the first row of call i at its arguments at this frame has this result
  pub record Shown (frame : Frame) (i : ℕ) (v : Value) : Type 0 where
    pub found : List Value
    pub are : arguments_at (inside frame before) (arguments_of i) ≡ Ok found
    pub as_many : length (arguments_of i) ≡ length found
    pub first : first_result (result_place (length found) columns) (filter (is_row_of (suc i) found) R) ≡ v

  -- at this frame the slots have these values
  abbrev pub AllShown : Frame × List Value → Type 0
  AllShown p = (i : ℕ) → i < length q.calls → Shown p.0 i (at p.1 i)

  abbrev pub OverTables : Type 0
  OverTables = Every (λ (es : List Expr). Every (IsOver 0 (length T)) es) q.calls

  over_at : (calls : List (List Expr)) (i : ℕ) → Every (λ (es : List Expr). Every (IsOver 0 (length T)) es) calls
      → Every (IsOver 0 (length T)) (get_or calls i [])
  over_at [] i h = tt
  over_at (es ∷ calls) zero h = h.0
  over_at (es ∷ calls) (suc i) h = over_at calls i h.1

  length_map : {A B : Type 0} (f : A → B) (xs : List A) → length (map f xs) ≡ length xs
  length_map f [] = refl
  length_map f (x ∷ xs) = ap suc (length_map f xs)

  inner_at : (calls : List (List Expr)) (i : ℕ) → get_or (inner_calls calls) i [] ≡ map (deeper 1) (get_or calls i [])
  inner_at [] i = refl
  inner_at (es ∷ calls) zero = refl
  inner_at (es ∷ calls) (suc i) = inner_at calls i

  length_depth : (d : ℕ) (es : List Expr) → length (at_depth d es) ≡ length es
  length_depth zero es = refl
  length_depth (suc d) es = length_map (deeper (suc d)) es

  length_at : (d i : ℕ) → length (at_depth d (get_or (inner_calls q.calls) i [])) ≡ length (arguments_of i)
  length_at d i = length_depth d (get_or (inner_calls q.calls) i []) ∙ (ap length (inner_at q.calls i) ∙ length_map (deeper 1) (arguments_of i))

  module _ (frame : Frame) (vs : List Value) (over : OverTables) (shown : AllShown (frame, vs)) where
    abbrev ok : Read → Bool
    ok = within (length q.calls) (length T)

    abbrev one : same.Surroundings
    one = in_list T R args frame vs

    abbrev two : same.Surroundings
    two = in_written T R args frame

    -- a call's subquery, so many selects further in
    leaf_value : (d i : ℕ) → nat_lt i (length q.calls) ≡ true → (l g : List Frame) → same.Ready d l g → value (leaf d i) (same.there one two l g) ≡ Ok (at vs i)
    leaf_value d i low l g r =
        let s = shown i (ltb-true i (length q.calls) low) in
        let es : List Expr = at_depth d (get_or (inner_calls q.calls) i []) in
        let have : (row : List Value) → Have (inside (row ∷ []) (same.there one two l g)) es s.found
        = λ row. subst (λ fs. Have (inside (row ∷ []) (same.there one two l g)) (at_depth d fs) s.found) (sym (inner_at q.calls i))
        (have_deeper T R args frame l d r.size row (arguments_of i) s.found (over_at q.calls i over) s.are) in
        call_value (same.there one two l g) from (length T) columns (suc i) from_rows es s.found
        (have_at_rows (same.there one two l g) es s.found have (slice_index_or (with_table T R) (length T) []))
        ∙ ((λ t. Ok (first_result (result_place ((length_at d i ∙ s.as_many) t) columns) (filter (is_row_of (suc i) s.found) (last_table T R t))))
        ∙ ap Ok s.first)

    leaves : (d i : ℕ) → ok (Slot i) ≡ true → same.Same one two d (expr_meaning (ex.Slot i)) (expr_of meaning (leaf d i))
    leaves d i low = (refl, λ l g r. leaf_value d i low l g r)

    item_same : (i : Item) → IsOver (length q.calls) (length T) (out-Item i).expr
        → same.Same one two 0 (item_of meaning i) (item_of meaning (item_filled leaf i))
    item_same i h =
        moved_same one two ok leaf same_column leaves (λ d c. (refl, λ l g r. refl)) (λ j. refl) (stands_with T R args frame (length q.calls)) 0 (out-Item i).expr h.reads

    list_same : (items : List Item) → Every (λ (i : Item). IsOver (length q.calls) (length T) (out-Item i).expr) items
        → values (inside frame behind) (map (λ i. item_of meaning i) (map (item_filled leaf) items)) ≡ values (inside frame (with_slots vs before)) (map (λ i. item_of meaning i) items)
    list_same [] h = refl
    list_same (i ∷ items) h =
        (λ t. and_then ((item_same i h.0).1 [] [] (record { size = refl; alone = λ z. refl }) t) (λ v. mapped (λ ys. v ∷ ys) (list_same items h.1 t)))

  abbrev filled_list : List Item → List ExprMeaning
  filled_list items = map (λ i. item_of meaning i) (map (item_filled leaf) items)

  abbrev pub AreOver : List Item → Type 0
  AreOver items = Every (λ (i : Item). IsOver (length q.calls) (length T) (out-Item i).expr) items

  -- ---- no aggregate stands in the list: over no row each subquery is NULL

  module _ (nothing : Unit {0}) where
    abbrev one_empty : same.Surroundings
    one_empty = in_list T [] args [] []

    abbrev two_empty : same.Surroundings
    two_empty = in_written T [] args []

    empty_value : (d i : ℕ) (l g : List Frame) → value (leaf d i) (same.there one_empty two_empty l g) ≡ Ok (at [] i)
    empty_value d i l g =
        let es : List Expr = at_depth d (get_or (inner_calls q.calls) i []) in
        let cx : Context = same.there one_empty two_empty l g in
        call_value cx from (length T) columns (suc i) from_rows es [] (subst (HaveAtRows cx es []) (sym (last_table T [])) tt)
        ∙ (λ t. Ok (first_result (result_place (length es) columns) (filter (is_row_of (suc i) []) (last_table T [] t))))

    item_single : (i : Item) → IsOver (length q.calls) (length T) (out-Item i).expr → (item_of meaning (item_filled leaf i)).aggregates ≡ false
    item_single i h =
        (moved_same one_empty two_empty (within (length q.calls) (length T)) leaf same_column (λ d j low. (refl, λ l g r. empty_value d j l g)) (λ d c. (refl, λ l g r. refl))
        (λ j. refl) (stands_with T [] args [] (length q.calls)) 0 (out-Item i).expr h.reads).0
        ∙ h.single

    list_single : (items : List Item) → AreOver items → any_aggregates (filled_list items) ≡ false
    list_single [] h = refl
    list_single (i ∷ items) h = (λ t. item_single i h.0 t || list_single items h.1 t)

  -- ---- the whole

  abbrev s : Select
  s = q.select

  abbrev list_behind : List Frame → Or Rows
  list_behind frames = each (λ frame. values (inside frame behind) (filled_list (out-Select s).list)) frames

  list_pairs : OverTables → AreOver (out-Select s).list → (pairs : List (Frame × List Value)) → Every AllShown pairs
      → list_behind (map (λ (p : Frame × List Value). p.0) pairs) ≡ each (λ (p : Frame × List Value). values (inside p.0 (with_slots p.1 before)) (list_of s)) pairs
  list_pairs over items [] h = refl
  list_pairs over items (p ∷ pairs) h =
      (λ t. and_then (list_same p.0 p.1 over h.0 (out-Select s).list items t) (λ y. mapped (λ ys. y ∷ ys) (list_pairs over items pairs h.1 t)))

  abbrev ok_all : Read → Bool
  ok_all = within (length q.calls) (length T)

  abbrev IsOverAll : Type 0
  IsOverAll = list_all ok_all (select_of reading s 0) ≡ true

  select_reads_is : select_of reading s 0 ≡ of_list 1 (map (λ i. item_of reading i) (out-Select s).list) ++ (of_list 1 (map (λ f. from_of reading f) (out-Select s).from)
      ++ (of_option 1 (option_map (λ e. expr_of reading e) (out-Select s).filter) ++ (of_list 1 (map (λ k. key_of reading k) (out-Select s).order)
      ++ of_option 1 (option_map (λ e. expr_of reading e) (out-Select s).limit))))
  select_reads_is = ap (λ r. r 0) (eq.select_is reading s)

  abbrev then_rest : List Frame → Or Rows
  then_rest frames = and_then (listed behind (filled_list (out-Select s).list) (keys_of s) frames) (cut behind (limit_of s))

  filled_means : rows_of_select (filled_select from columns q) behind
      ≡ and_then (product behind (froms_of s) ([] ∷ [])) (λ frames. and_then (kept behind (filter_of s) frames) then_rest)
  filled_means =
      ap (λ m. m behind)
      (eq.of_select meaning (map (item_filled leaf) (out-Select s).list) (out-Select s).from (out-Select s).filter (out-Select s).order (out-Select s).limit)

  then_both : {A B C : Type 0} (x : Or A) (f : A → Or B) (g : B → Or C) → and_then x (λ a. and_then (f a) g) ≡ and_then (and_then x f) g
  then_both (Ok a) f g = refl
  then_both (Err c) f g = refl

  module _ (whole : IsOverAll) where
    abbrev all_reads : List Read
    all_reads = of_list 1 (map (λ i. item_of reading i) (out-Select s).list)

    behind_list : list_all ok_all (of_list 1 (map (λ f. from_of reading f) (out-Select s).from)
        ++ (of_option 1 (option_map (λ e. expr_of reading e) (out-Select s).filter) ++ (of_list 1 (map (λ k. key_of reading k) (out-Select s).order)
        ++ of_option 1 (option_map (λ e. expr_of reading e) (out-Select s).limit)))) ≡ true
    behind_list = right ok_all all_reads _ (subst (λ rs. list_all ok_all rs ≡ true) select_reads_is whole)

    over_from : list_all ok_all (of_list 1 (map (λ f. from_of reading f) (out-Select s).from)) ≡ true
    over_from = left ok_all (of_list 1 (map (λ f. from_of reading f) (out-Select s).from)) _ behind_list

    behind_from : list_all ok_all (of_option 1 (option_map (λ e. expr_of reading e) (out-Select s).filter) ++ (of_list 1 (map (λ k. key_of reading k) (out-Select s).order)
        ++ of_option 1 (option_map (λ e. expr_of reading e) (out-Select s).limit))) ≡ true
    behind_from = right ok_all (of_list 1 (map (λ f. from_of reading f) (out-Select s).from)) _ behind_list

    over_filter : list_all ok_all (of_option 1 (option_map (λ e. expr_of reading e) (out-Select s).filter)) ≡ true
    over_filter = left ok_all (of_option 1 (option_map (λ e. expr_of reading e) (out-Select s).filter)) _ behind_from

    behind_filter : list_all ok_all (of_list 1 (map (λ k. key_of reading k) (out-Select s).order) ++ of_option 1 (option_map (λ e. expr_of reading e) (out-Select s).limit)) ≡ true
    behind_filter = right ok_all (of_option 1 (option_map (λ e. expr_of reading e) (out-Select s).filter)) _ behind_from

    over_keys : list_all ok_all (of_list 1 (map (λ k. key_of reading k) (out-Select s).order)) ≡ true
    over_keys = left ok_all (of_list 1 (map (λ k. key_of reading k) (out-Select s).order)) _ behind_filter

    over_limit : list_all ok_all (of_option 1 (option_map (λ e. expr_of reading e) (out-Select s).limit)) ≡ true
    over_limit = right ok_all (of_list 1 (map (λ k. key_of reading k) (out-Select s).order)) _ behind_filter

    -- FROM and WHERE keep the same rows
    kept_means : rows_of_select (filled_select from columns q) behind ≡ and_then (kept_rows s before) then_rest
    kept_means =
        filled_means
        ∙ ((λ t. and_then (parts.product_same T R args (length q.calls) (out-Select s).from ([] ∷ []) over_from t)
        (λ frames. and_then (parts.kept_same T R args (length q.calls) (out-Select s).filter frames over_filter t) then_rest))
        ∙ then_both (product before (froms_of s) ([] ∷ [])) (kept before (filter_of s)) then_rest)

    abbrev frames_in : List (Frame × List Value) → List Frame
    frames_in pairs = map (λ (p : Frame × List Value). p.0) pairs

    rest_means : OverTables → AreOver (out-Select s).list → (pairs : List (Frame × List Value)) → Every AllShown pairs
        → then_rest (frames_in pairs) ≡ rest_of s before pairs
    rest_means over items pairs shown =
        ap (λ b. and_then (cond b (mapped (λ row. row ∷ []) (values (record behind { frames = [] ∷ []; group = frames_in pairs }) (filled_list (out-Select s).list)))
        (and_then (list_behind (frames_in pairs)) (ordered behind (keys_of s) (frames_in pairs)))) (cut behind (limit_of s)))
        (list_single tt (out-Select s).list items)
        ∙ (λ t. and_then (and_then (list_pairs over items pairs shown t) (λ rows. parts.ordered_same T R args (length q.calls) (out-Select s).order (frames_in pairs) rows over_keys t))
        (λ rows. parts.cut_same T R args (length q.calls) (out-Select s).limit rows over_limit t))

    -- The rows are those of the select where slots have these values at the rows that are kept.
    pub filled_rows : OverTables → AreOver (out-Select s).list → (pairs : List (Frame × List Value)) → kept_rows s before ≡ Ok (frames_in pairs)
        → Every AllShown pairs
        → rows_of_select (filled_select from columns q) behind ≡ rest_of s before pairs
    filled_rows over items pairs kept shown = kept_means ∙ (ap (λ o. and_then o then_rest) kept ∙ rest_means over items pairs shown)
