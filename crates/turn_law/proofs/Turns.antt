-- One turn over a row, by the plans of all labels: that of the row's label decides, and a finished row stays as it is.
use Rattle.std.proofs.Common.{◌≡◌, refl, ap, sym, ◌∙◌, subst, ℕ, zero, suc, ◌+◌, ◌<◌, ◌≤◌, Bool, true, false, not, ◌&&◌, ◌||◌, if◌then◌else◌, cond, nat_lt, pos, List, [], ◌∷◌, ◌++◌, map, length, slice_index_or, get_or, Some, Ok, Err, arith}
use Rattle.std.specs.Prelude.{slice_get}
use Rattle.std.proofs.lemmas.Bool.{le-ltb, lt-ltb, ltb-true, ltb-false}
use Rattle.std.proofs.lemmas.List.{append_assoc}
use Rattle.std.proofs.lemmas.Option.{same_Some}
use Rattle.away_trees.specs.declared.queries.Expr.{Expr}
use Rattle.away_trees.specs.declared.queries.Expr.TheVariants as expr
use Rattle.away_trees.proofs.Equations as eq
use Rattle.away_values.specs.declared.operators.CmpOp.TheVariants as cmp
use Rattle.away_values.specs.declared.types.Ty.{Ty}
use Rattle.away_values.specs.declared.values.Value.{Value}
use Rattle.away_values.specs.declared.values.Value.TheVariants as val
use Rattle.away_values.specs.Operators.{compare, is_true}
use Rattle.away_values.specs.Results.{Or, and_then, mapped}
use Rattle.sql_meaning.specs.Context.{Rows, Context, at, inside}
use Rattle.sql_meaning.specs.Meaning.{meaning}
use Rattle.sql_meaning.specs.Template.{count_from, below}
use Rattle.sql_meaning.specs.Trees.{col, number}
use Rattle.sql_meaning.proofs.RowPlaces.{at_append}
use Rattle.sql_meaning.proofs.SelectRows.{is_number, is_col, for_all}
use Rattle.block_forms.specs.declared.forms.Term.{Term}
use Rattle.call_forms.specs.Bodies.{body_of}
use Rattle.call_forms.specs.Forms.{params_of}
use Rattle.call_forms.specs.Scopes.{Scope, paired}
use Rattle.cte_law.proofs.Branches.{scope_at, visit_at}
use Rattle.cte_law.proofs.ScopesAlike.{paired_relates}
use Rattle.cte_law.proofs.WorkingRows.{call_row}
use Rattle.cte_law.proofs.Worlds.{World, OverTables}
use Rattle.turn_template.specs.TurnTemplate as turn
use Rattle.turn_template.specs.TurnTemplate.{Style, is_single, Ref, of_column, no_ref, Plan, all_cells, at_label, of_place, levels_of, last_level}
use Rattle.turn_law.proofs.Levels.{good, AtAll, Levels, AllSingle, levels_are, levels_single, levels_join, levels_fault, all_single}
use Rattle.turn_law.proofs.Terms.{Longer, as_long, longer_still, Holds, Hold, holds_still, none_holds, column_holds, IsTotal}
use Rattle.turn_law.proofs.Settled.{Guards}
use Rattle.turn_law.proofs.Choices.{choices_long}
use Rattle.turn_law.proofs.ReadSteps.{first_gives, first_single}
use Rattle.turn_law.proofs.RowCells.{row_of, work, work_long}
use Rattle.turn_law.proofs.PlannedRows.{On, stops, reaches, Off, chosen_first, chosen_second, chosen_off}
use Rattle.turn_law.proofs.Plans.{wide, plan_on, plan_off, cells_long}

-- ---- what tells a label

abbrev equal : ℕ → ℕ → Bool
equal a n = not (nat_lt a n) && not (nat_lt n a)

test_is : (a n : ℕ) → is_true (compare cmp.Eq (val.Int (pos a)) (val.Int (pos n))) ≡ equal a n
test_is a n = by (equal a n)
  where
    by : (b : Bool) → is_true (val.Bool b) ≡ b
    by true = refl
    by false = refl

-- the row's flag, or its number
abbrev told : Style → Bool → ℕ → ℕ → Value
told style go a n = if style.alone then val.Bool go else compare cmp.Eq (val.Int (pos a)) (val.Int (pos n))

abbrev is_told : Style → Bool → ℕ → ℕ → Bool
is_told style go a n = if style.alone then go else equal a n

told_is : (style : Style) (go : Bool) (a n : ℕ) → is_true (told style go a n) ≡ is_told style go a n
told_is style go a n = by (style.alone) go
  where
    by : (b go : Bool) → is_true (if b then val.Bool go else compare cmp.Eq (val.Int (pos a)) (val.Int (pos n))) ≡ (if b then go else equal a n)
    by true true = refl
    by true false = refl
    by false go = test_is a n

same_label : (a n : ℕ) → a ≡ n → equal a n ≡ true
same_label a n h = λ i. not (le-ltb a n (omega (arith, h)) i) && not (le-ltb n a (omega (arith, h)) i)

less_label : (a n : ℕ) → a < n → equal a n ≡ false
less_label a n h = ap (λ b. not b && not (nat_lt n a)) (lt-ltb a n h)

greater_label : (a n : ℕ) → n < a → equal a n ≡ false
greater_label a n h = λ i. not (le-ltb a n (omega (arith, h)) i) && not (lt-ltb n a h i)

-- nothing tells the label of a finished row
over_told : (style : Style) (a n : ℕ) → (style.alone ≡ false → a ≡ 0) → is_told style false a (suc n) ≡ false
over_told style a n zero_ = by (style.alone) refl
  where
    by : (b : Bool) → style.alone ≡ b → (if b then false else equal a (suc n)) ≡ false
    by true e = refl
    by false e = less_label a (suc n) (omega (arith, zero_ e))

by_number : (style : Style) (go : Bool) (a n : ℕ) (b : Bool) → style.alone ≡ false → equal a n ≡ b → is_told style go a n ≡ b
by_number style go a n b apart h = ap (λ x. if x then go else equal a n) apart ∙ h

-- ---- rows of a working table

-- the first places of a longer row
moved : (x : Value) (xs : List Value) (k n : ℕ) → map (λ i. at (x ∷ xs) i) (count_from (suc k) n) ≡ map (λ i. at xs i) (count_from k n)
moved x xs k zero = refl
moved x xs k (suc n) = ap (λ ys. at xs k ∷ ys) (moved x xs (suc k) n)

read_first : (xs more_ : List Value) → map (λ i. at (xs ++ more_) i) (below (length xs)) ≡ xs
read_first [] more_ = refl
read_first (x ∷ xs) more_ = ap (λ ys. x ∷ ys) (moved x (xs ++ more_) 0 (length xs) ∙ read_first xs more_)

beyond : (row : List Value) (i : ℕ) → length row ≤ i → at row i ≡ val.Null
beyond [] i h = refl
beyond (x ∷ row) zero h = absurd (omega (arith, h))
beyond (x ∷ row) (suc i) h = beyond row i (omega (arith, h))

counted : (k n : ℕ) → length (map (col 0 0) (count_from k n)) ≡ n
counted k zero = refl
counted k (suc n) = ap suc (counted (suc k) n)

module _ (w : World) (ok : OverTables w) (T : List Rows)
    (sees : (k : ℕ) → nat_lt k (length w.tables) ≡ true → slice_index_or T k [] ≡ slice_index_or w.tables k [])
    (total : Term → Bool) (totals : (u : Term) → total u ≡ true → IsTotal w u) (style : Style) (alike : (x y : Expr) → style.same x y ≡ true → x ≡ y) where
  abbrev pub plans : ℕ → ℕ → List ℕ → Plan
  plans m n bs = turn.plans w.table w.types w.result total style w.anf w.tail w.goto.entry m n bs

  abbrev plan_at : ℕ → ℕ → ℕ → Plan
  plan_at m n b = turn.plan_of w.table w.types w.result total style w.anf w.tail w.goto.entry m n b

  abbrev label_test : ℕ → Expr
  label_test n = at_label w.table w.types w.tail.columns w.result total style n

  abbrev pub wide_ : ℕ
  wide_ = wide w ok T sees total totals style alike

  -- ---- a row and each longer one

  module _ (go : Bool) (a : ℕ) (row : List Value) (v c : Value) (long : length row ≡ length w.tail.columns) where
    abbrev r : List Value
    r = work go a row v c

    flag_is : (y : List Value) → Longer r y → at y 0 ≡ val.Bool go
    flag_is y h = ap (λ z. at z 0) h.is

    label_is : (y : List Value) → Longer r y → at y 1 ≡ val.Int (pos a)
    label_is y h = ap (λ z. at z 1) h.is

    flag_guards : (y : List Value) → Longer r y → Guards T (col 0 0 0) y (val.Bool go)
    flag_guards y h = record {
      single = (is_col (inside [] (record { env = []; args = []; frames = []; tables = []; group = [] })) 0 0 0).single;
      gives = λ z l cx t. (is_col (inside (z ∷ []) cx) 0 0 0).gives ∙ ap (λ x. Ok x) (flag_is z (longer_still r y z h l));
    }

    number_guards : (n : ℕ) (y : List Value) → Longer r y
        → Guards T (expr.Compare cmp.Eq (col 0 0 1) (number (pos n))) y (compare cmp.Eq (val.Int (pos a)) (val.Int (pos n)))
    number_guards n y h = record {
      single =
          let here : Context = inside [] (record { env = []; args = []; frames = []; tables = []; group = [] }) in
          ap (λ x. x.aggregates) (eq.of_compare meaning cmp.Eq (col 0 0 1) (number (pos n)))
          ∙ (λ i. (is_col here 0 0 1).single i || (is_number here (pos n)).single i);
      gives = λ z l cx t.
          let here : Context = inside (z ∷ []) cx in
          ap (λ x. x.value here) (eq.of_compare meaning cmp.Eq (col 0 0 1) (number (pos n)))
          ∙ ((λ i. and_then ((is_col here 0 0 1).gives i) (λ v. mapped (compare cmp.Eq v) ((is_number here (pos n)).gives i)))
          ∙ ap (λ x. Ok (compare cmp.Eq x (val.Int (pos n)))) (label_is z (longer_still r y z h l)));
    }

    label_guards : (n : ℕ) (y : List Value) → Longer r y → Guards T (label_test n) y (told style go a n)
    label_guards n y h = by (style.alone) (flag_guards y h) (number_guards n y h)
      where
        by : (b : Bool) → Guards T (col 0 0 0) y (val.Bool go)
            → Guards T (expr.Compare cmp.Eq (col 0 0 1) (number (pos n))) y (compare cmp.Eq (val.Int (pos a)) (val.Int (pos n)))
            → Guards T (if b then col 0 0 0 else expr.Compare cmp.Eq (col 0 0 1) (number (pos n))) y
            (if b then val.Bool go else compare cmp.Eq (val.Int (pos a)) (val.Int (pos n)))
        by true p q = p
        by false p q = q

    place_there : (place : ℕ) → place < length w.tail.columns → (more_ : List Value) → at (r ++ more_) (suc (suc place)) ≡ at row place
    place_there place h more_ =
        ap (λ z. at z place) (append_assoc row (v ∷ c ∷ []) more_)
        ∙ at_append row ((v ∷ c ∷ []) ++ more_) place (lt-ltb place (length row) (omega (arith, h, long)))

    place_by : (b : Bool) (place : ℕ) → nat_lt place (length w.tail.columns) ≡ b → Holds T (cond b (of_column (suc (suc place))) no_ref) r (at row place)
    place_by true place h = column_holds T r (suc (suc place)) (at row place) (place_there place (ltb-true place (length w.tail.columns) h))
    place_by false place h =
        subst (λ z. Holds T no_ref r z) (sym (beyond row place (omega (arith, long, ltb-false place (length w.tail.columns) h)))) (none_holds T r)

    place_holds : (place : ℕ) → Holds T (of_place w.table w.types w.tail.columns w.result total style place) r (at row place)
    place_holds place = place_by (nat_lt place (length w.tail.columns)) place refl

    abbrev refs_at : ℕ → ℕ → Scope Ref
    refs_at n b =
        paired (of_place w.table w.types w.tail.columns w.result total style) no_ref (params_of (slice_get w.anf.blocks b)) (get_or w.tail.places n [])

    scope_holds : (n b : ℕ) (y : List Value) → Longer r y → Hold T (refs_at n b) y (scope_at w n b row)
    scope_holds n b y h k =
        paired_relates (λ x v. Holds T x y v) (of_place w.table w.types w.tail.columns w.result total style) (λ place. at row place) no_ref val.Null
        (λ place. holds_still T (of_place w.table w.types w.tail.columns w.result total style place) r y (at row place) h (place_holds place)) (none_holds T y)
        (params_of (slice_get w.anf.blocks b)) (get_or w.tail.places n []) k

    -- the row as it is
    kept : (y : List Value) → Longer r y → AtAll T (all_cells wide_) y (Ok r)
    kept y h cx t =
        (for_all (inside (y ∷ []) cx) (col 0 0) (λ i. at y i) (below wide_) (λ i. is_col (inside (y ∷ []) cx) 0 0 i)).gives
        ∙ ap Ok (ap (λ z. map (λ i. at z i) (below wide_)) h.is
        ∙ (ap (λ k. map (λ i. at (r ++ h.more) i) (below k)) (sym (work_long go a row v c (length w.tail.columns) long)) ∙ read_first r h.more))

    none_on : (m : ℕ) (y : List Value) → Longer r y → length y ≡ m → On T (record { steps = []; cells = all_cells wide_ }) y (Ok r)
    none_on m y h size =
        reaches (record { row = y; longer = as_long y; long = omega arith; steps = refl; cells = λ z l. kept z (longer_still r y z h l) })

    cells_none : length (all_cells wide_) ≡ wide_
    cells_none = counted 0 wide_

    plans_long : (m n : ℕ) (bs : List ℕ) → length (plans m n bs).cells ≡ wide_
    plans_long m n [] = cells_none
    plans_long m n (b ∷ bs) =
        choices_long style.same alike (label_test (suc n)) wide_ (plan_at m n b).cells (plans (length (plan_at m n b).steps + m) (suc n) bs).cells
        (cells_long w ok T sees total totals style alike (body_of w.anf w.tail b) m (label_test (suc n)) (refs_at n b))
        (plans_long (length (plan_at m n b).steps + m) (suc n) bs)

    one_off : (m n b : ℕ) (y : List Value) → Longer r y → length y ≡ m → is_told style go a (suc n) ≡ false → Off T (plan_at m n b) y
    one_off m n b y h size other =
        plan_off w ok T sees total totals style alike (body_of w.anf w.tail b) m y size (label_test (suc n)) _ (label_guards (suc n) y h)
        (told_is style go a (suc n) ∙ other)
        (refs_at n b) (scope_at w n b row) (scope_holds n b y h)

    -- no label from n on is told by the row
    abbrev Others : ℕ → List ℕ → Type 0
    Others n [] = Unit {0}
    Others n (b ∷ bs) = (is_told style go a (suc n) ≡ false) × Others (suc n) bs

    plans_off : (n : ℕ) (bs : List ℕ) → Others n bs → (m : ℕ) (y : List Value) → Longer r y → length y ≡ m → Off T (plans m n bs) y
    plans_off n [] o m y h size = record {
      row = y;
      longer = as_long y;
      long = omega arith;
      steps = refl;
      single_steps = refl;
      single_cells =
          let here : Context = inside (y ∷ []) (record { env = []; args = []; frames = []; tables = T; group = [] }) in
          (for_all here (col 0 0) (λ i. at y i) (below wide_) (λ i. is_col here 0 0 i)).single;
    }
    plans_off n (b ∷ bs) o m y h size =
        let idle = one_off m n b y h size o.0 in
        chosen_off style.same alike T (label_test (suc n)) y (label_guards (suc n) y h).single (plan_at m n b)
        (plans (length (plan_at m n b).steps + m) (suc n) bs) idle
        (plans_off (suc n) bs o.1 (length (plan_at m n b).steps + m) idle.row (longer_still r y idle.row h idle.longer) (omega (arith, idle.long, size)))

    -- then it stays
    plans_kept : (n : ℕ) (bs : List ℕ) → Others n bs → (m : ℕ) (y : List Value) → Longer r y → length y ≡ m → On T (plans m n bs) y (Ok r)
    plans_kept n [] o m y h size = none_on m y h size
    plans_kept n (b ∷ bs) o m y h size =
        let idle = one_off m n b y h size o.0 in
        let q : Plan = plans (length (plan_at m n b).steps + m) (suc n) bs in
        chosen_second style.same alike T (label_test (suc n)) _ y (label_guards (suc n) y h) (told_is style go a (suc n) ∙ o.0) (plan_at m n b) q (Ok r)
        (cells_long w ok T sees total totals style alike (body_of w.anf w.tail b) m (label_test (suc n)) (refs_at n b)
        ∙ sym (plans_long (length (plan_at m n b).steps + m) (suc n) bs)) idle
        (plans_kept (suc n) bs o.1 (length (plan_at m n b).steps + m) idle.row (longer_still r y idle.row h idle.longer) (omega (arith, idle.long, size)))

  -- a finished row
  over_others : (a : ℕ) (row : List Value) (v c : Value) (long : length row ≡ length w.tail.columns) → (style.alone ≡ false → a ≡ 0) → (n : ℕ) (bs : List ℕ)
      → Others false a row v c long n bs
  over_others a row v c long zero_ n [] = tt
  over_others a row v c long zero_ n (b ∷ bs) = (over_told style a n zero_, over_others a row v c long zero_ (suc n) bs)

  -- ---- a row that goes on

  module _ (a : ℕ) (row : List Value) (long : length row ≡ length w.tail.columns) where
    abbrev called : List Value
    called = work true a row val.Null val.Null

    abbrev None_of : ℕ → List ℕ → Type 0
    None_of n bs = Others true a row val.Null val.Null long n bs

    abbrev guards_of : (n : ℕ) (y : List Value) → Longer called y → Guards T (label_test n) y (told style true a n)
    guards_of n y h = label_guards true a row val.Null val.Null long n y h

    -- where the first label is told by the row, and no other
    first_on : (n x : ℕ) (bs : List ℕ) → is_told style true a (suc n) ≡ true → None_of (suc n) bs → (m : ℕ) (y : List Value) → Longer called y → length y ≡ m
        → On T (plans m n (x ∷ bs)) y (row_of style a row (visit_at w n x row))
    first_on n x bs is others m y h size =
        let rest : Plan = plans (length (plan_at m n x).steps + m) (suc n) bs in
        let refs = refs_at true a row val.Null val.Null long n x in
        let holds = scope_holds true a row val.Null val.Null long n x y h in
        let yes_ : is_true (told style true a (suc n)) ≡ true = told_is style true a (suc n) ∙ is in
        chosen_first style.same alike T (label_test (suc n)) _ y (guards_of (suc n) y h) yes_ (plan_at m n x) rest (row_of style a row (visit_at w n x row))
        (cells_long w ok T sees total totals style alike (body_of w.anf w.tail x) m (label_test (suc n)) refs
        ∙ sym (plans_long true a row val.Null val.Null long (length (plan_at m n x).steps + m) (suc n) bs))
        (plan_on w ok T sees total totals style alike a row long (body_of w.anf w.tail x) m y size h (label_test (suc n)) _ (guards_of (suc n) y h) yes_ refs
        (scope_at w n x row) holds)
        (λ z k i. plans_off true a row val.Null val.Null long (suc n) bs others (length (plan_at m n x).steps + m) z (longer_still called y z h k)
        (omega (arith, i, size)))

    less_others : style.alone ≡ false → (n : ℕ) (bs : List ℕ) → a < suc n → None_of n bs
    less_others apart n [] h = tt
    less_others apart n (b ∷ bs) h =
        (by_number style true a (suc n) false apart (less_label a (suc n) h), less_others apart (suc n) bs (omega (arith, h)))

    -- its own label decides
    plans_found : style.alone ≡ false → (i n : ℕ) (bs : List ℕ) (b l : ℕ) → a ≡ suc l → l ≡ n + i → slice_get bs i ≡ Some b
        → (m : ℕ) (y : List Value) → Longer called y → length y ≡ m → On T (plans m n bs) y (row_of style a row (visit_at w l b row))
    plans_found apart i n [] b l p q found m y h size = absurd (cc)
    plans_found apart zero n (x ∷ bs) b l p q found m y h size =
        let is_n : n ≡ l = omega (arith, q) in
        subst (λ z. On T (plans m n (x ∷ bs)) y (row_of style a row (visit_at w z b row))) is_n
        (subst (λ z. On T (plans m n (x ∷ bs)) y (row_of style a row (visit_at w n z row))) (same_Some x b found)
        (first_on n x bs (by_number style true a (suc n) true apart (same_label a (suc n) (omega (arith, p, q))))
        (less_others apart (suc n) bs (omega (arith, p, q))) m y h size))
    plans_found apart (suc i) n (x ∷ bs) b l p q found m y h size =
        let other = by_number style true a (suc n) false apart (greater_label a (suc n) (omega (arith, p, q))) in
        let idle = one_off true a row val.Null val.Null long m n x y h size other in
        let rest : Plan = plans (length (plan_at m n x).steps + m) (suc n) bs in
        chosen_second style.same alike T (label_test (suc n)) _ y (guards_of (suc n) y h) (told_is style true a (suc n) ∙ other) (plan_at m n x) rest
        (row_of style a row (visit_at w l b row))
        (cells_long w ok T sees total totals style alike (body_of w.anf w.tail x) m (label_test (suc n)) (refs_at true a row val.Null val.Null long n x)
        ∙ sym (plans_long true a row val.Null val.Null long (length (plan_at m n x).steps + m) (suc n) bs)) idle
        (plans_found apart i (suc n) bs b l p (omega (arith, q)) found (length (plan_at m n x).steps + m) idle.row
        (longer_still called y idle.row h idle.longer) (omega (arith, idle.long, size)))

    -- one label alone
    alone_found : style.alone ≡ true → (bs : List ℕ) → is_single bs ≡ true → (i n b l : ℕ) → l ≡ n + i → slice_get bs i ≡ Some b
        → (m : ℕ) (y : List Value) → Longer called y → length y ≡ m → On T (plans m n bs) y (row_of style a row (visit_at w l b row))
    alone_found one [] single i n b l q found m y h size = absurd (cc)
    alone_found one (x ∷ []) single zero n b l q found m y h size =
        let is_n : n ≡ l = omega (arith, q) in
        subst (λ z. On T (plans m n (x ∷ [])) y (row_of style a row (visit_at w z b row))) is_n
        (subst (λ z. On T (plans m n (x ∷ [])) y (row_of style a row (visit_at w n z row))) (same_Some x b found)
        (first_on n x [] (ap (λ o. if o then true else equal a (suc n)) one) tt m y h size))
    alone_found one (x ∷ []) single (suc i) n b l q found m y h size = absurd (cc)
    alone_found one (x ∷ z ∷ bs) single i n b l q found m y h size = absurd (cc)

    pub found_on : (n : ℕ) (bs : List ℕ) → (style.alone ≡ true → is_single bs ≡ true) → (i b l : ℕ) → a ≡ suc l → l ≡ n + i → slice_get bs i ≡ Some b
        → (m : ℕ) (y : List Value) → Longer called y → length y ≡ m → On T (plans m n bs) y (row_of style a row (visit_at w l b row))
    found_on n bs single i b l p q found m y h size = by (style.alone) refl
      where
        by : (o : Bool) → style.alone ≡ o → On T (plans m n bs) y (row_of style a row (visit_at w l b row))
        by true e = alone_found e bs (single e) i n b l q found m y h size
        by false e = plans_found e i n bs b l p q found m y h size

  -- ---- one turn

  abbrev whole : ℕ → List ℕ → Plan
  whole n bs = plans wide_ n bs

  abbrev pub one_turn : ℕ → List ℕ → List (List Expr)
  one_turn n bs = turn.turn_levels w.table w.types w.result total style w.anf w.tail w.goto.entry n bs

  cells_level : (es : List Expr) (r : List Value) (o : Or (List Value)) → AtAll T es r o → Levels T (es ∷ []) r o
  cells_level es r (Ok z) h = record { answer = Ok z; gives = h; more = refl }
  cells_level es r (Err c) h = record { answer = Err c; gives = h; more = refl }

  levels_on : (p : Plan) (r : List Value) (o : Or (List Value)) → length r ≡ wide_ → On T p r o
      → Levels T (levels_of wide_ p.steps ++ last_level wide_ p ∷ []) r o
  levels_on p r o long (stops c e h) =
      subst (λ z. Levels T (levels_of wide_ p.steps ++ last_level wide_ p ∷ []) r z) (sym e)
      (levels_fault T (levels_of wide_ p.steps) (last_level wide_ p ∷ []) r c (levels_are T wide_ p.steps r (Err c) long h))
  levels_on p r o long (reaches h) =
      levels_join T (levels_of wide_ p.steps) (last_level wide_ p ∷ []) r h.row o (levels_are T wide_ p.steps r (Ok h.row) long h.steps)
      (cells_level (last_level wide_ p) h.row o
      (first_gives T (count_from wide_ (length p.steps)) p.cells h.row o (h.cells h.row (as_long h.row))))

  -- a finished row stays
  pub over_turn : (n : ℕ) (bs : List ℕ) (a : ℕ) (row : List Value) (v c : Value) → length row ≡ length w.tail.columns → (style.alone ≡ false → a ≡ 0)
      → Levels T (one_turn n bs) (work false a row v c) (good (work false a row v c))
  over_turn n bs a row v c long zero_ =
      let r = work false a row v c in
      let size = work_long false a row v c (length w.tail.columns) long in
      levels_on (whole n bs) r (good r) size (plans_kept false a row v c long n bs (over_others a row v c long zero_ n bs) wide_ r (as_long r) size)

  -- the row of a call, by its label
  pub found_turn : (n : ℕ) (bs : List ℕ) → (style.alone ≡ true → is_single bs ≡ true) → (i : ℕ) (row : List Value) → length row ≡ length w.tail.columns
      → (j b : ℕ) → i ≡ n + j → slice_get bs j ≡ Some b → Levels T (one_turn n bs) (call_row [] i row) (row_of style (suc i) row (visit_at w i b row))
  found_turn n bs single i row long j b p found =
      let r = call_row [] i row in
      let size = work_long true (suc i) row val.Null val.Null (length w.tail.columns) long in
      levels_on (whole n bs) r (row_of style (suc i) row (visit_at w i b row)) size
      (found_on (suc i) row long n bs single j b i refl p found wide_ r (as_long r) size)

  nulls_width : (ts : List Ty) → length (map (λ t. val.Null) ts) ≡ length ts
  nulls_width [] = refl
  nulls_width (t ∷ ts) = ap suc (nulls_width ts)

  -- no aggregates
  pub turn_single : (n : ℕ) (bs : List ℕ) → AllSingle (one_turn n bs)
  turn_single n bs =
      let blanks : List Value = map (λ t. val.Null) w.tail.columns in
      let long = nulls_width w.tail.columns in
      let r = work false 0 blanks val.Null val.Null in
      let off =
      plans_off false 0 blanks val.Null val.Null long n bs (over_others 0 blanks val.Null val.Null long (λ h. refl) n bs) wide_ r (as_long r)
      (work_long false 0 blanks val.Null val.Null (length w.tail.columns) long) in
      all_single T (levels_of wide_ (whole n bs).steps) (last_level wide_ (whole n bs) ∷ []) (levels_single T wide_ (whole n bs).steps off.single_steps)
      (first_single (count_from wide_ (length (whole n bs).steps)) (whole n bs).cells off.single_cells, tt)
