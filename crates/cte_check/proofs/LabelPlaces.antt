-- The places of labels, and of a label's parameters.
use Rattle.std.proofs.Common.{◌≡◌, ℕ, zero, suc, ◌+◌, ◌<◌, ◌≤◌, Bool, true, false, not, cond, nat_eq, List, [], ◌∷◌, ◌++◌, length, get_or, set, slice_get, drop, Option, Some, None, refl, sym, ap, ◌∙◌, arith}
use Rattle.std.specs.Option.{is_some}
use Rattle.std.proofs.lemmas.Bool.{eqb-true, eqb-false}
use Rattle.std.proofs.lemmas.Option.{same_Some}
use lib.Dec.{eqb-zero-suc, eqb-suc-zero, eqb-suc-suc}
use Rattle.block_forms.specs.Places.{Each}
use Rattle.call_forms.specs.Called.{Among}
use Rattle.call_forms.specs.Forms.{place_from}
use Rattle.cte_reads.proofs.ListPlaces.{drop_from, drop_past}
use Rattle.cte_check.specs.Labels.{row_ref, label_refs, first_label, marked}

-- ---- what is no label

pub not_placed : (m n b : ℕ) (xs : List ℕ) → Each (λ x. suc x ≤ m) xs → m ≤ b → place_from n xs b ≡ None
not_placed m n b [] each le = refl
not_placed m n b (x ∷ xs) each le = by (nat_eq x b) refl (not_placed m (suc n) b xs (λ i y e. each (suc i) y e) le)
  where
    by : (t : Bool) → nat_eq x b ≡ t → place_from (suc n) xs b ≡ None → cond t (Some n) (place_from (suc n) xs b) ≡ None
    by true same rest = absurd (omega (arith, each 0 x refl, eqb-true x b same, le))
    by false same rest = rest

none_at : (n b : ℕ) (xs : List ℕ) (i : ℕ) → place_from n xs b ≡ None → slice_get xs i ≡ Some b → ⊥
none_at n b [] i e there = absurd (cc)
none_at n b (x ∷ xs) zero e there = by (nat_eq x b) refl e
  where
    by : (t : Bool) → nat_eq x b ≡ t → cond t (Some n) (place_from (suc n) xs b) ≡ None → ⊥
    by true same e = absurd (cc)
    by false same e = eqb-false x b same (same_Some x b there)
none_at n b (x ∷ xs) (suc i) e there = by (nat_eq x b) e (λ e. none_at (suc n) b xs i e there)
  where
    by : (t : Bool) → cond t (Some n) (place_from (suc n) xs b) ≡ None → (place_from (suc n) xs b ≡ None → ⊥) → ⊥
    by true e further = absurd (cc)
    by false e further = further e

pub not_among : (n b : ℕ) (xs : List ℕ) → place_from n xs b ≡ None → Among xs b → ⊥
not_among n b xs e a = none_at n b xs a.place e a.there

abbrev Found : List ℕ → ℕ → ℕ → ℕ → Type 0
Found xs n b k = (i : ℕ) × ((n + i ≡ k) × (slice_get xs i ≡ Some b))

found : (n b k : ℕ) (xs : List ℕ) → place_from n xs b ≡ Some k → Found xs n b k
found n b k [] e = absurd (cc)
found n b k (x ∷ xs) e = by (nat_eq x b) refl e (found (suc n) b k xs)
  where
    by : (t : Bool) → nat_eq x b ≡ t → cond t (Some n) (place_from (suc n) xs b) ≡ Some k → (place_from (suc n) xs b ≡ Some k → Found xs (suc n) b k)
        → Found (x ∷ xs) n b k
    by true same e further = (0, (let q : n ≡ k = same_Some n k e in omega (arith, q), ap Some (eqb-true x b same)))
    by false same e further = let rest = further e in (suc rest.0, (omega (arith, rest.1.0), rest.1.1))

pub among : (b k : ℕ) (xs : List ℕ) → place_from 0 xs b ≡ Some k → Among xs b
among b k xs e = let f = found 0 b k xs e in record { place = f.0; there = f.1.1 }

-- ---- a table with one more label

pub marked_past : (xs : List (Option ℕ)) (block label : ℕ) → length xs ≤ block → marked xs block label ≡ xs
marked_past [] block label le = refl
marked_past (x ∷ xs) zero label le = absurd (omega arith)
marked_past (x ∷ xs) (suc block) label le = ap (λ l. x ∷ l) (marked_past xs block label (omega arith))

pub marked_already : (xs : List (Option ℕ)) (block label k : ℕ) → block < length xs → get_or xs block None ≡ Some k → marked xs block label ≡ xs
marked_already [] block label k lt e = absurd (omega arith)
marked_already (x ∷ xs) zero label k lt e = ap (λ l. l ∷ xs) (ap (λ o. first_label o (Some label)) e ∙ sym e)
marked_already (x ∷ xs) (suc block) label k lt e = ap (λ l. x ∷ l) (marked_already xs block label k (omega arith) e)

pub marked_now : (xs : List (Option ℕ)) (block label : ℕ) → block < length xs → get_or xs block None ≡ None → marked xs block label
    ≡ set xs block (Some label)
marked_now [] block label lt e = absurd (omega arith)
marked_now (x ∷ xs) zero label lt e = ap (λ o. first_label o (Some label) ∷ xs) e
marked_now (x ∷ xs) (suc block) label lt e = ap (λ l. x ∷ l) (marked_now xs block label (omega arith) e)

pub marked_as_many : (xs : List (Option ℕ)) (block label : ℕ) → length (marked xs block label) ≡ length xs
marked_as_many [] block label = refl
marked_as_many (x ∷ xs) zero label = refl
marked_as_many (x ∷ xs) (suc block) label = ap suc (marked_as_many xs block label)

none_of : (o : Option ℕ) (r : Bool) → is_some o ≡ not r → r ≡ true → o ≡ None
none_of None r e is_true = refl
none_of (Some k) true e is_true = absurd (cc)
none_of (Some k) false e is_true = absurd (cc)

pub none_there : (xs ys : List (Option ℕ)) (block : ℕ) (r : Bool) → ys ≡ xs → is_some (get_or ys block None) ≡ not r → r ≡ true
    → get_or xs block None ≡ None
none_there xs ys block r same e is_true = ap (λ l. get_or l block None) (sym same) ∙ none_of (get_or ys block None) r e is_true

pub one_there : (xs ys : List (Option ℕ)) (block label : ℕ) (r : Bool) → ys ≡ xs → is_some (get_or ys block None) ≡ not r → r ≡ false
    → block < length xs → marked xs block label ≡ xs
one_there xs ys block label r same e is_false lt = by (get_or xs block None) refl
  where
    by : (o : Option ℕ) → get_or xs block None ≡ o → marked xs block label ≡ xs
    by None is = absurd (let q : false ≡ true = ap is_some (sym is) ∙ (ap (λ l. is_some (get_or l block None)) (sym same) ∙ (e ∙ ap not is_false)) in cc)
    by (Some k) is = marked_already xs block label k lt is

-- ---- a table without labels

pub no_label : (table : List (Option ℕ)) (b : ℕ) (label : Option ℕ) → table ≡ [] → slice_get table b ≡ Some label → label ≡ None
no_label [] b label e there = absurd (cc)
no_label (x ∷ xs) b label e there = absurd (cc)

at_end : (xs : List (Option ℕ)) → ((b : ℕ) (label : Option ℕ) → slice_get xs b ≡ Some label → label ≡ None) → (b : ℕ) (label : Option ℕ)
    → slice_get (xs ++ (None ∷ [])) b ≡ Some label → label ≡ None
at_end [] none zero label e = sym (same_Some None label e)
at_end [] none (suc b) label e = absurd (cc)
at_end (x ∷ xs) none zero label e = none zero label e
at_end (x ∷ xs) none (suc b) label e = at_end xs (λ i l there. none (suc i) l there) b label e

pub only_none : (xs ys : List (Option ℕ)) → ys ≡ xs ++ (None ∷ []) → ((b : ℕ) (label : Option ℕ) → slice_get xs b ≡ Some label → label ≡ None)
    → (b : ℕ) (label : Option ℕ) → slice_get ys b ≡ Some label → label ≡ None
only_none xs ys is none b label e = at_end xs none b label (ap (λ l. slice_get l b) (sym is) ∙ e)

-- what stood at a block before
pub record Before (xs : List (Option ℕ)) (block label b : ℕ) (now : Option ℕ) : Type 0 where
  pub before : Option ℕ
  pub there : slice_get xs b ≡ Some before
  pub now_is : now ≡ first_label before (cond (nat_eq block b) (Some label) None)

kept : (o : Option ℕ) → o ≡ first_label o None
kept None = refl
kept (Some k) = refl

pub marked_at : (xs : List (Option ℕ)) (block label b : ℕ) (now : Option ℕ) → slice_get (marked xs block label) b ≡ Some now → Before xs block label b now
marked_at [] block label b now e = absurd (cc)
marked_at (x ∷ xs) zero label zero now e = record { before = x; there = refl; now_is = sym (same_Some (first_label x (Some label)) now e) }
marked_at (x ∷ xs) zero label (suc b) now e = record {
  before = now;
  there = e;
  now_is = kept now
      ∙ ap (λ t. first_label now (cond t (Some label) None)) (sym (eqb-zero-suc b));
}
marked_at (x ∷ xs) (suc block) label zero now e = record {
  before = x;
  there = refl;
  now_is = sym (same_Some x now e) ∙ (kept x
      ∙ ap (λ t. first_label x (cond t (Some label) None)) (sym (eqb-suc-zero block)));
}
marked_at (x ∷ xs) (suc block) label (suc b) now e = let r = marked_at xs block label b now e in record { before = r.before; there = r.there; now_is = r.now_is ∙ ap (λ t. first_label r.before (cond t (Some label) None)) (sym (eqb-suc-suc block b)) }

later : (before : Option ℕ) (t : Bool) (i : ℕ) (rest : Option ℕ) → first_label (first_label before (cond t (Some i) None)) rest
    ≡ first_label before (cond t (Some i) rest)
later None true i rest = refl
later None false i rest = refl
later (Some k) t i rest = refl

-- at each block the label, or what a later one of the labels makes of it
abbrev pub Marking : List ℕ → ℕ → List (Option ℕ) → Type 0
Marking labels i table = (b : ℕ) (label : Option ℕ) → slice_get table b ≡ Some label → first_label label (place_from i (drop i labels) b)
    ≡ place_from 0 labels b

pub marking_next : (labels : List ℕ) (i : ℕ) (table : List (Option ℕ)) → i < length labels → Marking labels i table
    → Marking labels (i + 1) (marked table (get_or labels i 0) i)
marking_next labels i table lt m b now e =
    let x = get_or labels i 0 in
    let r = marked_at table x i b now e in
    let next : suc i ≡ i + 1 = omega arith in
    let rest : Option ℕ = place_from (i + 1) (drop (i + 1) labels) b in
    ap (λ o. first_label o rest) r.now_is
    ∙ (later r.before (nat_eq x b) i rest
    ∙ (ap (λ j. first_label r.before (cond (nat_eq x b) (Some i) (place_from j (drop (i + 1) labels) b))) (sym next)
    ∙ (ap (λ l. first_label r.before (place_from i l b)) (sym (drop_from labels i 0 lt)) ∙ m b r.before r.there)))

pub marking_over : (labels : List ℕ) (i : ℕ) (table : List (Option ℕ)) → length labels ≤ i → Marking labels i table → (b : ℕ) (label : Option ℕ)
    → slice_get table b ≡ Some label
    → label ≡ place_from 0 labels b
marking_over labels i table le m b label e =
    kept label ∙ (ap (λ l. first_label label (place_from i l b)) (sym (drop_past labels i le)) ∙ m b label e)

-- ---- what a label's parameters stand for

drop_nil : (i : ℕ) → drop {A = ℕ} i [] ≡ []
drop_nil zero = refl
drop_nil (suc i) = refl

get_nil : (i : ℕ) → slice_get {X = ℕ} [] i ≡ None
get_nil zero = refl
get_nil (suc i) = refl

pub refs_next : (params places : List ℕ) (i : ℕ) → i < length params
    → row_ref (slice_get places i) ∷ label_refs (drop (i + 1) params) (drop (i + 1) places) ≡ label_refs (drop i params) (drop i places)
refs_next params [] i lt =
    (λ t. row_ref (get_nil i t) ∷ label_refs (drop (i + 1) params) (drop_nil (i + 1) t))
    ∙ (λ t. label_refs (sym (drop_from params i 0 lt) t) (sym (drop_nil i) t))
refs_next [] (q ∷ places) i lt = absurd (omega arith)
refs_next (p ∷ params) (q ∷ places) zero lt = refl
refs_next (p ∷ params) (q ∷ places) (suc i) lt =
    let next : suc i + 1 ≡ suc (i + 1) = omega arith in
    ap (λ j. row_ref (slice_get places i) ∷ label_refs (drop j (p ∷ params)) (drop j (q ∷ places))) next ∙ refs_next params places i (omega arith)

pub refs_over : (params places : List ℕ) (i : ℕ) → length params ≤ i → label_refs (drop i params) (drop i places) ≡ []
refs_over params places i le = ap (λ l. label_refs l (drop i places)) (drop_past params i le)
