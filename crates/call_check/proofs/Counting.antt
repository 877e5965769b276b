-- How often numbers stand in a list, by its parts, and what a table of capped counts tells.
use Rattle.std.proofs.Common.{◌≡◌, ◌≢◌, ℕ, zero, suc, ◌+◌, ◌<◌, ◌≤◌, Bool, true, false, List, [], ◌∷◌, ◌++◌, length, get_or, set, drop, slice_get, Some, None, if◌then◌else◌, min, nat_eq, refl, sym, ap, ◌∙◌, subst, arith, get_or-set_same, get_or-set_other, length-append, length-set}
use Rattle.std.proofs.lemmas.Bool.{eqb-true, eq-eqb}
use Rattle.std.proofs.lemmas.Option.{same_Some}
use Rattle.block_forms.specs.Lowered.{one_of}
use Rattle.block_forms.specs.Places.{Each, Distinct}
use Rattle.block_forms.specs.declared.forms.Term.{Term}
use Rattle.block_forms.specs.Forms.{Assignment}
use Rattle.call_forms.specs.Called.{itself, Among, with_assigned}
use Rattle.call_forms.specs.declared.forms.Tail.{Tail}
use Rattle.call_forms.specs.Forms.{place_from, label_of}
use Rattle.call_forms.specs.declared.forms.AnfBlock.{AnfBlock}
use Rattle.call_forms.specs.Merged.{end_calls, calls_to}
use Rattle.call_check.specs.Counts.{times, CountsOf, CountedOnce}

-- the element at a place, and those behind it
pub times_here : (xs : List ℕ) (i : ℕ) (x : ℕ) (b : ℕ) → i < length xs → x ≡ get_or xs i x
    → times (drop i xs) b ≡ one_of (nat_eq x b) + times (drop (i + 1) xs) b
times_here [] i x b lt e = absurd (omega arith)
times_here (y ∷ ys) zero x b lt e = ap (λ y. one_of (nat_eq y b) + times ys b) (sym e)
times_here (y ∷ ys) (suc i) x b lt e =
    times_here ys i x b (omega arith) e
    ∙ ap (λ j. one_of (nat_eq x b) + times (drop j (y ∷ ys)) b) (let q : suc (i + 1) ≡ suc i + 1 = omega arith in q)

pub times_past : (xs : List ℕ) (i b : ℕ) → length xs ≤ i → times (drop i xs) b ≡ 0
times_past [] zero b le = refl
times_past [] (suc i) b le = refl
times_past (x ∷ xs) zero b le = absurd (omega arith)
times_past (x ∷ xs) (suc i) b le = times_past xs i b (omega arith)

-- an element is counted
pub counted : (xs : List ℕ) (i b : ℕ) → slice_get xs i ≡ Some b → 1 ≤ times xs b
counted [] i b e = absurd (cc)
counted (x ∷ xs) zero b e = let same : x ≡ b = cc in omega (arith, ap one_of (eq-eqb x b same))
counted (x ∷ xs) (suc i) b e = omega (arith, counted xs i b e)

-- what is counted has a place
pub place_of : (xs : List ℕ) (b : ℕ) → 1 ≤ times xs b → Among xs b
place_of [] b some = absurd (omega arith)
place_of (x ∷ xs) b some = by_test (nat_eq x b) refl (place_of xs b)
  where
    by_test : (t : Bool) → nat_eq x b ≡ t → (1 ≤ times xs b → Among xs b) → Among (x ∷ xs) b
    by_test true e further = record { place = 0; there = ap Some (eqb-true x b e) }
    by_test false e further =
        let rest = further (omega (arith, some, ap one_of e)) in record { place = suc rest.place; there = rest.there }

-- ---- labels

unplaced : (xs : List ℕ) (i b : ℕ) → place_from i xs b ≡ None → times xs b ≡ 0
unplaced [] i b e = refl
unplaced (x ∷ xs) i b e = by_test (nat_eq x b) refl e (unplaced xs (suc i) b)
  where
    by_test : (t : Bool) → nat_eq x b ≡ t → (if t then Some i else place_from (suc i) xs b) ≡ None → (place_from (suc i) xs b ≡ None → times xs b ≡ 0)
        → times (x ∷ xs) b ≡ 0
    by_test true e none further = absurd (cc)
    by_test false e none further = omega (arith, ap one_of e, further none)

uncounted : (xs : List ℕ) (i b : ℕ) → times xs b ≡ 0 → place_from i xs b ≡ None
uncounted [] i b e = refl
uncounted (x ∷ xs) i b e = by_test (nat_eq x b) refl (uncounted xs (suc i) b)
  where
    by_test : (t : Bool) → nat_eq x b ≡ t → (times xs b ≡ 0 → place_from (suc i) xs b ≡ None) → (if nat_eq x b then Some i else place_from (suc i) xs b) ≡ None
    by_test true f further = absurd (omega (arith, e, ap one_of f))
    by_test false f further =
        ap (λ (t : Bool). if t then Some i else place_from (suc i) xs b) f ∙ further (omega (arith, e, ap one_of f))

-- a block is no label where it is counted nowhere
pub no_label : (r : Tail) (b : ℕ) → label_of r b ≡ None → times r.labels b ≡ 0
no_label r b e = unplaced r.labels 0 b e

pub not_counted : (r : Tail) (b : ℕ) → times r.labels b ≡ 0 → label_of r b ≡ None
not_counted r b e = uncounted r.labels 0 b e

-- ---- distinct numbers

rest_differs : (x : ℕ) (xs : List ℕ) → Distinct itself (x ∷ xs) → Distinct itself xs
rest_differs x xs differ i y e = record { others = λ j z f less. (differ (suc i) y e).others (suc j) z f (omega (arith, less)) }

not_there : (x : ℕ) (xs : List ℕ) → Distinct itself (x ∷ xs) → times xs x ≡ 0
not_there x xs differ = by_count (times xs x) refl
  where
    by_count : (n : ℕ) → times xs x ≡ n → times xs x ≡ 0
    by_count zero e = e
    by_count (suc n) e =
        let other = place_of xs x (omega (arith, e)) in
        absurd ((differ (suc other.place) x other.there).others 0 x refl (omega arith) refl)

pub at_most_once : (xs : List ℕ) → Distinct itself xs → (b : ℕ) → times xs b ≤ 1
at_most_once [] differ b = omega arith
at_most_once (x ∷ xs) differ b = by_test (nat_eq x b) refl (at_most_once xs (rest_differs x xs differ) b)
  where
    by_test : (t : Bool) → nat_eq x b ≡ t → times xs b ≤ 1 → times (x ∷ xs) b ≤ 1
    by_test true e few =
        let none : times xs b ≡ 0 = ap (times xs) (sym (eqb-true x b e)) ∙ not_there x xs differ in
        omega (arith, none, ap one_of e)
    by_test false e few = omega (arith, few, ap one_of e)

-- two places with one number count twice
twice : (xs : List ℕ) (i j b : ℕ) → j < i → slice_get xs i ≡ Some b → slice_get xs j ≡ Some b → 2 ≤ times xs b
twice [] i j b less e f = absurd (cc)
twice (x ∷ xs) zero j b less e f = absurd (omega arith)
twice (x ∷ xs) (suc i) zero b less e f =
    let same : x ≡ b = cc in omega (arith, counted xs i b e, ap one_of (eq-eqb x b same))
twice (x ∷ xs) (suc i) (suc j) b less e f = omega (arith, twice xs i j b (omega (arith, less)) e f)

pub once_differ : (xs : List ℕ) → Each (λ b. times xs b ≤ 1) xs → Distinct itself xs
once_differ xs once i x e = record { others = λ j y f less q. absurd (omega (arith, once i x e, twice xs i j x less e (subst (λ y. slice_get xs j ≡ Some y) q f))) }

-- ---- by the table

pub table_differs : (n : ℕ) (labels table : List ℕ) → CountsOf n (times labels) table → Each (λ b. b < n) labels
    → Each (λ b. get_or table b 0 ≤ 1) labels → Distinct itself labels
table_differs n labels table counts below once =
    once_differ labels (λ i b e. omega (arith, counts.each b (below i b e), once i b e))

pub differs_in_table : (n : ℕ) (labels table : List ℕ) → CountsOf n (times labels) table → Each (λ b. b < n) labels
    → Distinct itself labels → Each (λ b. get_or table b 0 ≤ 1) labels
differs_in_table n labels table counts below differ i b e = omega (arith, counts.each b (below i b e), at_most_once labels differ b)

-- ---- tables while they are made

zeros_more : (xs : List ℕ) → ((b : ℕ) → get_or xs b 0 ≡ 0) → (b : ℕ) → get_or (xs ++ 0 ∷ []) b 0 ≡ 0
zeros_more [] all zero = refl
zeros_more [] all (suc b) = refl
zeros_more (x ∷ xs) all zero = all 0
zeros_more (x ∷ xs) all (suc b) = zeros_more xs (λ c. all (suc c)) b

-- so many numbers, of which none is counted
pub record Zeros (n : ℕ) (table : List ℕ) : Type 0 where
  pub sized : length table ≡ n
  pub all : (b : ℕ) → get_or table b 0 ≡ 0

pub no_zeros : Zeros 0 []
no_zeros = record { sized = refl; all = λ b. none b }
  where
    none : (b : ℕ) → get_or {A = ℕ} [] b 0 ≡ 0
    none zero = refl
    none (suc b) = refl

pub one_more_zero : (n : ℕ) (table new : List ℕ) → Zeros n table → new ≡ table ++ 0 ∷ [] → Zeros (n + 1) new
one_more_zero n table new z e =
    subst (λ new. Zeros (n + 1) new) (sym e)
    (record { sized = omega (arith, length-append table (0 ∷ []), z.sized); all = zeros_more table z.all })

pub zeros_count : (n : ℕ) (table : List ℕ) → Zeros n table → CountsOf n (λ b. 0) table
zeros_count n table z = record { sized = z.sized; each = λ b lt. ap (min 2) (z.all b) }

-- a table to which what is left is still to be added
pub record Counting (n : ℕ) (all left : ℕ → ℕ) (table : List ℕ) : Type 0 where
  pub sized : length table ≡ n
  pub each : (b : ℕ) → b < n → min 2 (get_or table b 0 + left b) ≡ min 2 (all b)

pub starts : (n : ℕ) (all : ℕ → ℕ) (table : List ℕ) → CountsOf n (λ b. 0) table → Counting n all all table
starts n all table counts = record { sized = counts.sized; each = λ b lt. omega (arith, counts.each b lt) }

pub goes_on : (n : ℕ) (all left more rest : ℕ → ℕ) (table new : List ℕ) → Counting n all left table → length new ≡ length table
    → ((b : ℕ) → b < length table → min 2 (get_or new b 0) ≡ min 2 (get_or table b 0 + more b)) → ((b : ℕ) → left b ≡ more b + rest b) → Counting n all rest new
goes_on n all left more rest table new counting sized each parts =
    record { sized = sized ∙ counting.sized; each = λ b lt. omega (arith, counting.each b lt, each b (omega (arith, lt, counting.sized)), parts b) }

pub ends : (n : ℕ) (all left : ℕ → ℕ) (table : List ℕ) → Counting n all left table → ((b : ℕ) → left b ≡ 0) → CountsOf n all table
ends n all left table counting none = record { sized = counting.sized; each = λ b lt. omega (arith, counting.each b lt, none b) }

-- ---- calls

pub calls_here : (xs : List AnfBlock) (i : ℕ) (x : AnfBlock) (b : ℕ) → i < length xs → x ≡ get_or xs i x
    → calls_to b (drop i xs) ≡ end_calls b x.end + calls_to b (drop (i + 1) xs)
calls_here [] i x b lt e = absurd (omega arith)
calls_here (y ∷ ys) zero x b lt e = ap (λ (y : AnfBlock). end_calls b y.end + calls_to b ys) (sym e)
calls_here (y ∷ ys) (suc i) x b lt e =
    calls_here ys i x b (omega arith) e
    ∙ ap (λ j. end_calls b x.end + calls_to b (drop j (y ∷ ys))) (let q : suc (i + 1) ≡ suc i + 1 = omega arith in q)

pub calls_past : (xs : List AnfBlock) (i b : ℕ) → length xs ≤ i → calls_to b (drop i xs) ≡ 0
calls_past [] zero b le = refl
calls_past [] (suc i) b le = refl
calls_past (x ∷ xs) zero b le = absurd (omega arith)
calls_past (x ∷ xs) (suc i) b le = calls_past xs i b (omega arith)

-- ---- one count

pub count_more : (table : List ℕ) (b x : ℕ) → b < length table → x ≡ get_or table b 0 + 1 → CountedOnce b table (set table b x)
count_more table b x lt e = record { sized = length-set table b x; each = λ c within. by_test c within (nat_eq b c) refl }
  where
    by_test : (c : ℕ) → c < length table → (t : Bool) → nat_eq b c ≡ t → min 2 (get_or (set table b x) c 0) ≡ min 2 (get_or table c 0 + one_of (nat_eq b c))
    by_test c within true f =
        let same : b ≡ c = eqb-true b c f in
        let here : get_or (set table b x) c 0 ≡ x = ap (λ c. get_or (set table b x) c 0) (sym same) ∙ get_or-set_same table b x 0 lt in
        let was : get_or table c 0 ≡ get_or table b 0 = ap (λ c. get_or table c 0) (sym same) in
        omega (arith, here, was, e, ap one_of f)
    by_test c within false f =
        omega (arith, get_or-set_other table b c x 0 (λ q. absurd (cc (f, eq-eqb b c (sym q)))), ap one_of f)

pub count_full : (table : List ℕ) (b : ℕ) → (b < length table → 2 ≤ get_or table b 0) → CountedOnce b table table
count_full table b full = record { sized = refl; each = λ c within. by_test c within (nat_eq b c) refl }
  where
    by_test : (c : ℕ) → c < length table → (t : Bool) → nat_eq b c ≡ t → min 2 (get_or table c 0) ≡ min 2 (get_or table c 0 + one_of (nat_eq b c))
    by_test c within true f =
        let same : b ≡ c = eqb-true b c f in
        let two : 2 ≤ get_or table c 0 = subst (λ c. 2 ≤ get_or table c 0) same (full (omega (arith, within, same))) in
        omega (arith, two)
    by_test c within false f = omega (arith, ap one_of f)

-- ---- a block's own names

pub among_more : (s : Assignment) (p : ℕ × Term) (params : List ℕ) (n : ℕ) → s ≡ Some p → Among params n → Among (with_assigned s params) n
among_more s p params n is a = subst (λ s. Among (with_assigned s params) n) (sym is) (record { place = suc a.place; there = a.there })

not_first : (m : ℕ) (params : List ℕ) (n place : ℕ) → m ≢ n → slice_get (m ∷ params) place ≡ Some n → Among params n
not_first m params n zero differ e = absurd (differ (same_Some m n e))
not_first m params n (suc place) differ e = record { place = place; there = e }

pub among_rest : (s : Assignment) (p : ℕ × Term) (params : List ℕ) (n : ℕ) → s ≡ Some p → p.0 ≢ n → Among (with_assigned s params) n → Among params n
among_rest s p params n is differ a =
    let own : Among (p.0 ∷ params) n = subst (λ s. Among (with_assigned s params) n) is a in
    not_first p.0 params n own.place differ own.there
