-- Terminals that are added one after the other, and what a loop over a list adds.
use Rattle.std.proofs.Common.{◌≡◌, ◌≤◌, ◌<◌, ℕ, zero, suc, ◌+◌, Bool, true, false, if◌then◌else◌, nat_lt, List, [], ◌∷◌, ◌++◌, length, drop, get_or, map, Result, Ok, Err, refl, sym, ap, ◌∙◌, subst, append_assoc, append-nil, arith}
use Rattle.std.proofs.lemmas.Bool.Decides.{nat_tests}
use Rattle.std.proofs.lemmas.List.{drop_all, length-map}
use Rattle.away_values.specs.declared.errors.NoMemory.{NoMemory}
use Rattle.away_grammar.specs.declared.grammar.Mark.{Mark}
use Rattle.away_grammar.specs.declared.grammar.Mark.TheVariants as m
use Rattle.away_grammar.specs.Terminals.{Terminal, mark}
use Rattle.away_grammar.specs.Grammar.{perhaps}
use Rattle.away_grammar.specs.Printing.{joined, selects_terminals, with_commas}
use Rattle.sql_printer.specs.PrintedTerminals.{Adds}

-- ---- one behind the other

pub then_on : {s t a b c : List Terminal} {u : Unit {0}} {r : Result (Unit {0}) NoMemory} → Adds s a (Ok u) b → Adds t b r c → Adds (s ++ t) a r c
then_on {s = s} {t = t} {a = a} {r = Ok v} h k = record { all = k.all ∙ ap (λ x. x ++ t) h.all ∙ append_assoc a s t }
then_on {r = Err e} h k = record { all = tt }

-- the same terminals
pub as_terminals : {s t a c : List Terminal} {r : Result (Unit {0}) NoMemory} → s ≡ t → Adds s a r c → Adds t a r c
as_terminals {a = a} {c = c} {r = r} e h = subst (λ s. Adds s a r c) e h

-- ---- loops

-- what is there now, with what is left, is what was there before with all of it
pub record Leads (all before left now : List Terminal) : Type 0 where
  pub whole : now ++ left ≡ before ++ all

pub begins : {all before : List Terminal} → Leads all before all before
begins = record { whole = refl }

pub goes_on : {all before now next s left : List Terminal} {u : Unit {0}} → Leads all before (s ++ left) now → Adds s now (Ok u) next → Leads all before left next
goes_on {now = now} {s = s} {left = left} h k = record { whole = ap (λ x. x ++ left) k.all ∙ append_assoc now s left ∙ h.whole }

pub ends : {all before now : List Terminal} {u : Unit {0}} → Leads all before [] now → Adds all before (Ok u) now
ends {now = now} h = record { all = sym (append-nil now) ∙ h.whole }

pub turned : {all before left other now : List Terminal} → left ≡ other → Leads all before left now → Leads all before other now
turned {now = now} e h = record { whole = ap (λ s. now ++ s) (sym e) ∙ h.whole }

-- ---- lists with the same terminals between any two

-- each with the same terminals before it
abbrev led : List Terminal → List (List Terminal) → List Terminal
led between [] = []
led between (x ∷ xs) = between ++ (x ++ led between xs)

-- what is left of a list from a place on
abbrev pub left_at : List Terminal → ℕ → List (List Terminal) → List Terminal
left_at between zero xs = joined between xs
left_at between (suc i) xs = led between (drop (suc i) xs)

joined_led : (between x : List Terminal) (xs : List (List Terminal)) → joined between (x ∷ xs) ≡ x ++ led between xs
joined_led between x [] = sym (append-nil x)
joined_led between x (y ∷ ys) = ap (λ l. x ++ (between ++ l)) (joined_led between y ys)

led_at : {A : Type 0} (between : List Terminal) (f : A → List Terminal) (xs : List A) (i : ℕ) (x : A) → x ≡ get_or xs i x → i < length xs →
    led between (drop i (map f xs)) ≡ between ++ (f x ++ led between (drop (i + 1) (map f xs)))
led_at between f [] i x is lt = absurd (omega arith)
led_at between f (y ∷ ys) zero x is lt = ap (λ z. between ++ (f z ++ led between (map f ys))) (sym is)
led_at between f (y ∷ ys) (suc i) x is lt = let n : suc i + 1 ≡ suc (i + 1) = omega arith in rw n (led_at between f ys i x is (omega arith))

-- one more of the list
between_more : {A : Type 0} (between : List Terminal) (f : A → List Terminal) (xs : List A) (i : ℕ) (x : A) → x ≡ get_or xs i x → i < length xs →
    left_at between i (map f xs) ≡ (if nat_lt 0 i then between else []) ++ (f x ++ left_at between (i + 1) (map f xs))
between_more between f [] i x is lt = absurd (omega arith)
between_more between f (y ∷ ys) zero x is lt = joined_led between (f y) (map f ys) ∙ ap (λ z. f z ++ led between (map f ys)) (sym is)
between_more between f (y ∷ ys) (suc i) x is lt =
    let n : suc i + 1 ≡ suc (suc i) = omega arith in
    let m : i + 1 ≡ suc i = omega arith in
    let above : nat_lt 0 (suc i) ≡ true = grind (arith, nat_tests) in
    rw (n, above) (led_at between f ys i x is (omega arith) ∙ ap (λ k. between ++ (f x ++ led between (drop k (map f ys)))) m)

none_left : {A : Type 0} (between : List Terminal) (f : A → List Terminal) (xs : List A) (i : ℕ) → length xs ≤ i → left_at between i (map f xs) ≡ []
none_left between f [] zero le = refl
none_left between f [] (suc i) le = refl
none_left between f (y ∷ ys) zero le = absurd (omega arith)
none_left between f (y ∷ ys) (suc i) le = let n : length (map f ys) ≡ length ys = simp length-map in ap (led between) (drop_all i (map f ys) (omega arith))

perhaps_if : (b : Bool) (s : Terminal) → perhaps b s [] ≡ (if b then s ∷ [] else [])
perhaps_if true s = refl
perhaps_if false s = refl

twice_if : (b : Bool) (s t : Terminal) (ts : List Terminal) → perhaps b s [] ++ (perhaps b t [] ++ ts) ≡ (if b then s ∷ t ∷ [] else []) ++ ts
twice_if true s t ts = refl
twice_if false s t ts = refl

abbrev pub union : List Terminal
union = mark m.Union ∷ mark m.All ∷ []

-- what a loop with the same mark between any two has left
abbrev pub MarksLead : {A : Type 0} → Mark → (A → List Terminal) → List A → List Terminal → ℕ → List Terminal → Type 0
MarksLead between f xs before i now = Leads (joined (mark between ∷ []) (map f xs)) before (left_at (mark between ∷ []) i (map f xs)) now

pub mark_on : {A : Type 0} (between : Mark) (f : A → List Terminal) (xs : List A) (i : ℕ) (x : A) {before now next last : List Terminal} {u v : Unit {0}} → x ≡ get_or xs i x → i < length xs
    → MarksLead between f xs before i now → Adds (perhaps (nat_lt 0 i) (mark between) []) now (Ok u) next → Adds (f x) next (Ok v) last → MarksLead between f xs before (i + 1) last
mark_on between f xs i x is lt h k j =
    let one = mark between ∷ [] in
    let step = between_more one f xs i x is lt ∙ ap (λ s. s ++ (f x ++ left_at one (i + 1) (map f xs))) (sym (perhaps_if (nat_lt 0 i) (mark between))) in
    goes_on (goes_on (turned step h) k) j

pub marks_end : {A : Type 0} (between : Mark) (f : A → List Terminal) (xs : List A) (i : ℕ) {before now : List Terminal} {u : Unit {0}} → length xs ≤ i
    → MarksLead between f xs before i now → Adds (joined (mark between ∷ []) (map f xs)) before (Ok u) now
marks_end between f xs i le h = ends (turned (none_left (mark between ∷ []) f xs i le) h)

-- what a loop with commas has left
abbrev pub CommasLead : {A : Type 0} → (A → List Terminal) → List A → List Terminal → ℕ → List Terminal → Type 0
CommasLead f xs before i now = MarksLead m.Comma f xs before i now

pub comma_on : {A : Type 0} (f : A → List Terminal) (xs : List A) (i : ℕ) (x : A) {before now next last : List Terminal} {u v : Unit {0}} → x ≡ get_or xs i x → i < length xs
    → CommasLead f xs before i now → Adds (perhaps (nat_lt 0 i) (mark m.Comma) []) now (Ok u) next → Adds (f x) next (Ok v) last → CommasLead f xs before (i + 1) last
comma_on f xs i x is lt h k j = mark_on m.Comma f xs i x is lt h k j

pub commas_end : {A : Type 0} (f : A → List Terminal) (xs : List A) (i : ℕ) {before now : List Terminal} {u : Unit {0}} → length xs ≤ i
    → CommasLead f xs before i now → Adds (with_commas (map f xs)) before (Ok u) now
commas_end f xs i le h = marks_end m.Comma f xs i le h

-- what a loop with UNION ALL has left
abbrev pub UnionsLead : {A : Type 0} → (A → List Terminal) → List A → List Terminal → ℕ → List Terminal → Type 0
UnionsLead f xs before i now = Leads (selects_terminals (map f xs)) before (left_at union i (map f xs)) now

pub union_on : {A : Type 0} (f : A → List Terminal) (xs : List A) (i : ℕ) (x : A) {before now next other last : List Terminal} {u v w : Unit {0}} → x ≡ get_or xs i x → i < length xs
    → UnionsLead f xs before i now → Adds (perhaps (nat_lt 0 i) (mark m.Union) []) now (Ok u) next → Adds (perhaps (nat_lt 0 i) (mark m.All) []) next (Ok v) other → Adds (f x) other (Ok w) last
    → UnionsLead f xs before (i + 1) last
union_on f xs i x is lt h k g j =
    let step = between_more union f xs i x is lt ∙ sym (twice_if (nat_lt 0 i) (mark m.Union) (mark m.All) (f x ++ left_at union (i + 1) (map f xs))) in
    goes_on (goes_on (goes_on (turned step h) k) g) j

pub unions_end : {A : Type 0} (f : A → List Terminal) (xs : List A) (i : ℕ) {before now : List Terminal} {u : Unit {0}} → length xs ≤ i
    → UnionsLead f xs before i now → Adds (selects_terminals (map f xs)) before (Ok u) now
unions_end f xs i le h = ends (turned (none_left union f xs i le) h)
