-- The mark of a text's dollar quote stands nowhere in the text, and it is the mark of a tag.
use Rattle.std.proofs.Common.{◌≡◌, ◌≤◌, ◌<◌, ◌^◌, ◌+◌, ◌-◌, ◌==◌, ℕ, zero, suc, Bool, true, false, not, ◌&&◌, ◌||◌, if◌then◌else◌, nat_lt, List, [], ◌∷◌, ◌++◌, take, drop, length, inl, inr, refl, sym, ap, ◌∙◌, subst, arith, append_assoc, bytes_eq}
use Rattle.std.specs.Prelude.{decimal}
use Rattle.std.specs.Char.{is_ascii_digit}
use Rattle.std.specs.List.{list_all}
use Rattle.std.proofs.lemmas.Bool.{cases_Bool}
use Rattle.std.proofs.lemmas.Bool.Decides.{nat_tests}
use Rattle.std.proofs.lemmas.Fmt.{length-decimal-le}
use Rattle.std.proofs.lemmas.List.{take-append-drop, take-append-le}
use Rattle.std.proofs.lemmas.Slice.Eq.{bytes_eq-Decides}
use Rattle.std.proofs.Math.Seq.{take-append-add}
use Rattle.away_grammar.specs.Spellings.{IsTag, IsFirstBehind, goes_on, number}
use Rattle.away_lex.proofs.Runs.{and_left, and_right}
use Rattle.sql_printer.proofs.PrintTokens.{number_decimal, decimal_digits}
use Rattle.function_printer.specs.Tags.{tag_of, numbered_mark, stands_in, first_free, free_mark}

-- ---- tags

digits_go_on : (ds : List ℕ) → list_all is_ascii_digit ds ≡ true → list_all goes_on ds ≡ true
digits_go_on [] h = refl
digits_go_on (d ∷ ds) h =
    let digit : is_ascii_digit d ≡ true = and_left (is_ascii_digit d) (list_all is_ascii_digit ds) h in
    let here : goes_on d ≡ true = grind (arith, nat_tests, digit) in
    rw here (digits_go_on ds (and_right (is_ascii_digit d) (list_all is_ascii_digit ds) h))

pub tag_goes_on : (n : ℕ) → n < 2 ^ 64 → list_all goes_on (tag_of n) ≡ true
tag_goes_on zero h = refl
tag_goes_on (suc n) h = digits_go_on (decimal (suc n)) (decimal_digits (suc n) h)

pub is_tag : (n : ℕ) → n < 2 ^ 64 → IsTag (tag_of n)
is_tag zero h = inl refl
is_tag (suc n) h =
    let short : length (decimal (suc n)) ≤ 20 = length-decimal-le 20 (suc n) (omega arith) (omega (arith, h)) h in
    inr (record { starts = refl; plain = tag_goes_on (suc n) h; short = omega (arith, short) })

-- ---- the number of the tag that begins behind a dollar

abbrev before_dollar : List ℕ → List ℕ
before_dollar [] = []
before_dollar (b ∷ z) = if b == 36 then [] else b ∷ before_dollar z

abbrev rank : List ℕ → ℕ
rank [] = 0
rank (b ∷ ds) = number ds

rank_tag : (n : ℕ) → n < 2 ^ 64 → rank (tag_of n) ≡ n
rank_tag zero h = refl
rank_tag (suc n) h = number_decimal (suc n) h

no_dollar : (b : ℕ) → goes_on b ≡ true → (b == 36) ≡ false
no_dollar b h = grind (arith, nat_tests, h)

before_tag : (t rest : List ℕ) → list_all goes_on t ≡ true → before_dollar (t ++ 36 ∷ rest) ≡ t
before_tag [] rest h = refl
before_tag (b ∷ t) rest h =
    let other = no_dollar b (and_left (goes_on b) (list_all goes_on t) h) in
    rw other (ap (λ z. b ∷ z) (before_tag t rest (and_right (goes_on b) (list_all goes_on t) h)))

abbrev first_or : ℕ → List ℕ → ℕ
first_or d [] = d
first_or d (b ∷ z) = b

-- where a mark begins, its number does
record Begins (n b : ℕ) (z : List ℕ) : Type 0 where
  dollar : (b == 36) ≡ true
  rank_is : rank (before_dollar z) ≡ n

begins : (n : ℕ) → n < 2 ^ 64 → (b : ℕ) (z : List ℕ) → bytes_eq (take (length (numbered_mark n)) (b ∷ z)) (numbered_mark n) ≡ true → Begins n b z
begins n h b z e =
    let mark = numbered_mark n in
    let front : take (length mark) (b ∷ z) ≡ mark = (bytes_eq-Decides (take (length mark) (b ∷ z)) mark).0 e in
    let rest = drop (length mark) (b ∷ z) in
    let whole : b ∷ z ≡ 36 ∷ ((tag_of n ++ 36 ∷ []) ++ rest) = sym (take-append-drop (length mark) (b ∷ z)) ∙ ap (λ y. y ++ rest) front in
    let tail : z ≡ tag_of n ++ 36 ∷ rest = ap (drop 1) whole ∙ append_assoc (tag_of n) (36 ∷ []) rest in
    let first : b ≡ 36 = ap (first_or 0) whole in
    record {
      dollar = ap (λ c. c == 36) first;
      rank_is = ap (λ y. rank (before_dollar y)) tail ∙ ap rank (before_tag (tag_of n) rest (tag_goes_on n h)) ∙ rank_tag n h;
    }

-- ---- how many places have a number from this one on

abbrev weight : ℕ → ℕ → List ℕ → ℕ
weight n b z = if b == 36 && not (nat_lt (rank (before_dollar z)) n) then 1 else 0

abbrev places : ℕ → List ℕ → ℕ
places n [] = 0
places n (b ∷ z) = weight n b z + places n z

weight_small : (n b : ℕ) (z : List ℕ) → weight n b z ≤ 1
weight_small n b z = elim (cases_Bool (b == 36 && not (nat_lt (rank (before_dollar z)) n))) [
  | inl y ↦ (rw y (omega arith))
  | inr n0 ↦ (rw n0 (omega arith))
]

places_few : (n : ℕ) (z : List ℕ) → places n z ≤ length z
places_few n [] = omega arith
places_few n (b ∷ z) = omega (arith, weight_small n b z, places_few n z)

fewer : (d : Bool) (r n : ℕ) → (if d && not (nat_lt r (suc n)) then 1 else 0) ≤ (if d && not (nat_lt r n) then 1 else 0)
fewer false r n = omega arith
fewer true r n = elim (cases_Bool (nat_lt r n)) [
  | inl low ↦ (let lower : nat_lt r (suc n) ≡ true = grind (arith, nat_tests, low) in rw (low, lower) (omega arith))
  | inr high ↦ elim (cases_Bool (nat_lt r (suc n))) [
    | inl low ↦ (rw (high, low) (omega arith))
    | inr more ↦ (rw (high, more) (omega arith))
  ]
]

places_fall : (n : ℕ) (z : List ℕ) → places (suc n) z ≤ places n z
places_fall n [] = omega arith
places_fall n (b ∷ z) = omega (arith, fewer (b == 36) (rank (before_dollar z)) n, places_fall n z)

-- a place of the number itself counts no more
weight_here : (n b : ℕ) (z : List ℕ) → Begins n b z → (weight n b z ≡ 1) × (weight (suc n) b z ≡ 0)
weight_here n b z s =
    let r = rank (before_dollar z) in
    let from_here : nat_lt r n ≡ false = grind (arith, nat_tests, s.rank_is) in
    let below : nat_lt r (suc n) ≡ true = grind (arith, nat_tests, s.rank_is) in
    (rw (s.dollar, from_here) refl, rw (s.dollar, below) refl)

nowhere : (n : ℕ) → stands_in (numbered_mark n) [] ≡ true → ⊥
nowhere n e =
    let is : take (length (numbered_mark n)) [] ≡ numbered_mark n = (bytes_eq-Decides (take (length (numbered_mark n)) []) (numbered_mark n)).0 e in
    cc is

one_fewer : (n : ℕ) → n < 2 ^ 64 → (z : List ℕ) → stands_in (numbered_mark n) z ≡ true → places (suc n) z < places n z
one_fewer n h [] e = absurd (nowhere n e)
one_fewer n h (b ∷ z) e = elim (cases_Bool (bytes_eq (take (length (numbered_mark n)) (b ∷ z)) (numbered_mark n))) [
  | inl here ↦ (
      let w = weight_here n b z (begins n h b z here) in
      omega (arith, w.0, w.1, places_fall n z))
  | inr later ↦ (
      let rest : stands_in (numbered_mark n) z ≡ true = sym (ap (λ c. c || stands_in (numbered_mark n) z) later) ∙ e in
      omega (arith, fewer (b == 36) (rank (before_dollar z)) n, one_fewer n h z rest))
]

-- ---- the first free number

free_from : (more n : ℕ) (text : List ℕ) → more + n < 2 ^ 64 → places n text ≤ more → stands_in (numbered_mark (first_free more n text)) text ≡ false
free_from zero n text h few = elim (cases_Bool (stands_in (numbered_mark n) text)) [
  | inl y ↦ absurd (let fall = one_fewer n (omega (arith, h)) text y in omega (arith, fall, few))
  | inr n0 ↦ n0
]
free_from (suc more) n text h few = elim (cases_Bool (stands_in (numbered_mark n) text)) [
  | inl y ↦ (
      let fall = one_fewer n (omega (arith, h)) text y in
      rw y (free_from more (suc n) text (omega (arith, h)) (omega (arith, fall, few))))
  | inr n0 ↦ (rw n0 n0)
]

first_at_most : (more n : ℕ) (text : List ℕ) → first_free more n text ≤ more + n
first_at_most zero n text = omega arith
first_at_most (suc more) n text = elim (cases_Bool (stands_in (numbered_mark n) text)) [
  | inl y ↦ (rw y (omega (arith, first_at_most more (suc n) text)))
  | inr n0 ↦ (rw n0 (omega arith))
]

pub free_number : List ℕ → ℕ
free_number text = first_free (length text) 0 text

pub mark_is : (text : List ℕ) → free_mark text ≡ numbered_mark (free_number text)
unfolding free_mark free_number
mark_is text = refl

pub number_fits : (text : List ℕ) → length text < 2 ^ 64 → free_number text < 2 ^ 64
unfolding free_number
number_fits text h = omega (arith, first_at_most (length text) 0 text, h)

pub stands_nowhere : (text : List ℕ) → length text < 2 ^ 64 → stands_in (free_mark text) text ≡ false
unfolding free_mark
stands_nowhere text h = free_from (length text) 0 text (omega (arith, h)) (places_few 0 text)

-- ---- behind a text that ends with a space it stands first where it was put

abbrev EndsSpaced : List ℕ → Type 0
EndsSpaced [] = Unit {0}
EndsSpaced (b ∷ []) = b ≡ 32
EndsSpaced (b ∷ c ∷ z) = EndsSpaced (c ∷ z)

pub ends_spaced : (z : List ℕ) → EndsSpaced (z ++ 32 ∷ [])
ends_spaced [] = refl
ends_spaced (b ∷ []) = refl
ends_spaced (b ∷ c ∷ z) = ends_spaced (c ∷ z)

later_spaced : (b : ℕ) (z : List ℕ) → EndsSpaced (b ∷ z) → EndsSpaced z
later_spaced b [] h = tt
later_spaced b (c ∷ z) h = h

abbrev no_space : ℕ → Bool
no_space b = not (b == 32)

-- what begins with a text that ends with a space has a space
has_space : (b : ℕ) (z rest : List ℕ) → EndsSpaced (b ∷ z) → list_all no_space ((b ∷ z) ++ rest) ≡ true → ⊥
has_space b [] rest h all =
    let here : no_space b ≡ true = and_left (no_space b) (list_all no_space rest) all in
    let wrong : true ≡ false = sym here ∙ ap no_space h in
    cc wrong
has_space b (c ∷ z) rest h all = has_space c z rest h (and_right (no_space b) (list_all no_space ((c ∷ z) ++ rest)) all)

or_left : (a b : Bool) → (a || b) ≡ false → a ≡ false
or_left true b h = absurd (cc h)
or_left false b h = refl

or_right : (a b : Bool) → (a || b) ≡ false → b ≡ false
or_right true b h = absurd (cc h)
or_right false b h = h

window : (mark : List ℕ) → list_all no_space mark ≡ true → (text : List ℕ) → EndsSpaced text → stands_in mark text ≡ false → (at : ℕ)
    → take (length mark) (drop at (text ++ mark)) ≡ mark → length text ≤ at
window mark all [] s n0 at e = omega arith
window mark all (b ∷ z) s n0 (suc at) e =
    let later : stands_in mark z ≡ false = or_right (bytes_eq (take (length mark) (b ∷ z)) mark) (stands_in mark z) n0 in
    omega (arith, window mark all z (later_spaced b z s) later at e)
window mark all (b ∷ z) s n0 zero e = absurd (elim (cases_Bool (nat_lt (length (b ∷ z)) (length mark))) [
  | inl short ↦ (
      let split : length mark ≡ length (b ∷ z) + (length mark - length (b ∷ z)) = grind (arith, nat_tests, short) in
      let is : (b ∷ z) ++ take (length mark - length (b ∷ z)) mark ≡ mark =
      sym (take-append-add (b ∷ z) mark (length mark - length (b ∷ z))) ∙ ap (λ k. take k ((b ∷ z) ++ mark)) (sym split) ∙ e in
      has_space b z (take (length mark - length (b ∷ z)) mark) s (ap (list_all no_space) is ∙ all))
  | inr long ↦ (
      let fits : length mark ≤ length (b ∷ z) = grind (arith, nat_tests, long) in
      let here : take (length mark) (b ∷ z) ≡ mark = sym (take-append-le (length mark) (b ∷ z) mark fits) ∙ e in
      let y : bytes_eq (take (length mark) (b ∷ z)) mark ≡ true = (bytes_eq-Decides (take (length mark) (b ∷ z)) mark).1 here in
      let wrong : true ≡ false = sym y ∙ or_left (bytes_eq (take (length mark) (b ∷ z)) mark) (stands_in mark z) n0 in
      cc wrong)
])

letters : (t : List ℕ) → list_all goes_on t ≡ true → list_all no_space (t ++ 36 ∷ []) ≡ true
letters [] h = refl
letters (b ∷ t) h =
    let here : no_space b ≡ true = (let go = and_left (goes_on b) (list_all goes_on t) h in grind (arith, nat_tests, go)) in
    rw here (letters t (and_right (goes_on b) (list_all goes_on t) h))

-- A text that ends with a space, between two of its marks, is a dollar quote.
pub first_behind : (z : List ℕ) → length (z ++ 32 ∷ []) < 2 ^ 64 → IsFirstBehind (free_mark (z ++ 32 ∷ [])) (z ++ 32 ∷ [])
first_behind z h =
    let text = z ++ 32 ∷ [] in
    let n = free_number (z ++ 32 ∷ []) in
    subst (λ mark. stands_in mark (z ++ 32 ∷ []) ≡ false → IsFirstBehind mark (z ++ 32 ∷ [])) (sym (mark_is (z ++ 32 ∷ [])))
    (window (numbered_mark n) (letters (tag_of n) (tag_goes_on n (number_fits (z ++ 32 ∷ []) h))) (z ++ 32 ∷ []) (ends_spaced z))
    (stands_nowhere (z ++ 32 ∷ []) h)
