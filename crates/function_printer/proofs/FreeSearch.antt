-- The search for a free mark, number by number, and where a text stands in another.
use Rattle.std.proofs.Common.{◌≡◌, ◌↔◌, ◌<◌, ◌≤◌, ◌+◌, ◌-◌, ℕ, zero, suc, refl, sym, ap, ◌∙◌, subst, Bool, true, false, ◌||◌, if◌then◌else◌, List, [], ◌∷◌, ◌++◌, take, drop, length, inl, inr, arith, bytes_eq}
use Rattle.std.specs.Prelude.{decimal}
use Rattle.std.specs.Str.Iter.{HasSubslice}
use Rattle.std.proofs.lemmas.Bool.{cases_Bool, cases_lt}
use Rattle.std.proofs.lemmas.List.{take-append-drop}
use Rattle.std.proofs.lemmas.Slice.Eq.{bytes_eq-Decides}
use Rattle.std.proofs.Math.Seq.{take-append_seam}
use Rattle.function_printer.specs.Tags.{first_free, free_mark, numbered_mark, stands_in}

-- ---- the numbers

one_less : (text : List ℕ) (n : ℕ) → n < length text → length text - n ≡ suc (length text - (n + 1))
one_less text n lt = omega (arith, lt)

-- the search goes on behind a number whose mark stands in the text
pub searches_on : (text : List ℕ) (n : ℕ) → n < length text → stands_in (numbered_mark n) text ≡ true
    → first_free (length text - (n + 1)) (n + 1) text ≡ first_free (length text - n) n text
searches_on text n lt h =
    let next : n + 1 ≡ suc n = omega arith in
    sym (ap (λ k. first_free k n text) (one_less text n lt) ∙ ap (λ b. if b then first_free (length text - (n + 1)) (suc n) text else n) h
    ∙ ap (λ k. first_free (length text - (n + 1)) k text) (sym next))

-- it ends at a number whose mark doesn't
pub is_found : (text : List ℕ) (n : ℕ) → n < length text → stands_in (numbered_mark n) text ≡ false → first_free (length text - n) n text ≡ n
is_found text n lt h = ap (λ k. first_free k n text) (one_less text n lt) ∙ ap (λ b. if b then first_free (length text - (n + 1)) (suc n) text else n) h

-- or at the last number
pub is_last : (text : List ℕ) (n : ℕ) → length text ≤ n → first_free (length text - n) n text ≡ n
is_last text n le = let none : length text - n ≡ 0 = omega (arith, le) in ap (λ k. first_free k n text) none

-- the mark of each number before it stands in the text
earlier_stand : (more n : ℕ) (text : List ℕ) (k : ℕ) → n ≤ k → k < first_free more n text → stands_in (numbered_mark k) text ≡ true
earlier_stand zero n text k le lt = absurd (omega (arith, le, lt))
earlier_stand (suc more) n text k le lt = elim (cases_Bool (stands_in (numbered_mark n) text)) [
  | inl here ↦ elim (cases_lt n k) [
    | inl behind ↦ (let later : k < first_free more (suc n) text = subst (λ b. k < (if b then first_free more (suc n) text else n)) here lt in
        earlier_stand more (suc n) text k (omega (arith, behind)) later)
    | inr upto ↦ (let same : k ≡ n = omega (arith, le, upto) in ap (λ j. stands_in (numbered_mark j) text) same ∙ here)
  ]
  | inr free ↦ absurd (let early : k < n = subst (λ b. k < (if b then first_free more (suc n) text else n)) free lt in omega (arith, le, early))
]

pub earlier_marks_stand : (text : List ℕ) (k : ℕ) → k < first_free (length text) 0 text → stands_in (numbered_mark k) text ≡ true
earlier_marks_stand text k lt = earlier_stand (length text) 0 text k (omega arith) lt

pub free_mark_is : (text : List ℕ) → numbered_mark (first_free (length text) 0 text) ≡ free_mark text
unfolding free_mark
free_mark_is text = refl

-- ---- the marks

pub first_mark : numbered_mark 0 ≡ 36 ∷ 36 ∷ []
first_mark = refl

pub later_mark : (n : ℕ) → 0 < n → numbered_mark n ≡ 36 ∷ 113 ∷ (decimal n ++ 36 ∷ [])
later_mark zero lt = absurd (omega (arith, lt))
later_mark (suc n) lt = refl

-- ---- a text in another

front_is : (mark z : List ℕ) → bytes_eq (take (length mark) z) mark ≡ true → z ≡ mark ++ drop (length mark) z
front_is mark z h = sym (take-append-drop (length mark) z) ∙ ap (λ y. y ++ drop (length mark) z) ((bytes_eq-Decides (take (length mark) z) mark).0 h)

pub stands_somewhere : (mark text : List ℕ) → stands_in mark text ≡ true → HasSubslice text mark
stands_somewhere mark [] h = ([], drop (length mark) [], front_is mark [] h)
stands_somewhere mark (b ∷ z) h = elim (cases_Bool (bytes_eq (take (length mark) (b ∷ z)) mark)) [
  | inl here ↦ ([], drop (length mark) (b ∷ z), front_is mark (b ∷ z) here)
  | inr later ↦ (
      let rest : stands_in mark z ≡ true = sym (ap (λ c. c || stands_in mark z) later) ∙ h in
      let found = stands_somewhere mark z rest in
      (b ∷ found.0, found.1, ap (λ y. b ∷ y) found.2))
]

here_stands : (mark z : List ℕ) → bytes_eq (take (length mark) z) mark ≡ true → stands_in mark z ≡ true
here_stands mark [] h = h
here_stands mark (b ∷ z) h = ap (λ c. c || stands_in mark z) h

or_true : (a b : Bool) → b ≡ true → (a || b) ≡ true
or_true true b h = refl
or_true false b h = h

pub behind_stands : (mark a b : List ℕ) → stands_in mark (a ++ (mark ++ b)) ≡ true
behind_stands mark [] b = here_stands mark (mark ++ b) ((bytes_eq-Decides (take (length mark) (mark ++ b)) mark).1 (take-append_seam mark b))
behind_stands mark (c ∷ a) b =
    or_true (bytes_eq (take (length mark) (c ∷ (a ++ (mark ++ b)))) mark) (stands_in mark (a ++ (mark ++ b))) (behind_stands mark a b)

pub stands_so : (r : Bool) (mark text : List ℕ) → (r ≡ true) ↔ HasSubslice text mark → r ≡ stands_in mark text
stands_so true mark text h = let at = h.0 refl in sym (ap (stands_in mark) at.2 ∙ behind_stands mark at.0 at.1)
stands_so false mark text h = elim (cases_Bool (stands_in mark text)) [
  | inl y ↦ absurd (let wrong : false ≡ true = h.1 (stands_somewhere mark text y) in cc wrong)
  | inr n ↦ sym n
]
