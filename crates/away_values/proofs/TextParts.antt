-- The bytes of a text, its characters, and parts of both.
use Rattle.std.proofs.Common.{◌≡◌, refl, sym, ◌∙◌, ap, subst, ℕ, ◌+◌, ◌<◌, ◌≤◌, ◌-◌, zero, suc, max, Bool, true, false, not, ◌&&◌, nat_lt, eqb, List, [], ◌∷◌, ◌++◌, length, take, drop, arith, ℤ, pos, negsuc, ◌-ℤ◌, ◌^◌, add-one, inl, inr, SFits, w64}
use Rattle.std.specs.Prelude.{if◌then◌else◌, int_lt, ◌⊎◌, codes}
use Rattle.std.specs.List.{sum_by}
use Rattle.std.specs.Str.{chars, IsUtf8}
use Rattle.std.proofs.lemmas.Str.{length-encode, encodes-chars, encodes-append}
use Rattle.std.proofs.lemmas.List.{take-append-drop, length-append}
use Rattle.std.proofs.lemmas.List.Sums.{sum_by-cons}
use Rattle.std.proofs.lemmas.List.Folds.{list_all-append}
use Rattle.std.proofs.lemmas.Bool.{and_parts, and_from, cases_lt, lt-ltb, le-ltb}
use Rattle.std.proofs.lemmas.List.{take_all, length-drop}
use Rattle.std.proofs.lemmas.Bool.{not_from_false, ne_eqb}
use Rattle.std.proofs.lemmas.Int.{ints, clamps}
use Rattle.std.proofs.lemmas.Str.{chars-append, chars-IsAscii, IsUtf8-from_ascii}
use Rattle.std.proofs.lemmas.Fmt.{decimal_is_IsNumeral, IsAscii-signed, length_signed_le}
use Rattle.std.specs.Char.{digit_value}
use Rattle.std.specs.Fmt.{decimal, signed_decimal}
use Rattle.std.specs.Int.{int_max, saturate_signed}
use Rattle.std.specs.Str.Parse.{AllDigits}
use lib.Utf8.{encodes, encode}
use Rattle.away_values.specs.Operators.{bytes_of, part}
use Rattle.away_values.specs.Words.{HasNoZero, IsWord}

-- ---- the bytes of a list of code points

pub bytes_of-encodes : (cs : List ℕ) → sum_by bytes_of cs ≡ length (encodes cs)
bytes_of-encodes [] = refl
bytes_of-encodes (c ∷ cs) = sum_by-cons bytes_of c cs ∙ ap (λ n. bytes_of c + n) (bytes_of-encodes cs) ∙ sym (length-append (encode c) (encodes cs) ∙ ap (λ n. n + length (encodes cs)) (length-encode c))

pub bytes_of-chars : (bs : List ℕ) → IsUtf8 bs → sum_by bytes_of (chars bs) ≡ length bs
bytes_of-chars bs u = bytes_of-encodes (chars bs) ∙ ap length (encodes-chars bs u)

-- ---- a part of a word's bytes is within the limits

pub HasNoZero-append : (xs ys : List ℕ) → HasNoZero xs → HasNoZero ys → HasNoZero (xs ++ ys)
HasNoZero-append xs ys h g = list_all-append _ xs ys ∙ and_from _ _ h g

pub HasNoZero-parts : (xs ys : List ℕ) → HasNoZero (xs ++ ys) → HasNoZero xs × HasNoZero ys
HasNoZero-parts xs ys h = and_parts _ _ (sym (list_all-append (λ b. not (eqb b 0)) xs ys) ∙ h)

IsWord-left : (xs ys : List ℕ) → IsWord (xs ++ ys) → IsWord xs
IsWord-left xs ys w = record { short = omega (arith, length-append xs ys); no_zero = (HasNoZero-parts xs ys w.no_zero).0 }

IsWord-right : (xs ys : List ℕ) → IsWord (xs ++ ys) → IsWord ys
IsWord-right xs ys w = record { short = omega (arith, length-append xs ys); no_zero = (HasNoZero-parts xs ys w.no_zero).1 }

split_bytes : (n : ℕ) (cs : List ℕ) → encodes (take n cs) ++ encodes (drop n cs) ≡ encodes cs
split_bytes n cs = sym (encodes-append (take n cs) (drop n cs)) ∙ ap encodes (take-append-drop n cs)

pub IsWord-take : (n : ℕ) (cs : List ℕ) → IsWord (encodes cs) → IsWord (encodes (take n cs))
IsWord-take n cs w = IsWord-left (encodes (take n cs)) (encodes (drop n cs)) (subst IsWord (sym (split_bytes n cs)) w)

pub IsWord-drop : (n : ℕ) (cs : List ℕ) → IsWord (encodes cs) → IsWord (encodes (drop n cs))
IsWord-drop n cs w = IsWord-right (encodes (take n cs)) (encodes (drop n cs)) (subst IsWord (sym (split_bytes n cs)) w)

-- ---- the characters at places

-- how many places of a text stand before the place
abbrev pub before : ℤ → ℕ
before (pos n) = n - 1
before (negsuc n) = 0

-- the same by natural numbers, where places count from 0
abbrev pub places : ℕ → ℕ → ℕ → List ℕ → List ℕ
places b e k [] = []
places b e k (c ∷ cs) = if not (nat_lt k b) && nat_lt k e then c ∷ places b e (suc k) cs else places b e (suc k) cs

below_pred : (k n : ℕ) → nat_lt (suc k) n ≡ nat_lt k (n - 1)
below_pred k n = elim (cases_lt (suc k) n) [ inl h ↦ lt-ltb (suc k) n h ∙ sym (lt-ltb k (n - 1) (omega arith)) | inr h ↦ le-ltb (suc k) n h ∙ sym (le-ltb k (n - 1) (omega arith)) ]

is_before : (k : ℕ) (z : ℤ) → int_lt (pos (suc k)) z ≡ nat_lt k (before z)
is_before k (pos n) = below_pred k n
is_before k (negsuc n) = sym (le-ltb k 0 (omega arith))

pub part-places : (p end : ℤ) (k : ℕ) (t : List ℕ) → part p end (pos (suc k)) t ≡ places (before p) (before end) k t
part-places p end k [] = refl
part-places p end k (c ∷ cs) =
    let on : part p end (pos (suc k + 1)) cs ≡ places (before p) (before end) (suc k) cs = ap (λ m. part p end (pos m) cs) (add-one (suc k)) ∙ part-places p end (suc k) cs in
    ap (λ x. if not x && int_lt (pos (suc k)) end then c ∷ part p end (pos (suc k + 1)) cs else part p end (pos (suc k + 1)) cs) (is_before k p)
    ∙ ap (λ x. if not (nat_lt k (before p)) && x then c ∷ part p end (pos (suc k + 1)) cs else part p end (pos (suc k + 1)) cs) (is_before k end)
    ∙ ap (λ x. if not (nat_lt k (before p)) && nat_lt k (before end) then c ∷ x else x) on

take-nil : (n : ℕ) → ◌≡◌ {A = List ℕ} (take n []) []
take-nil zero = refl
take-nil (suc n) = refl

drop-nil : (n : ℕ) → ◌≡◌ {A = List ℕ} (drop n []) []
drop-nil zero = refl
drop-nil (suc n) = refl

-- the three cases of one character: before the places, at one of them, after them
module _ (b e k : ℕ) (c : ℕ) (cs : List ℕ) (on : places b e (suc k) cs ≡ take (e - max b (suc k)) (drop (b - suc k) cs)) where
  skipped : k < b → places b e k (c ∷ cs) ≡ take (e - max b k) (drop (b - k) (c ∷ cs))
  skipped h =
      let later : max b (suc k) ≡ max b k = omega arith in
      let fewer : b - k ≡ suc (b - suc k) = omega arith in
      ap (λ x. if not x && nat_lt k e then c ∷ places b e (suc k) cs else places b e (suc k) cs) (lt-ltb k b h)
      ∙ on
      ∙ ap (λ m. take (e - m) (drop (b - suc k) cs)) later
      ∙ ap (λ m. take (e - max b k) (drop m (c ∷ cs))) (sym fewer)

  kept : b ≤ k → k < e → places b e k (c ∷ cs) ≡ take (e - max b k) (drop (b - k) (c ∷ cs))
  kept h l =
      let none : b - k ≡ 0 = omega arith in
      let none_on : b - suc k ≡ 0 = omega arith in
      let fewer : e - max b k ≡ suc (e - max b (suc k)) = omega arith in
      ap (λ x. if not x && nat_lt k e then c ∷ places b e (suc k) cs else places b e (suc k) cs) (le-ltb k b h)
      ∙ ap (λ x. if x then c ∷ places b e (suc k) cs else places b e (suc k) cs) (lt-ltb k e l)
      ∙ ap (λ x. c ∷ x) on
      ∙ ap (λ m. c ∷ take (e - max b (suc k)) (drop m cs)) none_on
      ∙ ap (λ m. take m (c ∷ cs)) (sym fewer)
      ∙ ap (λ m. take (e - max b k) (drop m (c ∷ cs))) (sym none)

  passed : b ≤ k → e ≤ k → places b e k (c ∷ cs) ≡ take (e - max b k) (drop (b - k) (c ∷ cs))
  passed h l =
      let none : e - max b k ≡ 0 = omega arith in
      let none_on : e - max b (suc k) ≡ 0 = omega arith in
      ap (λ x. if not x && nat_lt k e then c ∷ places b e (suc k) cs else places b e (suc k) cs) (le-ltb k b h)
      ∙ ap (λ x. if x then c ∷ places b e (suc k) cs else places b e (suc k) cs) (le-ltb k e l)
      ∙ on
      ∙ ap (λ m. take m (drop (b - suc k) cs)) none_on
      ∙ ap (λ m. take m (drop (b - k) (c ∷ cs))) (sym none)

pub places-take-drop : (b e k : ℕ) (t : List ℕ) → places b e k t ≡ take (e - max b k) (drop (b - k) t)
places-take-drop b e k [] = sym (ap (take (e - max b k)) (drop-nil (b - k)) ∙ take-nil (e - max b k))
places-take-drop b e k (c ∷ cs) =
    elim (cases_lt k b) [
      | inl h ↦ skipped b e k c cs (places-take-drop b e (suc k) cs) h
      | inr h ↦ elim (cases_lt k e) [
        | inl l ↦ kept b e k c cs (places-take-drop b e (suc k) cs) h l
        | inr l ↦ passed b e k c cs (places-take-drop b e (suc k) cs) h l
      ]
    ]

-- the part of a text at the places from p to before `end`
pub part-take-drop : (p end : ℤ) (t : List ℕ) → part p end (pos 1) t ≡ take (before end - before p) (drop (before p) t)
part-take-drop p end t =
    let first : max (before p) 0 ≡ before p = omega arith in
    let all : before p - 0 ≡ before p = omega arith in
    part-places p end 0 t
    ∙ places-take-drop (before p) (before end) 0 t
    ∙ ap (λ m. take (before end - m) (drop (before p - 0) t)) first
    ∙ ap (λ m. take (before end - before p) (drop m t)) all

-- A place beyond the end of a text may as well be the last bigint.
saturated : (e : ℤ) → (before (saturate_signed w64 e) ≡ before e) ⊎ ((2 ^ 62 ≤ before (saturate_signed w64 e)) × (2 ^ 62 ≤ before e))
saturated (pos n) = elim (cases_lt n (2 ^ 63)) [ inl h ↦ inl (omega arith) | inr h ↦ inr (omega arith, omega arith) ]
saturated (negsuc n) = inl refl

beyond : (b m n : ℕ) (t : List ℕ) → length t ≤ m → length t ≤ n → take (m - b) (drop b t) ≡ take (n - b) (drop b t)
beyond b m n t h g = take_all (m - b) (drop b t) (omega (arith, length-drop b t)) ∙ sym (take_all (n - b) (drop b t) (omega (arith, length-drop b t)))

pub part-saturated : (p e : ℤ) (t : List ℕ) → length t ≤ 2 ^ 62 → part p e (pos 1) t ≡ take (before (saturate_signed w64 e) - before p) (drop (before p) t)
part-saturated p e t short =
    part-take-drop p e t
    ∙ elim (saturated e) [
      | inl same ↦ ap (λ m. take (m - before p) (drop (before p) t)) (sym same)
      | inr far ↦ beyond (before p) (before e) (before (saturate_signed w64 e)) t (omega arith) (omega arith)
    ]

pub before-int_max : (z : ℤ) (n : ℕ) → pos n ≡ int_max (pos 0) (z -ℤ pos 1) → n ≡ before z
before-int_max (pos m) n e = omega (arith, ints, clamps)
before-int_max (negsuc m) n e = omega (arith, ints, clamps)

-- ---- what is written of a value

pub chars-written : (old new piece : List ℕ) → IsUtf8 old → new ≡ old ++ piece → chars new ≡ chars old ++ chars piece
chars-written old new piece u e = ap chars e ∙ chars-append old piece u

nonzero : (c : ℕ) → digit_value c < 10 → c ≡ 0 → ⊥
nonzero c h e = absurd (omega (arith, subst (λ x. digit_value x < 10) e h))

no_zero-digits : (ds : List ℕ) → AllDigits 10 ds → HasNoZero ds
no_zero-digits [] h = refl
no_zero-digits (c ∷ cs) h = and_from _ _ (not_from_false _ (ne_eqb c 0 (nonzero c h.0))) (no_zero-digits cs h.1)

no_zero-decimal : (n : ℕ) → n < 2 ^ 64 → HasNoZero (decimal n)
no_zero-decimal n h = no_zero-digits (decimal n) (decimal_is_IsNumeral n h).0.1

pub no_zero-signed : (z : ℤ) → SFits w64 z → HasNoZero (signed_decimal z)
no_zero-signed (pos n) f = no_zero-decimal n (omega (arith, f.sfits))
no_zero-signed (negsuc n) f = no_zero-decimal (suc n) (omega (arith, f.sfits))

pub chars-codes : (b : Bool) → chars (if b then codes "true" else codes "false") ≡ (if b then codes "true" else codes "false")
unfolding chars
chars-codes true = refl
chars-codes false = refl

pub chars-signed : (z : ℤ) → SFits w64 z → chars (signed_decimal z) ≡ signed_decimal z
chars-signed z f = chars-IsAscii (signed_decimal z) (IsAscii-signed z f.sfits)

pub IsUtf8-signed : (z : ℤ) → SFits w64 z → IsUtf8 (signed_decimal z)
IsUtf8-signed z f = IsUtf8-from_ascii (signed_decimal z) (IsAscii-signed z f.sfits)

pub length-signed : (z : ℤ) → SFits w64 z → length (signed_decimal z) ≤ 21
length-signed z f = length_signed_le 20 z (omega (arith, f.sfits)) f.sfits
