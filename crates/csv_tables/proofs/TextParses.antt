-- The text that a field writes, by whether its bytes are UTF-8 and within the limits of a text.
use Rattle.std.proofs.Common.{◌≡◌, ◌∙◌, ap, sym, ℕ, true, not, ◌&&◌, eqb, List, length, inl, inr}
use Rattle.std.specs.Prelude.{Option, Some, None, MatchOption, if◌then◌else◌, nat_le, chars}
use Rattle.std.specs.List.{list_all}
use Rattle.std.specs.Str.{IsUtf8, is_utf8}
use Rattle.std.proofs.lemmas.Bool.{cases_Bool, and_parts, and_from, le-leb, leb-true}
use Rattle.std.proofs.lemmas.Str.{IsUtf8-from_is_utf8, is_utf8-from_IsUtf8}
use Rattle.away_values.specs.Words.{IsWord}
use Rattle.csv_tables.specs.Cells.{is_text, text_of}

pub is_text-parts : (bs : List ℕ) → is_text bs ≡ true → IsUtf8 bs × IsWord bs
is_text-parts bs h =
    let outer = and_parts (is_utf8 bs && nat_le (length bs) 1048576) (list_all (λ b. not (eqb b 0)) bs) h in
    let inner = and_parts (is_utf8 bs) (nat_le (length bs) 1048576) outer.0 in
    (IsUtf8-from_is_utf8 bs inner.0, record { short = leb-true (length bs) 1048576 inner.1; no_zero = outer.1 })

is_text-from : (bs : List ℕ) → IsUtf8 bs → IsWord bs → is_text bs ≡ true
is_text-from bs u w = and_from (is_utf8 bs && nat_le (length bs) 1048576) _ (and_from (is_utf8 bs) _ (is_utf8-from_IsUtf8 bs u) (le-leb (length bs) 1048576 w.short)) w.no_zero

some_text : (bs : List ℕ) → IsUtf8 bs → IsWord bs → text_of bs ≡ Some (chars bs)
some_text bs u w = ap (λ b. if b then Some (chars bs) else None) (is_text-from bs u w)

pub no_text : (bs : List ℕ) → ¬ (IsUtf8 bs × IsWord bs) → text_of bs ≡ None
no_text bs fails =
    elim (cases_Bool (is_text bs)) [
      | inl holds ↦ absurd (fails (is_text-parts bs holds))
      | inr off ↦ ap (λ b. if b then Some (chars bs) else None) off
    ]

-- a text that `word` takes or refuses
pub worded : (bs ts : List ℕ) (o : Option (List ℕ)) → ts ≡ bs → IsUtf8 bs → MatchOption o (¬ (IsWord ts)) (λ w. IsWord ts × (w ≡ chars ts)) → o ≡ text_of bs
worded bs ts None same u h = sym (no_text bs (λ p. h (rw same p.1)))
worded bs ts (Some w) same u h = ap Some (h.1 ∙ ap chars same) ∙ sym (some_text bs u (rw same at h.0))
