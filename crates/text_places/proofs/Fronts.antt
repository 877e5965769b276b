-- The longest front of the bytes that is a text, from where the first zero stands and where UTF-8 ends.
use Rattle.std.proofs.Common.{
  ◌≡◌,
  ◌⊎◌,
  ◌≤◌,
  ◌<◌,
  ℕ,
  List,
  Contains,
  IsUtf8,
  length,
  slice_index,
  take,
  inl,
  inr,
  sym,
  subst,
  ◌∙◌,
  arith,
}
use Rattle.std.proofs.lemmas.Bool.{cases_lt}
use Rattle.std.proofs.lemmas.List.{get_or-take, length-take, take-take}
use Rattle.std.specs.Str.{IsValidUpTo}
use Rattle.away_grammar.specs.Texts.{IsText}
use Rattle.text_places.specs.TextEnds.{IsTextEnd}

no_zero_before : (bytes : List ℕ) (end n : ℕ) → n ≤ end
    → ((k : ℕ) → k < end → ¬ (slice_index bytes k ≡ 0)) → ¬ (Contains (take n bytes) 0)
no_zero_before bytes end n within none (k, short, is) =
    let below : k < n = omega (arith, short, length-take n bytes) in
    none k (omega arith) (sym (get_or-take n bytes k 0 below) ∙ is)

zero_within : (bytes : List ℕ) (end m : ℕ) → end < m → m ≤ length bytes
    → slice_index bytes end ≡ 0 → Contains (take m bytes) 0
zero_within bytes end m before within zero =
    (end, omega (arith, length-take m bytes), get_or-take m bytes end 0 before ∙ zero)

longest : (bytes : List ℕ) (end n m : ℕ) → ((end ≡ length bytes) ⊎ (slice_index bytes end ≡ 0))
    → IsValidUpTo (take end bytes) n → n < m → m ≤ length bytes → ¬ (IsText (take m bytes))
longest bytes end n m stops valid h within text = elim (cases_lt end m) [
  | inl past ↦ elim stops [
    | inl e ↦ absurd (omega arith)
    | inr zero ↦ text.no_zero (zero_within bytes end m past within zero)
  ]
  | inr before ↦ valid.longest m h (subst IsUtf8 (sym (take-take m end bytes before)) text.utf8)
]

pub front_ends : (bytes : List ℕ) (end n : ℕ) → end ≤ length bytes
    → ((k : ℕ) → k < end → ¬ (slice_index bytes k ≡ 0))
    → ((end ≡ length bytes) ⊎ (slice_index bytes end ≡ 0))
    → IsValidUpTo (take end bytes) n → IsTextEnd bytes n
front_ends bytes end n within none stops valid =
    let short : n < end = omega (arith, valid.short, length-take end bytes) in
    record {
      within = omega arith;
      is_text = record {
        utf8 = subst IsUtf8 (take-take n end bytes (omega arith)) valid.front;
        no_zero = no_zero_before bytes end n (omega arith) none;
      };
      longest = λ m h w. longest bytes end n m stops valid h w;
    }
