-- The search over the table of the code, one step further.
use Rattle.std.proofs.Common.{◌≡◌, ℕ, zero, suc, ◌+◌, ◌<◌, true, false, List, [], ◌∷◌, length, get_or, drop, map, Some, arith, Bor, bytes_eq}
use Rattle.refusal_reasons.specs.declared.instead.Advice.{Advice}
use Rattle.refusal_reasons.specs.Instead.{advice_by}
use Rattle.refusal_reasons.specs.Entries.{entry}

pub advice_here : (word : List ℕ) (es : List (Bor (List ℕ) × Advice)) (i : ℕ) (d : Bor (List ℕ) × Advice) → i < length es → bytes_eq word (get_or es i d).0.now ≡ true
    → advice_by (map entry (drop i es)) word ≡ Some (get_or es i d).1
advice_here word [] i d lt h = absurd (omega arith)
advice_here word (e ∷ es) zero d lt h = rw h
advice_here word (e ∷ es) (suc i) d lt h = advice_here word es i d (omega arith) h

pub advice_next : (word : List ℕ) (es : List (Bor (List ℕ) × Advice)) (i : ℕ) (d : Bor (List ℕ) × Advice) → i < length es → bytes_eq word (get_or es i d).0.now ≡ false
    → advice_by (map entry (drop (i + 1) es)) word ≡ advice_by (map entry (drop i es)) word
advice_next word [] i d lt h = absurd (omega arith)
advice_next word (e ∷ es) zero d lt h = rw h
advice_next word (e ∷ es) (suc i) d lt h = let n : suc i + 1 ≡ suc (i + 1) = omega arith in rw n (advice_next word es i d (omega arith) h)
