-- Searches over tables of texts and their marks, one step further.
use Rattle.std.proofs.Common.{◌≡◌, ℕ, zero, suc, ◌+◌, ◌<◌, Bool, true, false, List, [], ◌∷◌, length, get_or, drop, map, Some, arith, Bor}
use Rattle.away_grammar.specs.declared.grammar.Mark.{Mark}
use Rattle.away_grammar.specs.Terminals.{first_mark}
use Rattle.sql_text.specs.CodeTerminals.{entry}

pub mark_here : (same : List ℕ → Bool) (es : List (Bor (List ℕ) × Mark)) (i : ℕ) (d : Bor (List ℕ) × Mark) → i < length es → same (get_or es i d).0.now ≡ true → first_mark same (map entry (drop i es)) ≡ Some (get_or es i d).1
mark_here same [] i d lt h = absurd (omega arith)
mark_here same (e ∷ es) zero d lt h = rw h
mark_here same (e ∷ es) (suc i) d lt h = mark_here same es i d (omega arith) h

pub mark_next : (same : List ℕ → Bool) (es : List (Bor (List ℕ) × Mark)) (i : ℕ) (d : Bor (List ℕ) × Mark) → i < length es → same (get_or es i d).0.now ≡ false → first_mark same (map entry (drop (i + 1) es)) ≡ first_mark same (map entry (drop i es))
mark_next same [] i d lt h = absurd (omega arith)
mark_next same (e ∷ es) zero d lt h = rw h
mark_next same (e ∷ es) (suc i) d lt h = let n : suc i + 1 ≡ suc (i + 1) = omega arith in rw n (mark_next same es i d (omega arith) h)
