-- Which of so many places were visited: the first ones, or the last ones.
use Rattle.std.proofs.Common.{◌≡◌, ◌⊎◌, ℕ, ◌+◌, ◌-◌, ◌<◌, ◌≤◌, inl, inr, arith}
use Rattle.block_graph.proofs.Lists.{compared}

abbrev pub first : ℕ → ℕ → Type 0
first done i = i < done

abbrev pub last : ℕ → ℕ → ℕ → Type 0
last many done i = many ≤ i + done

pub one_first : (done i : ℕ) → first (done + 1) i → (i ≡ done) ⊎ first done i
one_first done i lt = elim (compared i done) [ inl e ↦ inl e | inr differ ↦ inr (omega (arith, lt, differ)) ]

pub one_last : (many done i : ℕ) → done < many → last many (done + 1) i → (i ≡ many - 1 - done) ⊎ last many done i
one_last many done i lt le = elim (compared i (many - 1 - done)) [ inl e ↦ inl e | inr differ ↦ inr (omega (arith, lt, le, differ)) ]
