-- Tables of how often numbers stand somewhere, where two is as good as more.
use Rattle.std.specs.Prelude.{◌≡◌, ℕ, ◌+◌, ◌<◌, List, [], ◌∷◌, length, get_or, min, nat_eq}
use Rattle.block_forms.specs.Lowered.{one_of}

-- how often b stands in the list
abbrev pub times : List ℕ → ℕ → ℕ
times [] b = 0
times (x ∷ xs) b = one_of (nat_eq x b) + times xs b

-- the table has the count of each number below n
pub record CountsOf (n : ℕ) (count : ℕ → ℕ) (table : List ℕ) : Type 0 where
  pub sized : length table ≡ n
  pub each : (b : ℕ) → b < n → min 2 (get_or table b 0) ≡ min 2 (count b)

-- one table after the other, where b was counted once more
pub record CountedOnce (b : ℕ) (before after : List ℕ) : Type 0 where
  pub sized : length after ≡ length before
  pub each : (c : ℕ) → c < length before → min 2 (get_or after c 0) ≡ min 2 (get_or before c 0 + one_of (nat_eq b c))
