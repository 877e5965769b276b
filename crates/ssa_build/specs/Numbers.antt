-- New numbers for the names that lead to themselves, in order.
use Rattle.std.specs.Prelude.{◌≡◌, ℕ, ◌<◌, List, length, get_or}
use Rattle.ssa_build.specs.Joins.{IsRoot}

pub record Numbers (slots into numbers names : List ℕ) : Type 0 where
  pub sized : length numbers ≡ length into
  pub slot : (n : ℕ) → n < length into → IsRoot into n → (get_or numbers n 0 < length names) ×
      (get_or names (get_or numbers n 0) 0 ≡ get_or slots n 0)
  pub rising : (n m : ℕ) → n < m → m < length into → IsRoot into n → get_or numbers n 0 < get_or numbers m 0
  pub first : (n : ℕ) → n < length into → ((k : ℕ) → k < n → IsRoot into k) → get_or numbers n 0 ≡ n
  pub source : (k : ℕ) → k < length names → (n : ℕ) × (n < length into) × (get_or names k 0 ≡ get_or slots n 0)
  -- each new number is that of a name that leads to itself
  pub used : (k : ℕ) → k < length names → (n : ℕ) × (n < length into) × IsRoot into n × (get_or numbers n 0 ≡ k)
