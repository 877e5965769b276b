-- The first number of which something holds.
use Rattle.std.specs.Prelude.{ℕ, ◌<◌, Option, Some, None}

-- of no number below n
abbrev pub Nowhere : (ℕ → Type 0) → ℕ → Type 0
Nowhere Holds n = (k : ℕ) → k < n → Holds k → ⊥

-- of k, which is below n, and of none before it
pub record IsFirst (Holds : ℕ → Type 0) (n k : ℕ) : Type 0 where
  pub inside : k < n
  pub holds : Holds k
  pub before : Nowhere Holds k

-- of which number below n it holds first, if of any
abbrev pub Firstly : (ℕ → Type 0) → ℕ → Option ℕ → Type 0
Firstly Holds n None = Nowhere Holds n
Firstly Holds n (Some k) = IsFirst Holds n k
