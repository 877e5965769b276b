-- What it is that comparison is an order.
use Rattle.std.specs.Prelude.{◌≡◌, ◌⊎◌, ◌↔◌, ℕ, ◌<◌, true, false, ℤ, ◌<ℤ◌, List, ◌∷◌, ◌++◌}
use Rattle.away_values.specs.declared.values.Value.{Value}
use Rattle.away_values.specs.declared.values.Value.TheVariants as val
use Rattle.away_values.specs.declared.operators.CmpOp.{CmpOp}
use Rattle.away_values.specs.declared.operators.CmpOp.TheVariants as cmp
use Rattle.away_values.specs.declared.types.Ty.{Ty}
use Rattle.away_values.specs.Operators.{compare}
use Rattle.away_values.specs.Values.{IsThere}

-- the comparison is true
abbrev pub Holds : CmpOp → Value → Value → Type 0
Holds op a b = compare op a b ≡ val.Bool true

-- `<=` is a total order on the values of the type that are there, and the other five comparisons
-- are that order's. Each is true or false, and never NULL.
pub record IsOrdered (t : Ty) : Type 0 where
  pub decided : (op : CmpOp) (a b : Value) → IsThere t a → IsThere t b → (compare op a b ≡ val.Bool true) ⊎ (compare op a b ≡ val.Bool false)
  pub total : (a b : Value) → IsThere t a → IsThere t b → Holds cmp.Le a b ⊎ Holds cmp.Le b a
  pub transitive : (a b c : Value) → IsThere t a → IsThere t b → IsThere t c → Holds cmp.Le a b → Holds cmp.Le b c → Holds cmp.Le a c
  pub antisymmetric : (a b : Value) → IsThere t a → IsThere t b → Holds cmp.Le a b → Holds cmp.Le b a → a ≡ b
  pub equal : (a b : Value) → IsThere t a → IsThere t b → (Holds cmp.Eq a b) ↔ (a ≡ b)
  pub unequal : (a b : Value) → IsThere t a → IsThere t b → (Holds cmp.Ne a b) ↔ (a ≡ b → ⊥)
  pub less : (a b : Value) → IsThere t a → IsThere t b → (Holds cmp.Lt a b) ↔ (Holds cmp.Le a b × (a ≡ b → ⊥))
  pub greater : (a b : Value) → IsThere t a → IsThere t b → (Holds cmp.Gt a b) ↔ (Holds cmp.Lt b a)
  pub at_least : (a b : Value) → IsThere t a → IsThere t b → (Holds cmp.Ge a b) ↔ (Holds cmp.Le b a)

-- the text b goes on where a ends
abbrev pub Continues : List ℕ → List ℕ → Type 0
Continues a b = (y : ℕ) × ((ys : List ℕ) × (b ≡ a ++ (y ∷ ys)))

-- at the first place where the texts differ, a has the lesser code point
abbrev pub FirstDiffersBelow : List ℕ → List ℕ → Type 0
FirstDiffersBelow a b = (p : List ℕ)
    × ((x : ℕ) × ((xs : List ℕ)
    × ((y : ℕ) × ((ys : List ℕ) × ((a ≡ p ++ (x ∷ xs)) × (b ≡ p ++ (y ∷ ys)) × (x < y))))))

-- Which order it is: numbers by their values, false before true, texts by the first code point in
-- which they differ.
pub record IsTheOrder : Type 0 where
  pub numbers : (a b : ℤ) → (Holds cmp.Lt (val.Int a) (val.Int b)) ↔ (a <ℤ b)
  pub truth : Holds cmp.Lt (val.Bool false) (val.Bool true)
  pub texts : (a b : List ℕ) → (Holds cmp.Lt (val.Text a) (val.Text b)) ↔ (Continues a b ⊎ FirstDiffersBelow a b)
