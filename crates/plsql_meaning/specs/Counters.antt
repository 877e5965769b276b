-- The counter of a FOR, by whole numbers.
use Rattle.std.specs.Prelude.{◌≡◌, ℤ, pos, negsuc, ◌≤ℤ◌, Option, Some, None, Ok}
use Rattle.away_values.specs.declared.values.Value.{Value}
use Rattle.away_values.specs.declared.values.Value.TheVariants as val
use Rattle.away_values.specs.Results.{Or}

-- a whole number from -2147483648 to 2147483647
pub record IsInteger (n : ℤ) : Type 0 where
  pub from : negsuc 2147483647 ≤ℤ n
  pub to : n ≤ℤ pos 2147483647

-- The next counter is the whole number where that is an integer, and the loop ends where it isn't.
pub record CountsTo (n : ℤ) (next : Or (Option Value)) : Type 0 where
  pub within : IsInteger n → next ≡ Ok (Some (val.Int n))
  pub beyond : (IsInteger n → ⊥) → next ≡ Ok None
