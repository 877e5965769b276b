-- The order of two values of one kind.
use Rattle.std.proofs.Common.{◌≡◌, refl, ℕ, ℤ, List}
use Rattle.std.specs.Ordering.{nat_cmp, int_cmp, ordering_then}
use Rattle.std.specs.Cmp.Lexicographic.{slice_cmp}
use Rattle.std.specs.declared.cmp.Ordering.{Ordering}
use Rattle.std.specs.declared.cmp.Ordering.TheVariants.{Less, Equal, Greater}
use Rattle.away_values.specs.declared.values.Value.TheVariants as val
use Rattle.sql_meaning.specs.KeyOrder.{value_cmp}

then_equal : (o : Ordering) → ordering_then o Equal ≡ o
then_equal Less = refl
then_equal Equal = refl
then_equal Greater = refl

pub of_numbers : (m n : ℤ) → value_cmp (val.Int m) (val.Int n) ≡ int_cmp m n
of_numbers m n = then_equal (int_cmp m n)

pub of_texts : (s t : List ℕ) → value_cmp (val.Text s) (val.Text t) ≡ slice_cmp nat_cmp s t
of_texts s t = refl

pub ruleset value_rules = (of_numbers, of_texts)
