-- The expressions of the fixed list read slots alone.
use Rattle.std.proofs.Common.{ℕ, List, [], ◌∷◌, map, refl}
use Rattle.away_trees.specs.declared.queries.Expr.TheBlock as b
use Rattle.block_forms.specs.Expressions.{Sources}
use Rattle.block_forms.specs.declared.fixed_list.Fixed.{Fixed}
use Rattle.block_forms.specs.declared.fixed_list.Fixed.TheVariants as fix
use Rattle.block_forms.specs.FixedList.{expression, entries, fixed_list}
use Rattle.type_soundness.specs.Sorts.{Every}
use Rattle.function_facts.specs.OverTables.{IsOverTables}

abbrev pub AreOver : ℕ → Sources → Type 0
AreOver tables = Every (IsOverTables tables)

entry_over : (tables : ℕ) (x : Fixed) → IsOverTables tables (expression x)
unfolding b.hidden-the_row-Expr-0 b.hidden-the_row-Expr-Chain-1-2-1 denote.Hole.Carrier.hidden
entry_over tables (fix.Null t) = record { reads_own = refl; single = refl }
entry_over tables (fix.IsNull t) = record { reads_own = refl; single = refl }
entry_over tables fix.NotPositive = record { reads_own = refl; single = refl }
entry_over tables fix.AtMost = record { reads_own = refl; single = refl }
entry_over tables fix.AtLeast = record { reads_own = refl; single = refl }
entry_over tables fix.PastGreatest = record { reads_own = refl; single = refl }
entry_over tables fix.PastLeast = record { reads_own = refl; single = refl }
entry_over tables fix.Sum = record { reads_own = refl; single = refl }
entry_over tables fix.Difference = record { reads_own = refl; single = refl }
entry_over tables fix.One = record { reads_own = refl; single = refl }
entry_over tables fix.Copy = record { reads_own = refl; single = refl }

all_over : (tables : ℕ) (xs : List Fixed) → AreOver tables (map expression xs)
all_over tables [] = tt
all_over tables (x ∷ xs) = (entry_over tables x, all_over tables xs)

pub fixed_over : (tables : ℕ) → AreOver tables fixed_list
fixed_over tables = all_over tables entries
