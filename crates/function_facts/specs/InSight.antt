-- That an expression reads slots in sight alone.
use Rattle.std.specs.Prelude.{◌≡◌, ℕ, Bool, true, ◌==◌, List}
use Rattle.std.specs.List.{list_any}
use Rattle.away_trees.specs.declared.statements.Function.{Function}
use Rattle.sql_meaning.specs.Reads.{Read, Slot, reads}
use Rattle.type_soundness.specs.Sorts.{Every}
use Rattle.function_facts.specs.Sight.{Sighted, sighted}

abbrev pub is_among : ℕ → List ℕ → Bool
is_among i = list_any (λ j. i == j)

abbrev pub IsSeen : List ℕ → Read → Type 0
IsSeen sight (Slot i) = is_among i sight ≡ true
IsSeen sight _ = Unit {0}

abbrev pub ReadsInSight : Sighted → Type 0
ReadsInSight x = Every (IsSeen x.sight) (reads x.expr)

-- Each slot that an expression of the function reads is a parameter, or a variable declared before
-- it in a block around it, or the variable of a FOR around it.
abbrev pub AllInSight : Function → Type 0
AllInSight f = Every ReadsInSight (sighted f)
