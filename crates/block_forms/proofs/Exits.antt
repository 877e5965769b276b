-- The parts of an EXIT: where they stand they are those of a CONTINUE, and what holds of both is shown for both.
use Rattle.std.proofs.Common.{◌≡◌, refl, ℕ, Bool, true, false, List, [], ◌∷◌, Option}
use Rattle.std.specs.Prelude.{nat_eq, if◌then◌else◌}
use Rattle.away_trees.specs.declared.queries.Expr.{Expr}
use Rattle.block_forms.specs.declared.forms.Goto.{Goto}
use Rattle.block_forms.specs.declared.places.Numbers.{Numbers}
use Rattle.block_forms.specs.Lowered.{AllStand}
use Rattle.block_forms.specs.Patterns.{Part, never, leave_parts, exit_parts}

module _ (g : Goto) (n : Numbers) (when : Option Expr) (k b to next : ℕ) where
  abbrev Leaves : List Part
  Leaves = leave_parts g n when k b to next

  pub exit_leaves : AllStand g.blocks (exit_parts g n when k b to next) → exit_parts g n when k b to next ≡ Leaves
  exit_leaves h = by (nat_eq b g.entry) h
    where
      by : (v : Bool) → AllStand g.blocks (if v then never ∷ [] else Leaves) → (if v then never ∷ [] else Leaves) ≡ Leaves
      by true h = absurd h.0
      by false h = refl

  pub exit_either : (P : List Part → Type 0) → P (never ∷ []) → P Leaves → P (exit_parts g n when k b to next)
  exit_either P x y = by (nat_eq b g.entry)
    where
      by : (v : Bool) → P (if v then never ∷ [] else Leaves)
      by true = x
      by false = y
