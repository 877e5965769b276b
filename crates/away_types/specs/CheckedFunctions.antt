-- What a checked function is.
use Rattle.std.specs.Prelude.{◌≡◌, List}
use Rattle.away_trees.specs.declared.schemas.Schema.{Schema}
use Rattle.away_trees.specs.declared.statements.Function.{Function}
use Rattle.away_types.specs.declared.slots.Slot.{Slot}
use Rattle.away_types.specs.FunctionChecks.{function_note, resolved_function, slots_of}
use Rattle.away_trees.specs.Limits.{KeepsLimits}
use Rattle.away_types.specs.Refusals.{HasNoFinding}

-- The function and its slots are the checked ones of a written function that breaks no rule under
-- the schema.
pub record IsChecked (s : Schema) (written checked : Function) (slots : List Slot) : Type 0 where
  pub unbroken : HasNoFinding (function_note s written)
  pub function : checked ≡ resolved_function s written
  pub slots_are : slots ≡ slots_of s written

-- They are those of some written function under some schema, which keeps the limits.
pub record IsCheckedOfSome (checked : Function) (slots : List Slot) : Type 0 where
  pub schema : Schema
  pub written : Function
  pub limits : KeepsLimits written
  pub checked_is : IsChecked schema written checked slots
