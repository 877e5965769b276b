-- What a function runs over.
use Rattle.std.specs.Prelude.{Bool, List, map}
use Rattle.away_values.specs.declared.types.Ty.{Ty}
use Rattle.away_types.specs.declared.slots.Slot.{Slot}
use Rattle.sql_meaning.specs.Context.{Rows}
use Rattle.plsql_meaning.specs.Functions.{over_slots}
use Rattle.plsql_meaning.specs.Statements.{Setting}

abbrev pub types_of : List Slot → List Ty
types_of = map (λ (x : Slot). x.ty)

-- whether each slot is NOT NULL
abbrev pub not_nulls : List Slot → List Bool
not_nulls = map (λ (x : Slot). x.not_null)

-- the rows of the tables, the types of the slots, and whether each is NOT NULL
pub record Held : Type 0 where
  pub tables : List Rows
  pub types : List Ty
  pub not_null : List Bool

-- what expressions and statements mean there
abbrev pub meant : Held → Setting
meant h = over_slots h.tables h.types h.not_null
