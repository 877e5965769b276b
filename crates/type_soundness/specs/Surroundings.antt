-- The values that an expression sees where it stands, and the types that the typing has there.
use Rattle.std.specs.Prelude.{List, [], ◌∷◌}
use Rattle.std.specs.List.{AllZip}
use Rattle.away_values.specs.declared.types.Ty.{Ty}
use Rattle.away_values.specs.declared.values.Value.{Value}
use Rattle.type_soundness.specs.Sorts.{IsOf, Every}
use Rattle.away_typing.specs.Typing.{Places}
use Rattle.away_typing.specs.Typing as typing
use Rattle.sql_meaning.specs.Context.{Rows, Frame, Context}

-- one value for each type, of that type
abbrev pub IsRow : List Ty → List Value → Type 0
IsRow = AllZip IsOf

abbrev pub AreRows : List Ty → Rows → Type 0
AreRows ts = Every (IsRow ts)

-- Tables of these types. One that is missing has no rows, as the recursive table has none while the
-- first term is evaluated.
abbrev pub AreTables : List (List Ty) → List Rows → Type 0
AreTables types [] = Unit {0}
AreTables [] (rows ∷ more) = Unit {0}
AreTables (ts ∷ types) (rows ∷ more) = AreRows ts rows × AreTables types more

-- a row of FROM: a row of each item
abbrev pub IsFrame : typing.Frame → Frame → Type 0
IsFrame = AllZip IsRow

-- the same, or no row, which is what LIMIT and a list with aggregates see of their own FROM
abbrev pub IsSeen : typing.Frame → Frame → Type 0
IsSeen types [] = Unit {0}
IsSeen types (row ∷ more) = IsFrame types (row ∷ more)

-- a row that aggregates go over is one of the innermost select; outside every select there is none
abbrev pub IsOfGroup : List typing.Frame → Frame → Type 0
IsOfGroup [] frame = ⊥
IsOfGroup (types ∷ outer) frame = IsFrame types frame

-- The variables, the rows of enclosing selects and the tables have the types that the typing has
-- there.
pub record Fit (p : Places) (cx : Context) : Type 0 where
  pub variables : IsRow p.slots cx.env
  pub frames : AllZip IsSeen p.frames cx.frames
  pub tables : AreTables p.tables cx.tables
  pub group : Every (IsOfGroup p.frames) cx.group
