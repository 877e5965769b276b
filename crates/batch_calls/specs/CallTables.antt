-- The columns of a table whose rows are calls of a function.
pub use Rattle.batch_law.specs.CallTables.{IsCallTable}
use Rattle.std.specs.Prelude.{◌≡◌, ℕ, List, ◌∷◌, map}
use Rattle.away_trees.specs.declared.schemas.ColumnSchema.{ColumnSchema}
use Rattle.away_trees.specs.declared.schemas.TableSchema.{TableSchema}
use Rattle.away_trees.specs.declared.statements.Function.{Function}
use Rattle.away_values.specs.declared.types.Ty.{Ty}
use Rattle.away_values.specs.declared.types.Ty.TheVariants as ty

abbrev pub column_type : ColumnSchema → Ty
column_type c = c.ty

abbrev pub parameter_type : List ℕ × Ty → Ty
parameter_type p = p.1

-- A bigint, and behind it columns of the types of the function's parameters, in their order.
abbrev pub HasColumnsOf : Function → TableSchema → Type 0
HasColumnsOf f t = map column_type t.columns ≡ ty.Bigint ∷ map parameter_type f.params
