-- A table whose rows are calls of a function.
use Rattle.std.specs.Prelude.{◌≡◌, ℕ, ◌∷◌, map, slice_get, Some}
use Rattle.away_trees.specs.declared.schemas.ColumnSchema.{ColumnSchema}
use Rattle.away_trees.specs.declared.schemas.Schema.{Schema}
use Rattle.away_trees.specs.declared.schemas.TableSchema.{TableSchema}
use Rattle.away_trees.specs.declared.statements.Function.{Function}
use Rattle.away_values.specs.declared.types.Ty.TheVariants as ty
use Rattle.plsql_meaning.specs.Equivalent.{types_of}

-- The schema has a table at this place, its first column is bigint, and the columns behind it are
-- of the types of the function's parameters, in their order.
pub record IsCallTable (s : Schema) (place : ℕ) (f : Function) : Type 0 where
  pub table : TableSchema
  pub is : slice_get s.tables place ≡ Some table
  pub types : map (λ (c : ColumnSchema). c.ty) table.columns ≡ ty.Bigint ∷ types_of f
