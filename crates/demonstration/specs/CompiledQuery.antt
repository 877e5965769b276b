-- What is told of a compiled function.
use Rattle.std.specs.Prelude.{◌≡◌, ℕ, List, length}
use Rattle.away_trees.specs.declared.queries.Query.{Query}
use Rattle.away_trees.specs.declared.schemas.Schema.{Schema}
use Rattle.away_trees.specs.declared.statements.Function.{Function}
use Rattle.away_types.specs.CheckedFunctions.{IsChecked}
use Rattle.away_types.specs.CheckedQueries.{resolved_query}
use Rattle.away_types.specs.declared.slots.Slot.{Slot}
use Rattle.call_forms.specs.declared.forms.Forms.{Forms}
use Rattle.compiling.specs.Compiled.{IsCompiled}
use Rattle.equivalence.specs.Accepted.{EquivalentWith}
use Rattle.demonstration.specs.declared.compiled.CompiledQuery.{CompiledQuery}

-- The text is compiled from the function over the tables of the schema. So the query that it reads
-- as is equivalent to the function, where that is checked under the schema.
pub record IsCompiledText (s : Schema) (f : Function) (slots : List Slot) (written : Query) (text : List ℕ) : Type 0 where
  pub forms : Forms
  pub compiled : IsCompiled s f slots written text forms
  pub equivalent : (read : Function) → IsChecked s read f slots → EquivalentWith s f slots (resolved_query s written)

-- the query with its names resolved, and the length of its text
pub record HasText (s : Schema) (written : Query) (text : List ℕ) (told : CompiledQuery) : Type 0 where
  pub query_is : told.query.query ≡ resolved_query s written
  pub bytes_are : told.bytes ≡ length text

-- they are those of the compiled function
pub record IsCompiledQuery (s : Schema) (f : Function) (slots : List Slot) (text : List ℕ) (told : CompiledQuery) : Type 0 where
  pub written : Query
  pub compiled : IsCompiledText s f slots written text
  pub tells : HasText s written text told
