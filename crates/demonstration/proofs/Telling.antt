-- What is told of a compiled function.
use Rattle.std.proofs.Common.{List, ℕ, Result, Ok, Err, IfOk}
use Rattle.away_values.specs.declared.errors.NoMemory.{NoMemory}
use Rattle.away_trees.specs.declared.queries.Query.{Query}
use Rattle.away_trees.specs.declared.schemas.Schema.{Schema}
use Rattle.away_trees.specs.declared.statements.Function.{Function}
use Rattle.away_types.specs.declared.slots.Slot.{Slot}
use Rattle.demonstration.specs.CompiledQuery.{IsCompiledText, IsCompiledQuery, HasText}
use Rattle.demonstration.specs.declared.compiled.CompiledQuery.{CompiledQuery}

pub told_is : (s : Schema) (f : Function) (slots : List Slot) (written : Query) (text : List ℕ) (result : Result CompiledQuery NoMemory) → IsCompiledText s f slots written text
    → IfOk result (HasText s written text) → IfOk result (λ told. (text : List ℕ) × IsCompiledQuery s f slots text told)
told_is s f slots written text (Ok told) compiled tells = (text, record { written = written; compiled = compiled; tells = tells })
told_is s f slots written text (Err e) compiled tells = tt
