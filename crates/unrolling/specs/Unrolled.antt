-- What an unrolled function is: a query in which one iteration runs several turns.
use Rattle.std.specs.Prelude.{ℕ, ◌<◌, ◌≤◌, List}
use Rattle.away_grammar.specs.Texts.{ReadsQuery}
use Rattle.away_trees.specs.declared.queries.Query.{Query}
use Rattle.away_trees.specs.declared.schemas.Schema.{Schema}
use Rattle.away_trees.specs.declared.statements.Function.{Function}
use Rattle.away_types.specs.declared.slots.Slot.{Slot}
use Rattle.away_types.specs.Refusals.{IsUnbroken}
use Rattle.sql_text.specs.Refusals.{MayBeRead}
use Rattle.turn_equivalence.specs.InTurns.{EquivalentInTurns}
use Rattle.wider_recursion.specs.Wider.{query_note_for_databases}

-- The text reads as the written query, which breaks no rule under the schema, where that on
-- recursive tables is the one of databases.
pub record IsUnrolled (s : Schema) (written : Query) (text : List ℕ) : Type 0 where
  pub may_be_read : MayBeRead text
  pub reads : ReadsQuery text written
  pub unbroken : IsUnbroken (query_note_for_databases s written)

-- The query is equivalent to the function, and an iteration of it runs so many turns: at least one,
-- and at most as many as these.
pub record EquivalentWithin (s : Schema) (f : Function) (slots : List Slot) (most : ℕ) (q : Query) : Type 0 where
  pub turns : ℕ
  pub some : 0 < turns
  pub few : turns ≤ most
  pub equivalent : EquivalentInTurns s f slots turns q
