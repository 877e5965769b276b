-- What a compiled function is.
use Rattle.std.specs.Prelude.{ℕ, List}
use Rattle.away_grammar.specs.Texts.{ReadsQuery}
use Rattle.away_trees.specs.declared.queries.Query.{Query}
use Rattle.away_trees.specs.declared.schemas.Schema.{Schema}
use Rattle.away_trees.specs.declared.statements.Function.{Function}
use Rattle.away_types.specs.CheckedQueries.{query_note, resolved_query}
use Rattle.away_types.specs.declared.slots.Slot.{Slot}
use Rattle.away_types.specs.Refusals.{IsUnbroken}
use Rattle.call_forms.specs.declared.forms.Forms.{Forms}
use Rattle.call_forms.specs.Tight.{Tight}
use Rattle.call_forms.specs.Useful.{Neat}
use Rattle.call_forms.specs.Writable.{HasSpelling}
use Rattle.equivalence.specs.Accepted.{AcceptedForms}
use Rattle.sql_text.specs.Refusals.{MayBeRead}

-- The text reads as the written query, which breaks no rule under the schema. The forms stand
-- between the function and the query with its names resolved. They are neat and tight, and a
-- certificate can spell them.
pub record IsCompiled (s : Schema) (f : Function) (slots : List Slot) (written : Query) (text : List ℕ) (forms : Forms) : Type 0 where
  pub may_be_read : MayBeRead text
  pub reads : ReadsQuery text written
  pub unbroken : IsUnbroken (query_note s written)
  pub accepted : AcceptedForms s f slots forms (resolved_query s written)
  pub neat : Neat forms.ssa forms.anf
  pub tight : Tight slots forms.goto forms.ssa forms.anf forms.tail
  pub spelling : HasSpelling forms
