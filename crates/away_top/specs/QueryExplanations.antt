-- What `explain` tells of a refused file that begins a query: where, by which rule, and why.
use Rattle.std.specs.Prelude.{◌≡◌, ◌⊎◌, ℕ, List, Some}
use Rattle.away_grammar.specs.Texts.{ReadsQuery}
use Rattle.away_lex.specs.declared.refusals.ReadRefusal.{ReadRefusal}
use Rattle.away_lex.specs.declared.refusals.ReadRefusal.TheVariants.{
  NotText,
  Token,
  NoTree,
  Outside,
  Limit,
  NoMemory,
}
use Rattle.away_names.specs.declared.rule.Rule.{Rule}
use Rattle.away_names.specs.Rules.{number}
use Rattle.away_trees.specs.declared.queries.Query.{Query}
use Rattle.away_trees.specs.declared.schemas.Schema.{Schema}
use Rattle.away_types.specs.CheckedRows.{rows_note}
use Rattle.query_places.specs.declared.stops.Stop.{Stop}
use Rattle.query_places.specs.QueryPlaces.{IsFirstToken, IsQueryDeep, IsQueryStop, IsQueryToken}
use Rattle.refusal_reasons.specs.Reasons.{query_reason, rule_reason}
use Rattle.sql_text.specs.Refusals as texts
use Rattle.text_places.specs.Lines.{IsInLine}
use Rattle.away_top.specs.declared.status.Status.{Status}
use Rattle.away_top.specs.declared.status.Status.TheVariants.{Refused}
use Rattle.away_top.specs.Explanations.{IsTold}
use Rattle.away_top.specs.Lines.{numbered_rule}
use Rattle.away_top.specs.Refusals.{IsRule, ReadsAsQuery, RefusesRowQuery}

-- ---- a file that isn't read

-- Where it is refused. That it begins a query says that it is a text without a bad token, and for
-- words outside the language no query is refused.
abbrev pub QueryRefusedAt : List ℕ → ReadRefusal → Stop → Type 0
QueryRefusedAt bytes NotText found = ⊥
QueryRefusedAt bytes (Token offset) found = ⊥
QueryRefusedAt bytes NoTree found = IsQueryStop bytes found
QueryRefusedAt bytes (Outside word) found = ⊥
QueryRefusedAt bytes (Limit which count) found = IsQueryDeep bytes found.offset
QueryRefusedAt bytes NoMemory found = ⊥

-- the reader's refusal is told at such a place
pub record IsQueryReadTold (name bytes : List ℕ) (refusal : ReadRefusal) (output : List ℕ) : Type 0 where
  pub rule : List ℕ
  pub rule_is : IsRule refusal rule
  pub found : Stop
  pub place : QueryRefusedAt bytes refusal found
  pub told : IsTold name bytes found.offset rule (query_reason refusal found.ended) output

-- The bytes aren't read as a query, and that is told.
pub record IsQueryUnread (name bytes output : List ℕ) : Type 0 where
  pub refusal : ReadRefusal
  pub refuses : texts.Refuses (ReadsQuery bytes) bytes refusal
  pub told : IsQueryReadTold name bytes refusal output

-- ---- a query that breaks a rule

-- the rule is told at the first token
pub record IsRuleTold (name bytes : List ℕ) (rule : Rule) (output : List ℕ) : Type 0 where
  pub offset : ℕ
  pub place : IsFirstToken bytes offset
  pub told : IsTold name bytes offset (numbered_rule (number rule)) (rule_reason rule) output

-- The query that the bytes read as breaks a rule but the one on answers, and the least such rule is
-- told.
pub record IsQueryBroken (name : List ℕ) (s : Schema) (bytes output : List ℕ) : Type 0 where
  pub query : Query
  pub reads_as : ReadsAsQuery bytes query
  pub broken : Rule
  pub least : (rows_note s query).least ≡ Some broken
  pub told : IsRuleTold name bytes broken output

-- ---- a refused file

abbrev pub ExplainsQuery : List ℕ → Schema → List ℕ → List ℕ → Type 0
ExplainsQuery name s bytes output = IsQueryUnread name bytes output ⊎ IsQueryBroken name s bytes output

abbrev pub QueryExplainedBy : List ℕ → Schema → List ℕ → Status → List ℕ → Type 0
QueryExplainedBy name s bytes status output = ExplainsQuery name s bytes output × (status ≡ Refused)

-- ---- what each of them says

-- A rule that refuses the file in `rows` too is told at a token of it, for a reason of one line.
pub record IsQueryExplanation (name : List ℕ) (s : Schema) (bytes output : List ℕ) : Type 0 where
  pub rule : List ℕ
  pub refuses : RefusesRowQuery s bytes rule
  pub offset : ℕ
  pub place : IsQueryToken bytes offset
  pub reason : List ℕ
  pub one_line : IsInLine reason
  pub told : IsTold name bytes offset rule reason output

abbrev pub AreQueryExplanations : Type 0
AreQueryExplanations = (name bytes output : List ℕ) (s : Schema)
    → ExplainsQuery name s bytes output → IsQueryExplanation name s bytes output
