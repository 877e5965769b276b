-- What the files of a run read as and are judged to be, and which rules they are refused by.
use Rattle.std.specs.Prelude.{◌≡◌, ◌⊎◌, ℕ, List, Some, codes}
use Rattle.away_trees.specs.declared.queries.Query.{Query}
use Rattle.away_trees.specs.declared.schemas.Schema.{Schema}
use Rattle.away_trees.specs.declared.statements.Function.{Function}
use Rattle.away_trees.specs.Limits.{KeepsLimits}
use Rattle.away_grammar.specs.FunctionGrammar.{ReadsFunction}
use Rattle.away_grammar.specs.Texts.{ReadsQuery, ReadsSchema}
use Rattle.away_lex.specs.declared.refusals.ReadRefusal.{ReadRefusal}
use Rattle.away_lex.specs.declared.refusals.ReadRefusal.TheVariants.{
  NotText,
  Token,
  NoTree,
  Outside,
  Limit,
  NoMemory,
}
use Rattle.sql_text.specs.Refusals as texts
use Rattle.plsql_parse.specs.Refusals as functions
use Rattle.away_names.specs.declared.note.Note.{Note}
use Rattle.away_names.specs.declared.rule.Rule.{Rule}
use Rattle.away_names.specs.Rules.{number}
use Rattle.away_types.specs.declared.finding.Finding.{Finding}
use Rattle.away_types.specs.declared.finding.Report.{Report}
use Rattle.away_types.specs.CheckedQueries.{query_note}
use Rattle.away_types.specs.CheckedRows.{rows_note}
use Rattle.away_types.specs.FunctionChecks.{function_note}
use Rattle.away_types.specs.Refusals.{HasNoFinding, IsUnbroken}
use Rattle.away_names.specs.Schemas.{schema_note}
use Rattle.away_top.specs.Lines.{bad_token, limit_rule, numbered_rule, outside_word}

-- The rule that a reader's refusal is printed as, with its details. Want of memory is no refusal of
-- the file.
abbrev pub IsRule : ReadRefusal → List ℕ → Type 0
IsRule NotText rule = rule ≡ codes "X1"
IsRule (Token offset) rule = rule ≡ bad_token offset
IsRule NoTree rule = rule ≡ codes "X3"
IsRule (Outside word) rule = rule ≡ outside_word word
IsRule (Limit which found) rule = rule ≡ limit_rule which found
IsRule NoMemory rule = ⊥

-- the reader refuses the bytes by the rule
abbrev pub RefusesRead : (ReadRefusal → Type 0) → List ℕ → Type 0
RefusesRead Refuses rule = (refusal : ReadRefusal) × Refuses refusal × IsRule refusal rule

-- the least rule of names, scopes and types that a tree breaks is printed so
pub record BreaksRule (note : Note) (rule : List ℕ) : Type 0 where
  pub broken : Rule
  pub least : note.least ≡ Some broken
  pub rule_is : rule ≡ numbered_rule (number broken)

-- so is that of a function, in which the first finding has it
pub record HasFinding (report : Report) (rule : List ℕ) : Type 0 where
  pub finding : Finding
  pub first : report.first ≡ Some finding
  pub rule_is : rule ≡ numbered_rule (number finding.rule)

-- ---- the schema

-- the bytes read as this schema
pub record ReadsAsSchema (bytes : List ℕ) (schema : Schema) : Type 0 where
  pub may_be_read : texts.MayBeRead bytes
  pub reads : ReadsSchema bytes schema

-- the schema that the bytes read as, which breaks no rule
pub record IsSchema (bytes : List ℕ) : Type 0 where
  pub schema : Schema
  pub reads_as : ReadsAsSchema bytes schema
  pub unbroken : IsUnbroken (schema_note schema)

-- the checked schema is the one that was read, which breaks no rule
pub record IsKept (read checked : Schema) : Type 0 where
  pub same : checked ≡ read
  pub unbroken : IsUnbroken (schema_note read)

-- it isn't read, or it breaks a rule
abbrev pub RefusesSchema : List ℕ → List ℕ → Type 0
RefusesSchema bytes rule =
    RefusesRead (texts.Refuses (ReadsSchema bytes) bytes) rule
    ⊎ ((schema : Schema) × ReadsAsSchema bytes schema × BreaksRule (schema_note schema) rule)

-- ---- the function

-- the bytes read as this function, within the limits
pub record ReadsAsFunction (bytes : List ℕ) (function : Function) : Type 0 where
  pub may_be_read : functions.MayBeRead bytes
  pub reads : ReadsFunction bytes function
  pub within_limits : KeepsLimits function

-- the function that the bytes read as, which breaks no rule over the tables of the schema
pub record IsFunction (schema : Schema) (bytes : List ℕ) : Type 0 where
  pub written : Function
  pub reads_as : ReadsAsFunction bytes written
  pub unbroken : HasNoFinding (function_note schema written)

-- it isn't read, or it breaks a rule
abbrev pub RefusesFunction : Schema → List ℕ → List ℕ → Type 0
RefusesFunction schema bytes rule =
    RefusesRead (functions.Refuses bytes) rule
    ⊎ ((function : Function) × ReadsAsFunction bytes function × HasFinding (function_note schema function) rule)

-- ---- the query

-- the bytes read as this query
pub record ReadsAsQuery (bytes : List ℕ) (query : Query) : Type 0 where
  pub may_be_read : texts.MayBeRead bytes
  pub reads : ReadsQuery bytes query

-- the query that the bytes read as, which breaks no rule over the tables of the schema
pub record IsQuery (schema : Schema) (bytes : List ℕ) : Type 0 where
  pub written : Query
  pub reads_as : ReadsAsQuery bytes written
  pub unbroken : IsUnbroken (query_note schema written)

-- it isn't read, or it breaks a rule
abbrev pub RefusesQuery : Schema → List ℕ → List ℕ → Type 0
RefusesQuery schema bytes rule =
    RefusesRead (texts.Refuses (ReadsQuery bytes) bytes) rule
    ⊎ ((query : Query) × ReadsAsQuery bytes query × BreaksRule (query_note schema query) rule)

-- ---- the query, by all of its rows

-- the query that the bytes read as, which breaks no rule over the tables of the schema but perhaps
-- the one on answers
pub record IsRowQuery (schema : Schema) (bytes : List ℕ) : Type 0 where
  pub written : Query
  pub reads_as : ReadsAsQuery bytes written
  pub unbroken : IsUnbroken (rows_note schema written)

-- it isn't read, or it breaks a rule that isn't the one on answers
abbrev pub RefusesRowQuery : Schema → List ℕ → List ℕ → Type 0
RefusesRowQuery schema bytes rule =
    RefusesRead (texts.Refuses (ReadsQuery bytes) bytes) rule
    ⊎ ((query : Query) × ReadsAsQuery bytes query × BreaksRule (rows_note schema query) rule)
