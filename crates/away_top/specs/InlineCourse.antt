-- `inline SCHEMA QUERY FUNC`: the query of a file is written with its calls of a function as
-- subqueries over one recursive table.
use Rattle.std.specs.Prelude.{◌≡◌, ◌⊎◌, ℕ, List, [], ◌∷◌, Some, codes}
use Rattle.std.specs.declared.option.Option.{Option}
use Rattle.std.specs.Io.KnownBytes.{Appends}
use Rattle.away_grammar.specs.Texts.{ReadsQuery}
use Rattle.away_names.specs.Rules.{number}
use Rattle.away_trees.specs.declared.queries.Query.{Query}
use Rattle.away_trees.specs.declared.schemas.Schema.{Schema}
use Rattle.away_trees.specs.declared.statements.Function.{Function}
use Rattle.away_types.specs.CheckedFunctions.{IsChecked}
use Rattle.call_forms.specs.declared.forms.Forms.{Forms}
use Rattle.compiling.specs.Compiled.{IsCompiled}
use Rattle.inline_calls.specs.Refusing.{AreCalls}
use Rattle.inline_calls.specs.Resolving.{resolved}
use Rattle.inline_calls.specs.Written.{IsInlined, Outgrown, Refuses}
use Rattle.inline_calls.specs.declared.refusals.InlineRefusal.{InlineRefusal}
use Rattle.inline_calls.specs.declared.refusals.InlineRefusal.TheVariants as refusal
use Rattle.inline_answers.specs.Answering.{AnswersCalls, params_of}
use Rattle.inline_law.specs.Filled.{CallingSelect}
use Rattle.sql_text.specs.Refusals as texts
use Rattle.away_top.specs.declared.status.Status.{Status}
use Rattle.away_top.specs.declared.status.Status.TheVariants.{Done, Refused}
use Rattle.away_top.specs.Course.{Course, Exactly, RefusedBy, and_then, ends, gives, judges, reads}
use Rattle.away_top.specs.Files.{Callable, callable_of, function_course, schema_course}
use Rattle.away_top.specs.Lines.{nesting_rule, numbered_rule, refusal as refusal_line}
use Rattle.away_top.specs.Refusals.{IsFunction, IsSchema, ReadsAsQuery, RefusesRead}

-- ---- the query's file

-- the query that the bytes read as, whatever it names
pub record IsReadableQuery (bytes : List ℕ) : Type 0 where
  pub written : Query
  pub reads_as : ReadsAsQuery bytes written

-- some bytes read as the query
abbrev pub HasText : Query → Type 0
HasText q = (bytes : List ℕ) × ReadsQuery bytes q

-- its reader refuses the bytes by the rule
abbrev pub RefusesText : List ℕ → List ℕ → Type 0
RefusesText bytes = RefusesRead (texts.Refuses (ReadsQuery bytes) bytes)

-- the file is read, and refused by the rules of its reader alone
abbrev pub reading_course : List ℕ → Course Query
reading_course name =
    reads name 67108864
    (λ bytes. judges (RefusedBy name (RefusesText bytes)) (IsReadableQuery bytes)
    (λ q. gives q.written))

-- ---- the end

-- the query answers as the select with its calls does
abbrev pub AnswersAsCalls : Schema → Callable → CallingSelect → Query → Type 0
AnswersAsCalls s f c query =
    AnswersCalls s f.function f.slots (params_of s f.function c) (resolved s f.function c) query

-- the forms are those of the function as it is compiled
pub record AreForms (s : Schema) (f : Callable) (forms : Forms) : Type 0 where
  pub one : Query
  pub text : List ℕ
  pub compiled : IsCompiled s f.function f.slots one text forms

-- The text is that of the query with its calls of the function as subqueries, and reads as a
-- query. So this answers as the query with its calls does, where the function is checked under the
-- schema.
pub record IsInlinedOf (s : Schema) (q : Query) (f : Callable) (text : List ℕ) : Type 0 where
  pub forms : Forms
  pub are : AreForms s f forms
  pub query : Query
  pub inlined : IsInlined s f.function f.slots forms.goto forms.ssa forms.anf forms.tail q text
      query
  pub answers : (written : Function) → IsChecked s written f.function f.slots
      → AnswersAsCalls s f inlined.calls query

-- the calls aren't replaced because of this
pub record IsRefusedOf (s : Schema) (q : Query) (f : Callable) (e : InlineRefusal) : Type 0 where
  pub forms : Forms
  pub are : AreForms s f forms
  pub refuses : Refuses s f.function f.slots forms.goto forms.ssa forms.anf forms.tail q e

-- The refusal is told so: of the query's file, but where the function may come to a fault of its
-- own. Want of memory is no refusal.
abbrev pub ToldAs : List ℕ → List ℕ → InlineRefusal → Status → List ℕ → Type 0
ToldAs query func refusal.Form = Exactly Refused (refusal_line query (codes "I1"))
ToldAs query func refusal.Place = Exactly Refused (refusal_line query (codes "I2"))
ToldAs query func (refusal.Rule broken) =
    Exactly Refused (refusal_line query (numbered_rule (number broken)))
ToldAs query func refusal.Faults = Exactly Refused (refusal_line func (codes "I3"))
ToldAs query func (refusal.Nesting found) =
    Exactly Refused (refusal_line query (nesting_rule found))
ToldAs query func refusal.NoMemory = λ status output. ⊥

-- Where the query's calls may be replaced, whatever the forms of the function are: the query has
-- the form, calls stand where they may, no rule is broken, and the function comes to no fault of
-- its own. What is written nests no deeper than is read.
pub record MayBeInlined (s : Schema) (q : Query) (written : Function) : Type 0 where
  pub calls : (forms : Forms) → AreForms s (callable_of s written) forms
      → (c : CallingSelect)
      × AreCalls s (callable_of s written).function forms.goto q c
  pub small : (forms : Forms) → AreForms s (callable_of s written) forms → (found : ℕ)
      → Outgrown s (callable_of s written).function (callable_of s written).slots
      forms.goto forms.ssa forms.anf forms.tail q found → ⊥

-- the text is written, or one of the two files is refused
abbrev pub EndsWith : List ℕ → List ℕ → Schema → Query → Callable → List ℕ → Status → List ℕ
    → Type 0
EndsWith query func s q f made status output =
    (IsInlinedOf s q f made × Exactly Done made status output)
    ⊎ ((e : InlineRefusal) × IsRefusedOf s q f e × ToldAs query func e status output)

-- ---- the course

abbrev pub with_query : List ℕ → List ℕ → List ℕ → Schema → Query → Course ⊥
with_query query func made s q =
    and_then (function_course s func) (λ f. ends (EndsWith query func s q f made))

abbrev pub with_schema : List ℕ → List ℕ → List ℕ → Schema → Course ⊥
with_schema query func made s = and_then (reading_course query) (with_query query func made s)

-- the schema is judged, then the query is read, then the function is judged
abbrev pub inline_course : List ℕ → List ℕ → List ℕ → List ℕ → Course ⊥
inline_course schema query func made =
    and_then (schema_course schema) (with_schema query func made)

-- ---- the whole run

-- The bytes of one file read as a schema, those of another as a query, and those of the third as a
-- function; neither the schema nor the function breaks a rule. The output is the text of the query
-- with its calls of the function as subqueries. It reads as a query that breaks no rule but perhaps
-- the one on answers, and answers as the query with its calls does.
pub record IsInlinedFor (schema query func output : List ℕ) : Type 0 where
  pub tables : IsSchema schema
  pub calling : IsReadableQuery query
  pub function : IsFunction tables.schema func
  pub inlined : IsInlinedOf tables.schema calling.written
      (callable_of tables.schema function.written) output
  pub answers : AnswersAsCalls tables.schema (callable_of tables.schema function.written)
      inlined.inlined.calls inlined.query

-- Where the words are those of `inline` and the files tell what they hold, such a query was
-- written.
abbrev pub WritesInlined : (List ℕ → Option (List ℕ)) → Option (List ℕ) → Option (List ℕ)
    → List (List ℕ) → Type 0
WritesInlined held before after words =
    (schema query func tables calling function : List ℕ)
    → words ≡ codes "inline" ∷ schema ∷ query ∷ func ∷ []
    → held schema ≡ Some tables → held query ≡ Some calling → held func ≡ Some function
    → (output : List ℕ) × IsInlinedFor tables calling function output × Appends before after output
