-- What fits is refused by no rule, and a file reads as one tree.
use Rattle.std.proofs.Common.{◌≡◌, ◌∙◌, inl, inr, subst, sym, ℕ, true, false, List, Some, None}
use Rattle.std.specs.Prelude.{IsSome}
use Rattle.std.specs.List.{AllByRecursion}
use Rattle.away_trees.specs.declared.queries.Query.{Query}
use Rattle.away_trees.specs.declared.schemas.Schema.{Schema}
use Rattle.away_trees.specs.declared.schemas.TableSchema.{TableSchema}
use Rattle.away_trees.specs.declared.statements.Function.{Function}
use Rattle.away_grammar.specs.Texts.{ReadsQuery, ReadsSchema}
use Rattle.away_lex.specs.declared.refusals.ReadRefusal.{ReadRefusal}
use Rattle.away_lex.specs.declared.refusals.ReadRefusal.TheVariants as reading
use Rattle.away_names.specs.Schemas.{schema_note}
use Rattle.away_types.specs.CheckedQueries.{query_note}
use Rattle.away_types.specs.CheckedRows.{rows_note}
use Rattle.away_types.specs.FunctionChecks.{function_note}
use Rattle.away_types.specs.Refusals.{HasNoFinding, IsUnbroken}
use Rattle.plsql_parse.specs.Refusals as functions
use Rattle.plsql_parse.proofs.OneFile.{one_function}
use Rattle.sql_text.specs.Refusals as texts
use Rattle.sql_text.proofs.OneTree.{one_text}
use Rattle.text_laws.proofs.Judging.{one_schema}
use Rattle.text_laws.proofs.Reading.{cert_kept, function_kept, text_kept}
use Rattle.tail_calls.specs.declared.refusals.SelfRefusal.{SelfRefusal}
use Rattle.tail_calls.specs.declared.refusals.SelfRefusal.TheVariants as self
use Rattle.tail_calls.specs.SelfCalls.{IsSelfCaller, RefusesSelf}
use Rattle.away_top.specs.UntailCourse.{IsSelfCallerFile, IsSelfRule, RefusesSelfCaller}
use Rattle.away_top.specs.declared.over_tables.program.Runnable.{Runnable}
use Rattle.away_top.specs.declared.over_tables.program.Runnable.TheVariants as run
use Rattle.away_top.specs.Certificates.{IsCert, IsCertRule, RefusesCert}
use Rattle.away_top.specs.InlineCourse.{IsReadableQuery, RefusesText}
use Rattle.away_top.specs.Files.{asked_of, callable_of, row_query_of}
use Rattle.away_top.specs.Programs.{IsProgram, arguments_of, function, program_of, query, rows}
use Rattle.away_top.specs.Refusals.{IsFunction, IsQuery, IsRowQuery, IsRule, IsSchema, ReadsAsFunction, RefusesFunction, RefusesQuery, RefusesRead, RefusesRowQuery, RefusesSchema}

-- ---- what reads as a tree that breaks no rule

-- where only want of memory is left, no rule is printed
read_kept : (Refuses : ReadRefusal → Type 0) (rule : List ℕ) → ((why : ReadRefusal) → Refuses why → why ≡ reading.NoMemory) → ¬ (RefusesRead Refuses rule)
read_kept Refuses rule kept h = subst (λ why. IsRule why rule) (kept h.0 h.1) h.2

pub schema_unrefused : {bytes : List ℕ} → IsSchema bytes → (rule : List ℕ) → ¬ (RefusesSchema bytes rule)
schema_unrefused {bytes = bytes} s rule (inl h) =
    let read = s.reads_as in
    read_kept (texts.Refuses (ReadsSchema bytes) bytes) rule (text_kept (ReadsSchema bytes) bytes read.may_be_read s.schema read.reads) h
schema_unrefused s rule (inr (other, read, breaks)) =
    let kept : IsUnbroken (schema_note other) = subst (λ t. IsUnbroken (schema_note t)) (one_schema s.reads_as.reads read.reads) s.unbroken in
    let broken = breaks.least in
    cc

-- what reads as a function within the limits is refused by no rule of its reader
pub read_unrefused : (bytes : List ℕ) (f : Function) → ReadsAsFunction bytes f → (rule : List ℕ) → ¬ (RefusesRead (functions.Refuses bytes) rule)
read_unrefused bytes f read rule = read_kept (functions.Refuses bytes) rule (function_kept bytes read.may_be_read f read.reads read.within_limits)

no_self_refusal : (schema : Schema) (f : Function) → IsSelfCaller schema f → (e : SelfRefusal) (rule : List ℕ) → RefusesSelf schema f e → IsSelfRule e rule → ⊥
no_self_refusal schema f kept self.Place rule refuses is = absurd (let wrong : false ≡ true = sym kept.places ∙ refuses in cc)
no_self_refusal schema f kept (self.Rule broken) rule refuses is =
    absurd (let wrong : None ≡ Some refuses.1.finding = sym kept.unbroken ∙ refuses.1.finds in cc)
no_self_refusal schema f kept self.NoMemory rule refuses is = is

-- what reads as a function that may call itself is refused by no rule
pub self_caller_unrefused : (schema : Schema) (bytes : List ℕ) → IsSelfCallerFile schema bytes → (rule : List ℕ) → ¬ (RefusesSelfCaller schema bytes rule)
self_caller_unrefused schema bytes f rule (inl h) = read_unrefused bytes f.written f.reads_as rule h
self_caller_unrefused schema bytes f rule (inr (other, read, (e, refuses, is))) =
    let kept : IsSelfCaller schema other = subst (λ g. IsSelfCaller schema g) (one_function f.reads_as.reads read.reads) f.unrefused in
    no_self_refusal schema other kept e rule refuses is

pub function_kept_over : (schema : Schema) (bytes : List ℕ) → IsFunction schema bytes → (rule : List ℕ) → ¬ (RefusesFunction schema bytes rule)
function_kept_over schema bytes f rule (inl h) = read_unrefused bytes f.written f.reads_as rule h
function_kept_over schema bytes f rule (inr (other, read, breaks)) =
    let kept : HasNoFinding (function_note schema other) = subst (λ g. HasNoFinding (function_note schema g)) (one_function f.reads_as.reads read.reads) f.unbroken in
    let found = breaks.first in
    cc

pub query_kept_over : (schema : Schema) (bytes : List ℕ) → IsQuery schema bytes → (rule : List ℕ) → ¬ (RefusesQuery schema bytes rule)
query_kept_over schema bytes q rule (inl h) =
    let read = q.reads_as in
    read_kept (texts.Refuses (ReadsQuery bytes) bytes) rule (text_kept (ReadsQuery bytes) bytes read.may_be_read q.written read.reads) h
query_kept_over schema bytes q rule (inr (other, read, breaks)) =
    let kept : IsUnbroken (query_note schema other) = subst (λ r. IsUnbroken (query_note schema r)) (one_text q.reads_as.reads read.reads) q.unbroken in
    let broken = breaks.least in
    cc

pub row_query_kept_over : (schema : Schema) (bytes : List ℕ) → IsRowQuery schema bytes → (rule : List ℕ) → ¬ (RefusesRowQuery schema bytes rule)
row_query_kept_over schema bytes q rule (inl h) =
    let read = q.reads_as in
    read_kept (texts.Refuses (ReadsQuery bytes) bytes) rule (text_kept (ReadsQuery bytes) bytes read.may_be_read q.written read.reads) h
row_query_kept_over schema bytes q rule (inr (other, read, breaks)) =
    let kept : IsUnbroken (rows_note schema other) = subst (λ r. IsUnbroken (rows_note schema r)) (one_text q.reads_as.reads read.reads) q.unbroken in
    let broken = breaks.least in
    cc

-- what reads as a query is refused by no rule of its reader
pub query_read_unrefused : (bytes : List ℕ) → IsReadableQuery bytes → (rule : List ℕ) → ¬ (RefusesText bytes rule)
query_read_unrefused bytes q rule =
    let read = q.reads_as in
    read_kept (texts.Refuses (ReadsQuery bytes) bytes) rule (text_kept (ReadsQuery bytes) bytes read.may_be_read q.written read.reads)

pub cert_unrefused : {bytes : List ℕ} → IsCert bytes → (rule : List ℕ) → ¬ (RefusesCert bytes rule)
cert_unrefused {bytes = bytes} c rule h = subst (λ why. IsCertRule why rule) (cert_kept bytes c.cert c.reads_as h.0 h.1) h.2

-- ---- over the one schema of a file

module _ {tables : List ℕ} (kept s : IsSchema tables) where
  pub same_schema : kept.schema ≡ s.schema
  same_schema = one_schema kept.reads_as.reads s.reads_as.reads

  pub function_unrefused : {bytes : List ℕ} → IsFunction kept.schema bytes → (rule : List ℕ) → ¬ (RefusesFunction s.schema bytes rule)
  function_unrefused {bytes = bytes} f = subst (λ schema. (rule : List ℕ) → ¬ (RefusesFunction schema bytes rule)) same_schema (function_kept_over kept.schema bytes f)

  pub query_unrefused : {bytes : List ℕ} → IsQuery kept.schema bytes → (rule : List ℕ) → ¬ (RefusesQuery s.schema bytes rule)
  query_unrefused {bytes = bytes} q = subst (λ schema. (rule : List ℕ) → ¬ (RefusesQuery schema bytes rule)) same_schema (query_kept_over kept.schema bytes q)

  pub row_query_unrefused : {bytes : List ℕ} → IsRowQuery kept.schema bytes → (rule : List ℕ) → ¬ (RefusesRowQuery s.schema bytes rule)
  row_query_unrefused {bytes = bytes} q = subst (λ schema. (rule : List ℕ) → ¬ (RefusesRowQuery schema bytes rule)) same_schema (row_query_kept_over kept.schema bytes q)

  pub tables_fit : (P : TableSchema → Type 0) → AllByRecursion P kept.schema.tables → AllByRecursion P s.schema.tables
  tables_fit P fit = subst (λ (schema : Schema). AllByRecursion P schema.tables) same_schema fit

  -- ---- the one tree of a file

  same_query : (P : Schema → Query → Type 0) {bytes : List ℕ} (p : IsQuery kept.schema bytes) (q : IsQuery s.schema bytes) → P kept.schema p.written → P s.schema q.written
  same_query P p q h = subst (λ schema. P schema q.written) same_schema (subst (P kept.schema) (one_text p.reads_as.reads q.reads_as.reads) h)

  same_row_query : (P : Schema → Query → Type 0) {bytes : List ℕ} (p : IsRowQuery kept.schema bytes) (q : IsRowQuery s.schema bytes) → P kept.schema p.written → P s.schema q.written
  same_row_query P p q h = subst (λ schema. P schema q.written) same_schema (subst (P kept.schema) (one_text p.reads_as.reads q.reads_as.reads) h)

  pub same_function : (P : Schema → Function → Type 0) {bytes : List ℕ} (f : IsFunction kept.schema bytes) (g : IsFunction s.schema bytes) → P kept.schema f.written → P s.schema g.written
  same_function P f g h = subst (λ schema. P schema g.written) same_schema (subst (P kept.schema) (one_function f.reads_as.reads g.reads_as.reads) h)

  pub same_self_caller : (P : Schema → Function → Type 0) {bytes : List ℕ} (f : IsSelfCallerFile kept.schema bytes) (g : IsSelfCallerFile s.schema bytes) → P kept.schema f.written → P s.schema g.written
  same_self_caller P f g h = subst (λ schema. P schema g.written) same_schema (subst (P kept.schema) (one_function f.reads_as.reads g.reads_as.reads) h)

  -- what spells the arguments of the one program of a file spells them again
  pub spelled_again : (what : Runnable) (bytes : List ℕ) (args : List (List ℕ)) (p : IsProgram what kept.schema bytes) (q : IsProgram what s.schema bytes)
      → IsSome (arguments_of (program_of what kept.schema bytes p) args) → IsSome (arguments_of (program_of what s.schema bytes q) args)
  spelled_again run.Query bytes args p q h = same_query (λ schema written. IsSome (arguments_of (query (asked_of schema written)) args)) p q h
  spelled_again run.Rows bytes args p q h = same_row_query (λ schema written. IsSome (arguments_of (rows (row_query_of schema written)) args)) p q h
  spelled_again run.Function bytes args p q h = same_function (λ schema written. IsSome (arguments_of (function (callable_of schema written)) args)) p q h
