-- No command ends by itself in a read fault, in a write fault or for want of memory.
use Rattle.std.proofs.Common.{◌≡◌, ◌≢◌, inl, inr, ℕ, ◌≤◌, List, [], ◌∷◌, ◌++◌, codes, subst, sym, ◌∙◌, arith}
use Rattle.std.specs.Prelude.{Option, Some, None, Ok, Err}
use Rattle.away_values.specs.declared.values.Value.{Value}
use Rattle.away_values.specs.declared.values.Answer.TheVariants as answer
use Rattle.away_trees.specs.declared.schemas.Schema.{Schema}
use Rattle.away_trees.specs.declared.schemas.TableSchema.{TableSchema}
use Rattle.away_top.specs.declared.compile.Wanted.{Wanted}
use Rattle.away_top.specs.declared.over_tables.program.Runnable.{Runnable}
use Rattle.away_top.specs.declared.over_tables.program.Runnable.TheVariants as run
use Rattle.away_top.specs.declared.host.Files.{Ghosts as Files}
use Rattle.away_top.specs.declared.status.Status.{Status}
use Rattle.away_top.specs.declared.status.Status.TheVariants.{Done, Refused, Usage, ReadFault, WriteFault, NoMemory, More, Fault, NotAccepted, Shape}
use Rattle.csv_tables.specs.Files.{Or, rows_in}
use Rattle.away_types.specs.CheckedQueries.{resolved_query}
use Rattle.sql_meaning.specs.Context.{Rows}
use Rattle.sql_meaning.specs.Working.{sql}
use Rattle.sql_eval.specs.declared.rows_answer.RowsAnswer.TheVariants as rows
use Rattle.away_top.specs.declared.over_tables.program.Reply.{Reply}
use Rattle.away_top.specs.declared.over_tables.program.Reply.TheVariants as reply
use Rattle.away_top.specs.AnswerLines.{answer_end, value_line}
use Rattle.away_top.specs.RowRecords.{records_text, rows_end}
use Rattle.away_top.specs.Arguments.{bound_of, values_for}
use Rattle.away_top.specs.BatchCourse.{EndsWith, batch_course, place_of}
use Rattle.away_top.specs.Commands.{Command, batch, check, command_of, compile, course, course_of, demo, expand, explain, format, help, inline, no_form, over_tables, unroll, unrolled, untail, version}
use Rattle.cert_json.specs.Forms.{Cert}
use Rattle.stage_check.specs.declared.verdict.Verdict.TheVariants.{Accepted, Fails}
use Rattle.away_top.specs.Certificates.{RefusesCert, cert_course}
use Rattle.away_top.specs.CheckCourse.{IsJudgedSo, check_course, with_function, with_query, with_schema as check_schema}
use Rattle.away_top.specs.CompileCourse.{Compiles, compile_course}
use Rattle.away_top.specs.Course.{Course, and_then, ends, gives, judges, reads, Exactly, RefusedBy}
use Rattle.away_top.specs.DemoCourse.{ShowsWord}
use Rattle.away_top.specs.Files.{Asked, Callable, callable_of, function_course, query_course, schema_course}
use Rattle.away_top.specs.Programs.{Program, arguments_of, program_course, reply_of}
use Rattle.away_top.specs.RunCourse.{Tells, run_course, spelled, with_bound, with_program, with_schema, with_values}
use Rattle.away_top.specs.TableFiles.{IsTableRule, holding, table_course, table_file, tables_behind, tables_course}
use Rattle.away_top.specs.Help.{help_text, version_text}
use Rattle.away_top.specs.Lines.{line}
use Rattle.away_top.specs.Host.{Rose}
use Rattle.plsql_parse.specs.Refusals as functions
use Rattle.away_trees.specs.declared.statements.Function.{Function}
use Rattle.away_top.specs.FormatCourse.{format_course}
use Rattle.away_top.specs.ExpandCourse as expands
use Rattle.away_top.specs.ExplainCourse.{TellsCounts}
use Rattle.away_top.specs.Explanations.{ExplainedBy}
use Rattle.away_top.specs.QueryExplainCourse.{EndsOnFile, EndsOnFunction, EndsOnQuery, explain_course}
use Rattle.away_top.specs.InlineCourse as inlines
use Rattle.away_top.specs.UnrollCourse as unrolls
use Rattle.away_top.specs.UnrolledCourse as unrolleds
use Rattle.away_top.specs.UntailCourse as untails
use Rattle.away_top.specs.Refusals.{RefusesFunction, RefusesRead, RefusesQuery, RefusesRowQuery, RefusesSchema}
use Rattle.away_top.specs.Runs.{ended, Follows}
use Rattle.away_trees.specs.declared.queries.Query.{Query}
use Rattle.away_top.proofs.InlineRefusals.{told_refused}

-- a status that a command ends with by itself
abbrev pub IsPlain : Status → Type 0
IsPlain Done = Unit {0}
IsPlain Refused = Unit {0}
IsPlain Usage = Unit {0}
IsPlain ReadFault = ⊥
IsPlain WriteFault = ⊥
IsPlain NoMemory = ⊥
IsPlain More = Unit {0}
IsPlain Fault = Unit {0}
IsPlain NotAccepted = Unit {0}
IsPlain Shape = Unit {0}

abbrev pub ArePlain : (Status → List ℕ → Type 0) → Type 0
ArePlain E = (status : Status) (output : List ℕ) → E status output → IsPlain status

abbrev pub IsPlainCourse : {A : Type 0} → Course A → Type 0
IsPlainCourse (gives a) = Unit {0}
IsPlainCourse (ends E) = ArePlain E
IsPlainCourse (judges E W next) = ArePlain E × ((w : W) → IsPlainCourse (next w))
IsPlainCourse (reads name limit next) = (bytes : List ℕ) → IsPlainCourse (next bytes)

not_plain : (E : Status → List ℕ → Type 0) (bad status : Status) (output : List ℕ) → (IsPlain bad → ⊥) → status ≡ bad → ArePlain E → E status output → ⊥
not_plain E bad status output unplain is plain e = unplain (subst IsPlain is (plain status output e))

-- a read fault has its cause
pub rises : {D A : Type 0} (F : Files D) (old now after : D) (c : Course A) (status : Status) (output : List ℕ) → F.faults old ≤ F.faults now → IsPlainCourse c
    → status ≡ ReadFault → Follows F now c after (ended status output) → Rose (F.faults old) (F.faults after)
rises F old now after (gives a) status output le plain is h = absurd h.how
rises F old now after (ends E) status output le plain is h = absurd (not_plain E ReadFault status output (λ p. p) is plain h.how)
rises F old now after (judges E W next) status output le plain is (inl h) = absurd (not_plain E ReadFault status output (λ p. p) is plain.0 h.how)
rises F old now after (judges E W next) status output le plain is (inr (w, h)) = rises F old now after (next w) status output le (plain.1 w) is h
rises F old now after (reads name limit next) status output le plain is (inl h) = absurd h.how
rises F old now after (reads name limit next) status output le plain is (inr (middle, read, inl h)) = elim h.how [
  | inl (u, e) ↦ subst (λ d. Rose (F.faults old) (F.faults d)) (sym h.same) (let rose = u.count in omega arith)
  | inr (long, e) ↦ absurd (let refused : Refused ≡ ReadFault = sym e.0 ∙ is in cc)
]
rises F old now after (reads name limit next) status output le plain is (inr (middle, read, inr (bytes, holds, h))) =
    rises F old middle after (next bytes) status output (let later = read.later in omega arith) (plain bytes) is h

-- a run ends neither in want of memory nor in a write fault
pub avoids : {D A : Type 0} (F : Files D) (now after : D) (c : Course A) (bad status : Status) (output : List ℕ) → (IsPlain bad → ⊥) → bad ≢ ReadFault → IsPlainCourse c
    → status ≡ bad → Follows F now c after (ended status output) → ⊥
avoids F now after (gives a) bad status output unplain other plain is h = h.how
avoids F now after (ends E) bad status output unplain other plain is h = not_plain E bad status output unplain is plain h.how
avoids F now after (judges E W next) bad status output unplain other plain is (inl h) = not_plain E bad status output unplain is plain.0 h.how
avoids F now after (judges E W next) bad status output unplain other plain is (inr (w, h)) = avoids F now after (next w) bad status output unplain other (plain.1 w) is h
avoids F now after (reads name limit next) bad status output unplain other plain is (inl h) = h.how
avoids F now after (reads name limit next) bad status output unplain other plain is (inr (middle, read, inl h)) = elim h.how [
  | inl (u, e) ↦ other (sym is ∙ e.0)
  | inr (long, e) ↦ unplain (subst IsPlain (sym e.0 ∙ is) tt)
]
avoids F now after (reads name limit next) bad status output unplain other plain is (inr (middle, read, inr (bytes, holds, h))) =
    avoids F middle after (next bytes) bad status output unplain other (plain bytes) is h

-- ---- the commands

plain_end : (s : Status) (o : List ℕ) → IsPlain s → ArePlain (Exactly s o)
plain_end s o plain status output e = subst IsPlain (sym e.0) plain

plain_refusal : (name : List ℕ) (Rules : List ℕ → Type 0) → ArePlain (RefusedBy name Rules)
plain_refusal name Rules status output (rule, is, e) = subst IsPlain (sym e.0) tt

plain_compiled : (wanted : Wanted) (s : Schema) (f : Callable) (text : List ℕ) → ArePlain (Compiles wanted s f text)
plain_compiled wanted s f text status output (is, e) = subst IsPlain (sym e.0) tt

plain_compile : (wanted : Wanted) (schema func text : List ℕ) → IsPlainCourse (compile_course wanted schema func text)
plain_compile wanted schema func text = λ bytes. (plain_refusal schema (RefusesSchema bytes), λ s more. (plain_refusal func (RefusesFunction s.schema more), λ f. plain_compiled wanted s.schema (callable_of s.schema f.written) text))

plain_batch_end : (schema : List ℕ) (s : Schema) (f : Callable) (o : Option ℕ) (text : List ℕ) → ArePlain (EndsWith schema s f o text)
plain_batch_end schema s f None text status output e = subst IsPlain (sym e.0) tt
plain_batch_end schema s f (Some place) text status output (inl (is, e)) = subst IsPlain (sym e.0) tt
plain_batch_end schema s f (Some place) text status output (inr (lacks, e)) = subst IsPlain (sym e.0) tt

plain_batch : (schema func table text : List ℕ) → IsPlainCourse (batch_course schema func table text)
plain_batch schema func table text =
    λ bytes. (plain_refusal schema (RefusesSchema bytes), λ s more. (plain_refusal func (RefusesFunction s.schema more), λ f. plain_batch_end schema s.schema (callable_of s.schema f.written) (place_of table s.schema.tables) text))

-- ---- what is run over tables

plain_then : {A B : Type 0} (c : Course A) (next : A → Course B) → IsPlainCourse c → ((a : A) → IsPlainCourse (next a)) → IsPlainCourse (and_then c next)
plain_then (gives a) next plain rest = rest a
plain_then (ends E) next plain rest = plain
plain_then (judges E W more) next plain rest = (plain.0, λ w. plain_then (more w) next (plain.1 w) rest)
plain_then (reads name limit more) next plain rest = λ bytes. plain_then (more bytes) next (plain bytes) rest

plain_spelled : {A : Type 0} (o : Option A) → IsPlainCourse (spelled o)
plain_spelled None = plain_end Usage (line (codes "usage")) tt
plain_spelled (Some a) = tt

plain_holding : (file : List ℕ) (o : Or Rows) → IsPlainCourse (holding file o)
plain_holding file (Ok rows) = tt
plain_holding file (Err refusal) = plain_refusal file (IsTableRule refusal)

plain_tables : (dir : List ℕ) (done : List Rows) (left : List TableSchema) → IsPlainCourse (tables_behind dir done left)
plain_tables dir done [] = tt
plain_tables dir done (t ∷ left) =
    plain_then (table_course dir t) (λ rows. tables_behind dir (done ++ rows ∷ []) left) (λ bytes. plain_holding (table_file dir t.name) (rows_in t bytes)) (λ rows. plain_tables dir (done ++ rows ∷ []) left)

plain_told : (r : Reply) → ArePlain (Tells r)
plain_told (reply.Answer (answer.Value v)) = plain_end Done (value_line v) tt
plain_told (reply.Answer (answer.Fault c)) = plain_end Fault (answer_end (answer.Fault c)).1 tt
plain_told (reply.Answer answer.More) = plain_end More (answer_end answer.More).1 tt
plain_told (reply.Answer (answer.Shape n)) = plain_end Shape (answer_end (answer.Shape n)).1 tt
plain_told (reply.Rows (rows.Rows found)) = plain_end Done (records_text found) tt
plain_told (reply.Rows (rows.Fault c)) = plain_end Fault (rows_end (rows.Fault c)).1 tt
plain_told (reply.Rows rows.More) = plain_end More (rows_end rows.More).1 tt

plain_program : (what : Runnable) (s : Schema) (name : List ℕ) → IsPlainCourse (program_course what s name)
plain_program run.Query s name = λ bytes. (plain_refusal name (RefusesQuery s bytes), λ q. tt)
plain_program run.Rows s name = λ bytes. (plain_refusal name (RefusesRowQuery s bytes), λ q. tt)
plain_program run.Function s name = λ bytes. (plain_refusal name (RefusesFunction s bytes), λ f. tt)

plain_values : (bound : ℕ) (s : Schema) (p : Program) (dir : List ℕ) (values : List Value) → IsPlainCourse (with_values bound s p dir values)
plain_values bound s p dir values =
    plain_then (tables_course dir s.tables) (λ tables. ends (Tells (reply_of p tables values bound))) (plain_tables dir [] s.tables) (λ tables. plain_told (reply_of p tables values bound))

plain_arguments : (bound : ℕ) (s : Schema) (dir : List ℕ) (args : List (List ℕ)) (p : Program) → IsPlainCourse (with_program bound s dir args p)
plain_arguments bound s dir args p = plain_then (spelled (arguments_of p args)) (with_values bound s p dir) (plain_spelled (arguments_of p args)) (plain_values bound s p dir)

plain_run : (what : Runnable) (bound schema file dir : List ℕ) (args : List (List ℕ)) → IsPlainCourse (run_course what bound schema file dir args)
plain_run what bound schema file dir args =
    plain_then (spelled (bound_of bound)) (with_bound what schema file dir args) (plain_spelled (bound_of bound))
    (λ n. plain_then (schema_course schema) (with_schema what file dir args n) (λ bytes. (plain_refusal schema (RefusesSchema bytes), λ s. tt))
    (λ s. plain_then (program_course what s file) (with_program n s dir args) (plain_program what s file) (plain_arguments n s dir args)))

-- ---- a certificate

plain_verdict : (s : Schema) (f : Callable) (q : Asked) (c : Cert) → ArePlain (IsJudgedSo s f q c)
plain_verdict s f q c status output (Accepted, v, e) = subst IsPlain (sym e.0) tt
plain_verdict s f q c status output (Fails r, v, e) = subst IsPlain (sym e.0) tt

plain_cert : (s : Schema) (f : Callable) (q : Asked) (cert : List ℕ) → IsPlainCourse (with_query s f q cert)
plain_cert s f q cert = plain_then {A = Cert} {B = ⊥} (cert_course cert) (λ c. ends (IsJudgedSo s f q c)) (λ bytes. (plain_refusal cert (RefusesCert bytes), λ c. tt)) (plain_verdict s f q)

plain_judged : (s : Schema) (f : Callable) (query cert : List ℕ) → IsPlainCourse (with_function s f query cert)
plain_judged s f query cert = plain_then {A = Asked} {B = ⊥} (query_course s query) (λ q. with_query s f q cert) (λ bytes. (plain_refusal query (RefusesQuery s bytes), λ q. tt)) (λ q. plain_cert s f q cert)

plain_forms : (s : Schema) (func query cert : List ℕ) → IsPlainCourse (check_schema s func query cert)
plain_forms s func query cert =
    plain_then {A = Callable} {B = ⊥} (function_course s func) (λ f. with_function s f query cert) (λ bytes. (plain_refusal func (RefusesFunction s bytes), λ f. tt)) (λ f. plain_judged s f query cert)

plain_check : (schema func query cert : List ℕ) → IsPlainCourse (check_course schema func query cert)
plain_check schema func query cert =
    plain_then {A = Schema} {B = ⊥} (schema_course schema) (λ s. check_schema s func query cert) (λ bytes. (plain_refusal schema (RefusesSchema bytes), λ s. tt)) (λ s. plain_forms s func query cert)

-- ---- self calls

plain_untail_end : (func : List ℕ) (s : Schema) (f : Function) (text : List ℕ) → ArePlain (untails.EndsWith func s f text)
plain_untail_end func s f text status output (inl (is, e)) = subst IsPlain (sym e.0) tt
plain_untail_end func s f text status output (inr refused) = plain_refusal func (untails.OutgrowsBy s f) status output refused

plain_untail : (schema func text : List ℕ) → IsPlainCourse (untails.untail_course schema func text)
plain_untail schema func text = λ bytes. (plain_refusal schema (RefusesSchema bytes), λ s more. (plain_refusal func (untails.RefusesSelfCaller s.schema more), λ f. plain_untail_end func s.schema f.written text))

-- ---- calls of others

plain_functions : (done : List Function) (left : List (List ℕ)) → IsPlainCourse (expands.functions_behind done left)
plain_functions done [] = tt
plain_functions done (name ∷ left) =
    plain_then (expands.reading_course name) (λ f. expands.functions_behind (done ++ f ∷ []) left) (λ bytes. (plain_refusal name (RefusesRead (functions.Refuses bytes)), λ f. tt)) (λ f. plain_functions (done ++ f ∷ []) left)

plain_expand_end : (main : List ℕ) (s : Schema) (fs : List Function) (text : List ℕ) → ArePlain (expands.EndsWith main s fs text)
plain_expand_end main s fs text status output (inl (is, e)) = subst IsPlain (sym e.0) tt
plain_expand_end main s fs text status output (inr refused) = plain_refusal main (expands.OutgrowsBy s fs) status output refused

plain_program_files : (main : List ℕ) (others : List (List ℕ)) (text : List ℕ) (s : Schema) (fs : List Function) → IsPlainCourse (expands.with_functions main others text s fs)
plain_program_files main others text s fs = (λ status output refused. subst IsPlain (sym refused.1.2.0) tt, λ p. plain_expand_end main s fs text)

plain_expand : (schema main : List ℕ) (others : List (List ℕ)) (text : List ℕ) → IsPlainCourse (expands.expand_course schema main others text)
plain_expand schema main others text =
    plain_then (spelled (expands.few others)) (expands.with_others schema main text) (plain_spelled (expands.few others))
    (λ few. plain_then (schema_course schema) (expands.with_schema main few text) (λ bytes. (plain_refusal schema (RefusesSchema bytes), λ s. tt))
    (λ s. plain_then (expands.functions_course (main ∷ few)) (expands.with_functions main few text s) (plain_functions [] (main ∷ few)) (plain_program_files main few text s)))

-- ---- calls in a query

plain_inline_end : (query func : List ℕ) (s : Schema) (q : Query) (f : Callable) (text : List ℕ) → ArePlain (inlines.EndsWith query func s q f text)
plain_inline_end query func s q f text status output (inl (is, e)) = subst IsPlain (sym e.0) tt
plain_inline_end query func s q f text status output (inr (e, is, told)) = subst IsPlain (sym (told_refused query func e status output told)) tt

plain_inline : (schema query func text : List ℕ) → IsPlainCourse (inlines.inline_course schema query func text)
plain_inline schema query func text =
    λ bytes. (
      plain_refusal schema (RefusesSchema bytes),
      λ s others. (
        plain_refusal query (inlines.RefusesText others),
        λ q more. (plain_refusal func (RefusesFunction s.schema more), λ f. plain_inline_end query func s.schema q.written (callable_of s.schema f.written) text),
      ),
    )

-- ---- several turns in an iteration

plain_unroll : (turns schema func text : List ℕ) → IsPlainCourse (unrolls.unroll_course turns schema func text)
plain_unroll turns schema func text =
    plain_then (spelled (unrolls.turns_of turns)) (unrolls.with_turns schema func text) (plain_spelled (unrolls.turns_of turns))
    (λ most bytes. (plain_refusal schema (RefusesSchema bytes), λ s more. (plain_refusal func (RefusesFunction s.schema more), λ f status output end. subst IsPlain (sym end.1.0) tt)))

plain_in_turns : (bound most : ℕ) (dir text : List ℕ) (s : Schema) (f : Callable) (values : List Value) (tables : List Rows) → ArePlain (unrolleds.TellsUnrolled bound most text s f values tables)
plain_in_turns bound most dir text s f values tables status output told = plain_told (reply.Answer (sql (resolved_query s told.0.query) tables values bound)) status output told.1

plain_turn_values : (bound most : ℕ) (dir text : List ℕ) (s : Schema) (f : Callable) (values : List Value) → IsPlainCourse (unrolleds.with_values bound most dir text s f values)
plain_turn_values bound most dir text s f values =
    plain_then {A = List Rows} {B = ⊥} (tables_course dir s.tables) (λ tables. ends (unrolleds.TellsUnrolled bound most text s f values tables)) (plain_tables dir [] s.tables) (plain_in_turns bound most dir text s f values)

plain_turn_arguments : (bound most : ℕ) (dir : List ℕ) (args : List (List ℕ)) (text : List ℕ) (s : Schema) (f : Callable) → IsPlainCourse (unrolleds.with_function bound most dir args text s f)
plain_turn_arguments bound most dir args text s f =
    plain_then (spelled (values_for f.function.params args)) (unrolleds.with_values bound most dir text s f) (plain_spelled (values_for f.function.params args)) (plain_turn_values bound most dir text s f)

plain_turn_schema : (bound most : ℕ) (func dir : List ℕ) (args : List (List ℕ)) (text : List ℕ) (s : Schema) → IsPlainCourse (unrolleds.with_schema bound most func dir args text s)
plain_turn_schema bound most func dir args text s =
    plain_then {A = Callable} {B = ⊥} (function_course s func) (unrolleds.with_function bound most dir args text s) (λ bytes. (plain_refusal func (RefusesFunction s bytes), λ f. tt)) (plain_turn_arguments bound most dir args text s)

plain_unrolled : (bound turns schema func dir : List ℕ) (args : List (List ℕ)) (text : List ℕ) → IsPlainCourse (unrolleds.unrolled_course bound turns schema func dir args text)
plain_unrolled bound turns schema func dir args text =
    plain_then (spelled (bound_of bound)) (unrolleds.with_bound turns schema func dir args text) (plain_spelled (bound_of bound))
    (λ limit. plain_then (spelled (unrolls.turns_of turns)) (unrolleds.with_turns limit schema func dir args text) (plain_spelled (unrolls.turns_of turns))
    (λ most. plain_then {A = Schema} {B = ⊥} (schema_course schema) (unrolleds.with_schema limit most func dir args text) (λ bytes. (plain_refusal schema (RefusesSchema bytes), λ s. tt)) (plain_turn_schema limit most func dir args text)))

-- ---- a place and a reason, or counts

plain_explained : (func : List ℕ) (s : Schema) (bytes : List ℕ) → ArePlain (ExplainedBy func s bytes)
plain_explained func s bytes status output e = subst IsPlain (sym e.1) tt

plain_counts : (s : Schema) (f : Function) (text : List ℕ) → ArePlain (TellsCounts s f text)
plain_counts s f text status output (forms, compiled, (faults, are, e)) = subst IsPlain (sym e.0) tt

plain_function : (func : List ℕ) (s : Schema) (bytes text : List ℕ) (status : Status) (output : List ℕ) → EndsOnFunction func s bytes text status output → IsPlain status
plain_function func s bytes text status output (inl (long, e)) = subst IsPlain (sym e.0) tt
plain_function func s bytes text status output (inr (fits, inl e)) = plain_explained func s bytes status output e
plain_function func s bytes text status output (inr (fits, inr (f, told))) = plain_counts s f.written text status output told

plain_query : (func : List ℕ) (s : Schema) (bytes : List ℕ) (status : Status) (output : List ℕ) → EndsOnQuery func s bytes status output → IsPlain status
plain_query func s bytes status output (inl e) = subst IsPlain (sym e.1) tt
plain_query func s bytes status output (inr (q, told)) = subst IsPlain (sym told.0) tt

plain_file : (func : List ℕ) (s : Schema) (bytes text : List ℕ) → ArePlain (EndsOnFile func s bytes text)
plain_file func s bytes text status output (inl (begins, so)) = plain_query func s bytes status output so
plain_file func s bytes text status output (inr (unlike, so)) = plain_function func s bytes text status output so

plain_explain : (schema func text : List ℕ) → IsPlainCourse (explain_course schema func text)
plain_explain schema func text = λ bytes. (plain_refusal schema (RefusesSchema bytes), λ s more. plain_file func s.schema more text)

-- ---- a text

plain_format : (func : List ℕ) → IsPlainCourse (format_course func)
plain_format func = λ bytes. (plain_refusal func (RefusesRead (functions.Refuses bytes)), λ f status output end. subst IsPlain (sym end.1) tt)

-- ---- a case

plain_shown : (o : Option ℕ) (text : List ℕ) → ArePlain (ShowsWord o text)
plain_shown None text = plain_end Usage (line (codes "usage")) tt
plain_shown (Some number) text = λ status output shown. subst IsPlain (sym shown.2.0) tt

-- ---- all words

plain_command : (c : Command) (text : List ℕ) → IsPlainCourse (course_of c text)
plain_command help text = plain_end Done help_text tt
plain_command version text = plain_end Done version_text tt
plain_command (compile wanted schema func) text = plain_compile wanted schema func text
plain_command (batch schema func table) text = plain_batch schema func table text
plain_command (check schema func query cert) text = plain_check schema func query cert
plain_command (untail schema func) text = plain_untail schema func text
plain_command (expand schema main others) text = plain_expand schema main others text
plain_command (inline schema query func) text = plain_inline schema query func text
plain_command (unroll turns schema func) text = plain_unroll turns schema func text
plain_command (unrolled bound turns schema func dir args) text = plain_unrolled bound turns schema func dir args text
plain_command (explain schema func) text = plain_explain schema func text
plain_command (format func) text = plain_format func
plain_command (demo number) text = plain_shown (bound_of number) text
plain_command (over_tables what bound schema file dir args) text = plain_run what bound schema file dir args
plain_command no_form text = plain_end Usage (line (codes "usage")) tt

pub plain_course : (words : List (List ℕ)) (text : List ℕ) → IsPlainCourse (course words text)
plain_course words text = plain_command (command_of words) text
