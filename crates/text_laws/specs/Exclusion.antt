-- What excludes what, of the bytes of a file: that they read as a tree, and that they are refused.
use Rattle.std.specs.Prelude.{◌≡◌, ℕ, List, Option}
use Rattle.away_trees.specs.declared.queries.Query.{Query}
use Rattle.away_trees.specs.declared.schemas.Schema.{Schema}
use Rattle.away_trees.specs.declared.statements.Function.{Function}
use Rattle.away_trees.specs.Limits.{KeepsLimits}
use Rattle.away_grammar.specs.FunctionFile.{LexesFile}
use Rattle.away_grammar.specs.FunctionGrammar.{ReadsFunction}
use Rattle.away_grammar.specs.Nesting.{IsNesting}
use Rattle.away_grammar.specs.Texts.{ReadsQuery, ReadsSchema}
use Rattle.away_grammar.specs.Tokens.{Lexeme}
use Rattle.away_lex.specs.declared.refusals.ReadRefusal.{ReadRefusal}
use Rattle.away_lex.specs.declared.refusals.ReadRefusal.TheVariants as reading
use Rattle.away_names.specs.Schemas.{schema_note}
use Rattle.away_types.specs.CheckedQueries.{query_note}
use Rattle.away_types.specs.FunctionChecks.{function_note}
use Rattle.away_types.specs.Refusals as rules
use Rattle.away_types.specs.Refusals.{HasNoFinding, IsUnbroken}
use Rattle.away_types.specs.declared.checked.FunctionRefusal.{FunctionRefusal}
use Rattle.away_types.specs.declared.checked.FunctionRefusal.TheVariants as judging_functions
use Rattle.away_types.specs.declared.checked.RuleRefusal.{RuleRefusal}
use Rattle.away_types.specs.declared.checked.RuleRefusal.TheVariants as judging
use Rattle.cert_json.specs.Certificates as certificates
use Rattle.cert_json.specs.Forms.{Cert}
use Rattle.cert_json.specs.declared.cert.CertRefusal.{CertRefusal}
use Rattle.cert_json.specs.declared.cert.CertRefusal.TheVariants as forms
use Rattle.plsql_parse.specs.Refusals as functions
use Rattle.sql_text.specs.Refusals as texts

-- ---- tokens

abbrev pub ListsHaveOneNesting : Type 0
ListsHaveOneNesting = (tokens : List Lexeme) (nesting other : ℕ) → IsNesting tokens nesting → IsNesting tokens other → nesting ≡ other

-- the two lists of tokens of a function's file, and the offset of its first bad token
abbrev pub FilesHaveOneList : Type 0
FilesHaveOneList =
    (bytes : List ℕ) (outer outer' inner inner' : List Lexeme) (bad bad' : Option ℕ) → LexesFile bytes outer inner bad
    → LexesFile bytes outer' inner' bad' → (outer ≡ outer') × (inner ≡ inner') × (bad ≡ bad')

-- ---- what reads

abbrev pub SchemasAreNotRefused : Type 0
SchemasAreNotRefused =
    (bytes : List ℕ) (s : Schema) (why : ReadRefusal) → texts.MayBeRead bytes → ReadsSchema bytes s
    → texts.Refuses (ReadsSchema bytes) bytes why → why ≡ reading.NoMemory

abbrev pub QueriesAreNotRefused : Type 0
QueriesAreNotRefused =
    (bytes : List ℕ) (q : Query) (why : ReadRefusal) → texts.MayBeRead bytes → ReadsQuery bytes q
    → texts.Refuses (ReadsQuery bytes) bytes why → why ≡ reading.NoMemory

abbrev pub FunctionsAreNotRefused : Type 0
FunctionsAreNotRefused =
    (bytes : List ℕ) (f : Function) (why : ReadRefusal) → functions.MayBeRead bytes → ReadsFunction bytes f → KeepsLimits f
    → functions.Refuses bytes why → why ≡ reading.NoMemory

abbrev pub CertificatesAreNotRefused : Type 0
CertificatesAreNotRefused =
    (bytes : List ℕ) (c : Cert) (why : CertRefusal) → certificates.Reads bytes c → certificates.Refuses bytes why
    → why ≡ forms.NoMemory

-- ---- what breaks no rule

abbrev pub SchemasAreKept : Type 0
SchemasAreKept =
    (bytes : List ℕ) (s other : Schema) (why : RuleRefusal) → ReadsSchema bytes s → IsUnbroken (schema_note s)
    → ReadsSchema bytes other → rules.Refuses (schema_note other) why → why ≡ judging.NoMemory

abbrev pub QueriesAreKept : Type 0
QueriesAreKept =
    (tables : Schema) (bytes : List ℕ) (q other : Query) (why : RuleRefusal) → ReadsQuery bytes q → IsUnbroken (query_note tables q)
    → ReadsQuery bytes other → rules.Refuses (query_note tables other) why → why ≡ judging.NoMemory

abbrev pub FunctionsAreKept : Type 0
FunctionsAreKept =
    (tables : Schema) (bytes : List ℕ) (f other : Function) (why : FunctionRefusal) → ReadsFunction bytes f
    → HasNoFinding (function_note tables f) → ReadsFunction bytes other → rules.RefusesFunction (function_note tables other) why
    → why ≡ judging_functions.NoMemory
