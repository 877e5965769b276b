-- `explain SCHEMA FUNC` where the file doesn't begin a query: a file that is refused is told with the
-- place and the reason, an accepted function with its sizes and its faults.
use Rattle.std.specs.Prelude.{◌≡◌, ◌⊎◌, ℕ, ◌≤◌, List, [], ◌∷◌, ◌++◌, length, codes, flat_map, Some}
use Rattle.std.specs.declared.option.Option.{Option}
use Rattle.std.specs.Fmt.{decimal}
use Rattle.std.specs.Io.KnownBytes.{Appends}
use Rattle.away_trees.specs.declared.schemas.Schema.{Schema}
use Rattle.away_trees.specs.declared.statements.Function.{Function}
use Rattle.away_trees.specs.Count.{nodes}
use Rattle.away_trees.specs.Limits.{variables, loops}
use Rattle.away_values.specs.declared.values.Class.{Class}
use Rattle.cert_json.specs.Forms.{Cert}
use Rattle.inline_calls.specs.Faults.{AreFaults}
use Rattle.query_places.specs.QueryPlaces.{BeginsQuery}
use Rattle.away_top.specs.declared.status.Status.{Status}
use Rattle.away_top.specs.declared.status.Status.TheVariants.{Done}
use Rattle.away_top.specs.CompileCourse.{IsCompiledFrom}
use Rattle.away_top.specs.Course.{Exactly}
use Rattle.away_top.specs.Explanations.{ExplainedBy, Explains}
use Rattle.away_top.specs.Files.{Callable, callable_of}
use Rattle.away_top.specs.Lines.{line}
use Rattle.away_top.specs.Refusals.{IsFunction, IsSchema}

-- ---- an accepted function

-- what is counted, and how many there are
pub record Count : Type 0 where
  pub what : List ℕ
  pub found : ℕ

abbrev pub count : List ℕ → ℕ → Count
count what found = record { what = what; found = found }

-- a line each: what is counted, a blank and the number
abbrev pub count_lines : List Count → List ℕ
count_lines [] = []
count_lines (c ∷ counts) = line (c.what ++ (codes " " ++ decimal c.found)) ++ count_lines counts

-- the counts of a function as it is written
pub record OwnCounts : Type 0 where
  pub nodes : ℕ
  pub variables : ℕ
  pub loops : ℕ
  pub params : ℕ

abbrev pub own_counts : Function → OwnCounts
own_counts f = record { nodes = nodes f; variables = variables f; loops = loops f; params = length f.params }

-- these, the labels and the columns of the tail form, and the bytes of the query
abbrev pub counts : OwnCounts → Cert → ℕ → List Count
counts own forms bytes =
    count (codes "nodes") own.nodes
    ∷ count (codes "variables") own.variables
    ∷ count (codes "loops") own.loops
    ∷ count (codes "parameters") own.params
    ∷ count (codes "labels") (length forms.tail.labels)
    ∷ count (codes "columns") (length forms.tail.columns)
    ∷ count (codes "bytes") bytes
    ∷ []

abbrev pub with_blank : Class → List ℕ
with_blank c = codes " " ++ c.code

-- a blank and the code of each class, or that there is none
abbrev pub fault_words : List Class → List ℕ
fault_words [] = codes " none"
fault_words (c ∷ cs) = flat_map with_blank (c ∷ cs)

-- the lines of the counts, and one of the SQLSTATEs
abbrev pub explained_lines : OwnCounts → Cert → ℕ → List Class → List ℕ
explained_lines own forms bytes faults =
    count_lines (counts own forms bytes) ++ line (codes "faults" ++ fault_words faults)

-- They are told of a function with such counts, whose query is this text. The SQLSTATEs are those
-- with which a block fails that is reached from the entry of the goto form.
abbrev pub Tells : Schema → Callable → OwnCounts → List ℕ → Status → List ℕ → Type 0
Tells s f own made status output =
    (forms : Cert) × IsCompiledFrom s f forms made
    × ((faults : List Class) × AreFaults forms.goto faults
    × Exactly Done (explained_lines own forms (length made) faults) status output)

-- the same of a function that the file reads as
abbrev pub TellsCounts : Schema → Function → List ℕ → Status → List ℕ → Type 0
TellsCounts s f made = Tells s (callable_of s f) (own_counts f) made

-- ---- at its file

-- how a run ends at these bytes of a function's file
abbrev pub EndsOn : List ℕ → Schema → List ℕ → List ℕ → Status → List ℕ → Type 0
EndsOn func s bytes made status output =
    ExplainedBy func s bytes status output
    ⊎ ((f : IsFunction s bytes) × TellsCounts s f.written made status output)

-- ---- the whole run

-- The bytes of one file read as a schema, which breaks no rule, and those of the other as a function
-- that breaks none. The output tells its counts, those of a query that it is compiled to, and the
-- SQLSTATEs of its own faults.
pub record IsCounted (schema func output : List ℕ) : Type 0 where
  pub tables : IsSchema schema
  pub function : IsFunction tables.schema func
  pub text : List ℕ
  pub forms : Cert
  pub compiled : IsCompiledFrom tables.schema (callable_of tables.schema function.written) forms text
  pub faults : List Class
  pub are_faults : AreFaults forms.goto faults
  pub output_is : output ≡ explained_lines (own_counts function.written) forms (length text) faults

-- Where the words are those of `explain` and the files tell what they hold, of which the second one
-- doesn't begin a query, such counts were written.
abbrev pub WritesCounts : (List ℕ → Option (List ℕ)) → Option (List ℕ) → Option (List ℕ)
    → List (List ℕ) → Type 0
WritesCounts held before after words =
    (schema func tables function : List ℕ)
    → words ≡ codes "explain" ∷ schema ∷ func ∷ []
    → held schema ≡ Some tables → held func ≡ Some function → ¬ (BeginsQuery function)
    → (output : List ℕ) × IsCounted tables function output × Appends before after output

-- Where such a file was refused, and that of the schema wasn't, the place and the reason were
-- written.
abbrev pub WritesReason : (List ℕ → Option (List ℕ)) → Option (List ℕ) → Option (List ℕ)
    → List (List ℕ) → Type 0
WritesReason held before after words =
    (schema func tables function : List ℕ) (s : IsSchema tables)
    → words ≡ codes "explain" ∷ schema ∷ func ∷ []
    → held schema ≡ Some tables → length tables ≤ 67108864
    → held func ≡ Some function → length function ≤ 1048576 → ¬ (BeginsQuery function)
    → (output : List ℕ) × Explains func s.schema function output × Appends before after output
