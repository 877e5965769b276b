-- `demo N`: the case of a number is compiled, its function and its query are run, and a summary is
-- told.
use Rattle.std.specs.Prelude.{◌≡◌, ℕ, List, [], ◌∷◌, ◌++◌, Option, Some, None, codes}
use Rattle.std.specs.Fmt.{decimal}
use Rattle.std.specs.Io.KnownBytes.{Appends}
use Rattle.std.specs.List.{concat}
use Rattle.demonstration.specs.Summary.{IsSummary}
use Rattle.demonstration.specs.declared.summary.Summary.{Summary}
use Rattle.away_top.specs.declared.status.Status.{Status}
use Rattle.away_top.specs.declared.status.Status.TheVariants.{Done, Usage}
use Rattle.away_top.specs.AnswerLines.{answer_end}
use Rattle.away_top.specs.Arguments.{bound_of}
use Rattle.away_top.specs.Course.{Exactly}
use Rattle.away_top.specs.Lines.{line}

-- ---- its lines

-- a word and a number
abbrev pub count_line : List ℕ → ℕ → List ℕ
count_line word count = line (word ++ decimal count)

abbrev pub iterations_line : Option ℕ → List ℕ
iterations_line None = line (codes "iterations more")
iterations_line (Some least) = count_line (codes "iterations ") least

-- the lines of the answers are those that tell them alone, behind a word
abbrev pub summary_lines : Summary → List ℕ
summary_lines s =
    concat (count_line (codes "demo ") s.number ∷ count_line (codes "nodes ") s.nodes ∷ count_line (codes "bytes ") s.bytes
    ∷ (codes "function " ++ (answer_end s.runs.function).1)
    ∷ (codes "query " ++ (answer_end s.runs.query).1) ∷ iterations_line s.runs.iterations ∷ [])

-- the end of a run that tells of the case, whatever the two answers are
abbrev pub Shows : ℕ → List ℕ → Status → List ℕ → Type 0
Shows number text status output = (summary : Summary) × IsSummary number text summary × Exactly Done (summary_lines summary) status output

-- the end of a run for a word that spells a number, or none
abbrev pub ShowsWord : Option ℕ → List ℕ → Status → List ℕ → Type 0
ShowsWord None text = Exactly Usage (line (codes "usage"))
ShowsWord (Some number) text = Shows number text

-- ---- the whole run

-- the word spells a number, and the output is a summary of its case
pub record IsShown (word output : List ℕ) : Type 0 where
  pub number : ℕ
  pub number_is : bound_of word ≡ Some number
  pub text : List ℕ
  pub summary : Summary
  pub is : IsSummary number text summary
  pub output_is : output ≡ summary_lines summary

-- Where the words are those of `demo`, a summary of its case was written.
abbrev pub ShowsCase : Option (List ℕ) → Option (List ℕ) → List (List ℕ) → Type 0
ShowsCase before after words =
    (word : List ℕ) → words ≡ codes "demo" ∷ word ∷ []
    → (output : List ℕ) × IsShown word output × Appends before after output
