-- The working tables of a query whose rows carry values, beside those of the query of one call.
use Rattle.std.specs.Prelude.{
  ◌≡◌,
  ℕ,
  suc,
  ◌<◌,
  true,
  pos,
  List,
  [],
  ◌∷◌,
  ◌++◌,
  map,
  length,
  Option,
  Some,
  None,
  Ok,
}
use Rattle.away_trees.specs.declared.queries.Query.{Query}
use Rattle.away_trees.specs.Algebra.{query_of}
use Rattle.away_values.specs.declared.types.Ty.{Ty}
use Rattle.away_values.specs.declared.values.Value.{Value}
use Rattle.away_values.specs.declared.values.Value.TheVariants as val
use Rattle.away_values.specs.Results.{Or, mapped, each_joined}
use Rattle.sql_meaning.specs.Context.{Rows}
use Rattle.sql_meaning.specs.Expressions.{RecursiveMeaning}
use Rattle.sql_meaning.specs.Meaning.{meaning}
use Rattle.sql_meaning.specs.Working.{working}
use Rattle.block_forms.specs.Runs.{Frame}
use Rattle.call_forms.specs.declared.forms.Anf.{Anf}
use Rattle.call_forms.specs.declared.forms.Tail.{Tail}
use Rattle.call_forms.specs.TailRuns.{entry_label, first_row}
use Rattle.together.specs.Tables.{IsFine}

-- the i-th working table of a recursive part, and no row where there is none
abbrev pub table_in : Option RecursiveMeaning → List Rows → List Value → ℕ → Or Rows
table_in None tables args i = Ok []
table_in (Some r) tables args i = working r tables args i

-- the i-th working table of a query, with no row where nothing recurs
abbrev pub working_table : Query → List Rows → List Value → ℕ → Or Rows
working_table q = table_in (query_of meaning q).recursive

-- values behind the first two columns of a row
abbrev pub with_values : List Value → List Value → List Value
with_values xs (go ∷ label ∷ row) = go ∷ label ∷ (xs ++ row)
with_values xs row = row

-- the values that a start carries, and the arguments of its call
abbrev pub Start : Type 0
Start = List Value × List Value

-- TRUE, the entry's label, the carried values, the arguments in their places, and no result
abbrev pub start_row : Frame → Anf → Tail → Start → List Value
start_row frame anf tail s =
    val.Bool true
    ∷ val.Int (pos (suc (entry_label frame anf tail)))
    ∷ (s.0 ++ (first_row frame anf tail s.1 ++ (val.Null ∷ val.Null ∷ [])))

-- each start carries as many values as there are types
abbrev pub AreCarried : List Ty → List Start → Type 0
AreCarried carried [] = Unit {0}
AreCarried carried (s ∷ ss) = (length s.0 ≡ length carried) × AreCarried carried ss

-- no query of one call faults by its i-th working table
abbrev pub AllFine : Query → List Rows → ℕ → List Start → Type 0
AllFine one tables i [] = Unit {0}
AllFine one tables i (s ∷ ss) = IsFine (working_table one tables s.1 i) × AllFine one tables i ss

-- While no query of one call has faulted before it, the i-th working table is the join, in row
-- order, of those of each call, with the start's carried values. The first class in row order is
-- that of the whole.
abbrev pub IsJoined : Query → Query → List Rows → List Value → List Start → ℕ → Type 0
IsJoined q one tables args starts i =
    ((j : ℕ) → j < i → AllFine one tables j starts)
    → working_table q tables args i
    ≡ each_joined
    (λ (s : Start). mapped (map (with_values s.0)) (working_table one tables s.1 i)) starts
