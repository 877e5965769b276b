-- The working tables of a recursive query, and what it answers at a bound.
use Rattle.std.specs.Prelude.{
  ℕ,
  zero,
  suc,
  if◌then◌else◌,
  List,
  [],
  ◌∷◌,
  ◌++◌,
  length,
  Option,
  Some,
  None,
  Ok,
  Err,
}
use Rattle.away_values.specs.declared.values.Value.{Value}
use Rattle.away_values.specs.declared.values.Value.TheVariants as val
use Rattle.away_values.specs.declared.values.Answer.{Answer}
use Rattle.away_values.specs.declared.values.Answer.TheVariants as answer
use Rattle.away_trees.specs.declared.queries.Query.{Query}
use Rattle.away_values.specs.Classes.{is_class}
use Rattle.away_values.specs.Results.{Or, and_then, mapped, class}
use Rattle.away_trees.specs.Algebra.{query_of}
use Rattle.sql_meaning.specs.Context.{Rows, outermost}
use Rattle.sql_meaning.specs.Expressions.{SelectMeaning, RecursiveMeaning}
use Rattle.sql_meaning.specs.Meaning.{meaning}

-- an answer at a bound: None where the bound doesn't suffice
abbrev pub Bounded : Type 0 → Type 0
Bounded A = Option (Or A)

-- the recursive table stands after the tables of the schema
abbrev pub with_table : List Rows → Rows → List Rows
with_table tables rows = tables ++ rows ∷ []

-- one evaluation of the second term, over a working table
abbrev pub next_rows : RecursiveMeaning → List Rows → List Value → Rows → Or Rows
next_rows r tables args rows = r.second (outermost (with_table tables rows) args)

-- The working tables: the rows of the first term, and then those of the second term over the
-- working table before. (PostgreSQL manual, WITH Queries: Recursive Queries.)
abbrev pub working : RecursiveMeaning → List Rows → List Value → ℕ → Or Rows
working r tables args zero = r.first (outermost tables args)
working r tables args (suc i) = and_then (working r tables args i) (next_rows r tables args)

-- the working tables up to the i-th, one after the other
abbrev pub all_working : RecursiveMeaning → List Rows → List Value → ℕ → Or Rows
all_working r tables args zero = working r tables args zero
all_working r tables args (suc i) = and_then (all_working r tables args i) (λ before. mapped (λ rows. before ++ rows) (working r tables args (suc i)))

-- `done` has the rows of the working tables before `now`, and k more tables may follow it
abbrev pub worked : (Rows → Or Rows) → ℕ → Rows → Or Rows → Bounded Rows
worked step k done (Err c) = Some (Err c)
worked step k done (Ok []) = Some (Ok done)
worked step zero done (Ok (row ∷ more)) = None
worked step (suc k) done (Ok (row ∷ more)) = worked step k (done ++ row ∷ more) (step (row ∷ more))

-- The recursive table at a bound: the working tables up to the first empty one, the class of one
-- that faults before, or None where none up to the bound is either. (PostgreSQL manual, WITH
-- Queries. The bound is our own.)
abbrev pub recursive_table : RecursiveMeaning → List Rows → List Value → ℕ → Bounded Rows
recursive_table r tables args k = worked (next_rows r tables args) k [] (r.first (outermost tables args))

-- the selects of a query over the recursive table
abbrev pub over_table : SelectMeaning → List Rows → List Value → Bounded Rows → Bounded Rows
over_table rows tables args None = None
over_table rows tables args (Some (Err c)) = Some (Err c)
over_table rows tables args (Some (Ok table)) = Some (rows (outermost (with_table tables table) args))

abbrev pub rows_with : Option RecursiveMeaning → SelectMeaning → List Rows → List Value → ℕ → Bounded Rows
rows_with None rows tables args k = Some (rows (outermost tables args))
rows_with (Some r) rows tables args k = over_table rows tables args (recursive_table r tables args k)

-- The rows of a whole query at a bound, or the class of its fault.
abbrev pub rows : Query → List Rows → List Value → ℕ → Bounded Rows
rows q = rows_with (query_of meaning q).recursive (query_of meaning q).rows

-- ---- the answer

-- One row of a value and NULL is that value, one row of NULL and a class is that fault, and other
-- rows are told by their number. (Our own.)
abbrev pub answer_of_rows : Rows → Answer
answer_of_rows ((v ∷ val.Null ∷ []) ∷ []) = answer.Value v
answer_of_rows ((val.Null ∷ val.Text t ∷ []) ∷ []) = if is_class t then answer.Fault (class t) else answer.Shape 1
answer_of_rows rows = answer.Shape (length rows)

abbrev pub answered : Bounded Rows → Answer
answered None = answer.More
answered (Some (Err c)) = answer.Fault c
answered (Some (Ok rows)) = answer_of_rows rows

-- The answer of a query at a bound: what its rows say.
abbrev pub sql : Query → List Rows → List Value → ℕ → Answer
sql q tables args k = answered (rows q tables args k)
