-- Where an expression stands, and what it sees there.
use Rattle.std.specs.Prelude.{ℕ, zero, suc, List, [], ◌∷◌, drop, slice_index_or}
use Rattle.away_values.specs.declared.values.Value.{Value}
use Rattle.away_values.specs.declared.values.Value.TheVariants as val
use Rattle.away_trees.specs.declared.queries.Col.{Col}

-- the rows of a table or of a query, in their order
abbrev pub Rows : Type 0
Rows = List (List Value)

-- a row of FROM: for each of its items, the values of the item's columns
abbrev pub Frame : Type 0
Frame = List (List Value)

-- The variables of the function, the parameters of the query, the row of FROM of each enclosing
-- select (the innermost first), the rows of the tables by their places, and the rows that
-- aggregates go over.
pub record Context : Type 0 where
  pub env : List Value
  pub args : List Value
  pub frames : List Frame
  pub tables : List Rows
  pub group : List Frame

-- the value at a place of a row, NULL where the row ends before it
abbrev pub at : List Value → ℕ → Value
at vs i = slice_index_or vs i val.Null

-- the value of a column: of a select by its level, of an item there, at a place
abbrev pub column : List Frame → Col → Value
column frames c = at (slice_index_or (slice_index_or frames c.level []) c.item []) c.column

-- parameters count from 1
abbrev pub argument : List Value → ℕ → Value
argument args zero = val.Null
argument args (suc i) = at args i

-- one select further in, at a row of its FROM, outside its aggregates
abbrev pub inside : Frame → Context → Context
inside frame cx = record cx { frames = frame ∷ cx.frames; group = [] }

-- in the list of a select with aggregates: no row of its own FROM is seen there, and the aggregates
-- go over the rows that WHERE kept
abbrev pub over : List Frame → Context → Context
over rows cx = record cx { frames = [] ∷ cx.frames; group = rows }

-- in the argument of an aggregate of that list, at one of those rows
abbrev pub at_row : Frame → Context → Context
at_row frame cx = record cx { frames = frame ∷ drop 1 cx.frames; group = [] }

-- outside every select, with no variable of a function
abbrev pub outermost : List Rows → List Value → Context
outermost tables args = record { env = []; args = args; frames = []; tables = tables; group = [] }
