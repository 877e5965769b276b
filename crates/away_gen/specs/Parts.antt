-- What a case is made of, in the order of the draws: the rows of the table, then two arguments,
-- then the statements of the loop.
use Rattle.std.specs.Prelude.{ℕ, ◌+◌, ◌*◌, ◌==◌, if◌then◌else◌, List}
use Rattle.away_gen.specs.declared.parts.Kind.{Kind}
use Rattle.away_gen.specs.declared.parts.Kind.TheVariants.{Add, Multiply, Subtract, Loop, Query}
use Rattle.away_gen.specs.declared.parts.Parts.{Parts}
use Rattle.away_gen.specs.declared.parts.Row.{Row}
use Rattle.away_gen.specs.declared.parts.Statement.{Statement}
use Rattle.away_gen.specs.Draws.{after, draw, in_turn}

-- ---- rows

abbrev pub row_from : ℕ → Row
row_from state = record { src = draw 1 10 state; dst = draw 2 10 state; cost = draw 3 1000 state }

abbrev pub rows_from : ℕ → ℕ → List Row
rows_from = in_turn row_from 3

-- ---- statements

abbrev pub kind_of : ℕ → Kind
kind_of number =
    if number == 0 then Add else (if number == 1 then Multiply else (if number == 2 then Subtract else (if number == 3 then Loop else Query)))

abbrev pub statement_from : ℕ → Statement
statement_from state =
    record { kind = kind_of (draw 1 5 state); target = draw 2 4 state; source = draw 3 4 state; constant = 1 + draw 4 99 state }

abbrev pub statements_from : ℕ → ℕ → List Statement
statements_from = in_turn statement_from 4

-- ---- the case

-- 50 to 99 rows, two arguments below 1000, and 40 to 63 statements
abbrev pub parts_of : ℕ → Parts
parts_of number =
    let count = 50 + draw 1 50 number in
    let table = after 1 number in
    let arguments = after (3 * count) table in
    let function = after 2 arguments in
    record {
      rows = rows_from count table;
      first = draw 1 1000 arguments;
      second = draw 2 1000 arguments;
      statements = statements_from (40 + draw 1 24 function) (after 1 function);
    }
