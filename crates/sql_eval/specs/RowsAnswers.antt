-- What a run of a query answers that asks for all of its rows.
use Rattle.std.specs.Prelude.{Some, None, Ok, Err}
use Rattle.sql_meaning.specs.Context.{Rows}
use Rattle.sql_meaning.specs.Working.{Bounded}
use Rattle.sql_eval.specs.declared.rows_answer.RowsAnswer.{RowsAnswer}
use Rattle.sql_eval.specs.declared.rows_answer.RowsAnswer.TheVariants.{
  Rows as Some_rows,
  Fault,
  More,
}

-- more where the bound doesn't suffice, the class of a fault, or the rows
abbrev pub rows_answered : Bounded Rows → RowsAnswer
rows_answered None = More
rows_answered (Some (Err c)) = Fault c
rows_answered (Some (Ok rows)) = Some_rows rows
