-- What a run over tables gives, and how it is told.
use Rattle.std.specs.Prelude.{ℕ, List}
use Rattle.away_top.specs.declared.over_tables.program.Reply.{Reply}
use Rattle.away_top.specs.declared.over_tables.program.Reply.TheVariants as reply
use Rattle.away_top.specs.declared.status.Status.{Status}
use Rattle.away_top.specs.AnswerLines.{answer_end}
use Rattle.away_top.specs.RowRecords.{rows_end}

-- an answer is told in a line, rows in a record each
abbrev pub reply_end : Reply → Status × List ℕ
reply_end (reply.Answer a) = answer_end a
reply_end (reply.Rows r) = rows_end r
