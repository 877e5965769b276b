-- The status and the line that tell an answer.
use Rattle.std.specs.Prelude.{ℕ, ◌++◌, true, false, List, codes}
use Rattle.std.specs.Fmt.{decimal, signed_decimal}
use Rattle.std.specs.Str.{encode_utf8_all}
use Rattle.away_values.specs.declared.values.Value.{Value}
use Rattle.away_values.specs.declared.values.Value.TheVariants as val
use Rattle.away_values.specs.declared.values.Answer.{Answer}
use Rattle.away_values.specs.declared.values.Answer.TheVariants as answer
use Rattle.away_top.specs.declared.status.Status.{Status}
use Rattle.away_top.specs.declared.status.Status.TheVariants.{Done, More, Fault, Shape}
use Rattle.away_top.specs.Lines.{line}

-- NULL is told by a word of its own, a number in decimal digits, and a text as it is
abbrev pub value_line : Value → List ℕ
value_line val.Null = line (codes "null")
value_line (val.Int n) = line (codes "value " ++ signed_decimal n)
value_line (val.Bool true) = line (codes "value true")
value_line (val.Bool false) = line (codes "value false")
value_line (val.Text t) = line (codes "value " ++ encode_utf8_all t)

-- the status and the line of an answer
abbrev pub answer_end : Answer → Status × List ℕ
answer_end (answer.Value v) = (Done, value_line v)
answer_end (answer.Fault c) = (Fault, line (codes "fault " ++ c.code))
answer_end answer.More = (More, line (codes "more"))
answer_end (answer.Shape n) = (Shape, line (codes "shape " ++ decimal n))
