-- The text of each of the query's own names.
use Rattle.std.specs.Prelude.{ℕ, List}
use Rattle.cte_parts.specs.declared.names.Known.{Known}
use Rattle.cte_parts.specs.declared.names.Known.TheVariants.{
  Table,
  Step,
  Only,
  Go,
  Label,
  Result,
  Fault,
}
use Rattle.cte_parts.specs.Names.{
  table_name,
  step_name,
  only_name,
  go_name,
  label_name,
  result_name,
  fault_name,
}

abbrev pub text_of : Known → List ℕ
text_of Table = table_name
text_of Step = step_name
text_of Only = only_name
text_of Go = go_name
text_of Label = label_name
text_of Result = result_name
text_of Fault = fault_name
