-- The functions as the code names them.
use Rattle.sql_meaning.specs.Functions as meant
use Rattle.sql_eval.specs.declared.functions.Function.{Function}
use Rattle.sql_eval.specs.declared.functions.Function.TheVariants as f

abbrev pub meant_by : Function → meant.Function
meant_by f.Length = meant.Length
meant_by f.Substr = meant.Substr
meant_by f.Coalesce = meant.Coalesce
meant_by f.Greatest = meant.Greatest
meant_by f.Least = meant.Least
meant_by f.Count = meant.Count
meant_by f.Min = meant.Min
meant_by f.Max = meant.Max
meant_by f.Sum = meant.Sum
meant_by f.BoolAnd = meant.BoolAnd
meant_by f.BoolOr = meant.BoolOr
meant_by f.Unknown = meant.Unknown
