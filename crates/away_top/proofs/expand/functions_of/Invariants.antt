use Rattle.std.proofs.Common.{map, string_bytes}
use Rattle.away_top.specs.ExpandCourse.{KeepLimits}
use Rattle.away_top.proofs.FunctionSteps.{ReadTo}
use Rattle.away_top.proofs.expand.functions_of.Given as goal

abbrev pub invariant-loop-i : goal.invariant-loop-i
invariant-loop-i g l = ReadTo g.F.Files l.main (map string_bytes l.others) l.fn.files l.files l.i l.list × KeepLimits l.list
