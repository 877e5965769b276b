use Rattle.std.proofs.Common.{◌≡◌, ◌++◌, drop}
use Rattle.std.specs.Prelude.{flat_map}
use Rattle.away_top.specs.ExplainCourse.{with_blank}
use Rattle.away_top.proofs.fault_lines.put_codes.Given as goal

abbrev pub invariant-loop-class : goal.invariant-loop-class
invariant-loop-class l = l.output.items ++ flat_map with_blank (drop l.class-index l.classes) ≡ l.initial.output.items ++ flat_map with_blank l.classes
