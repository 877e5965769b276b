use Rattle.std.proofs.Common.{◌≡◌, ◌++◌, drop, map}
use Rattle.away_top.specs.ExplainCourse.{count_lines}
use Rattle.away_top.specs.Explaining.{as_count}
use Rattle.away_top.proofs.explain.count_lines_of.Given as goal

abbrev pub invariant-loop-what : goal.invariant-loop-what
invariant-loop-what l = l.output.items ++ count_lines (map as_count (drop l.what-index l.counts)) ≡ count_lines (map as_count l.counts)
