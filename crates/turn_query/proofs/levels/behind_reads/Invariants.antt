use Rattle.std.proofs.Common.{◌≡◌, ◌+◌, ◌-◌, ◌≤◌}
use Rattle.sql_meaning.specs.Template.{count_from}
use Rattle.turn_template.specs.TurnTemplate.{behind_reads}
use Rattle.turn_query.proofs.levels.behind_reads.Given as goal

abbrev pub invariant-loop-left : goal.invariant-loop-left
invariant-loop-left l = (l.left ≤ l.many) × (l.behind ≡ behind_reads (count_from (l.first + l.left) (l.many - l.left)) l.fn.e)

abbrev pub decreases-loop-left : goal.decreases-loop-left
decreases-loop-left l = l.left
