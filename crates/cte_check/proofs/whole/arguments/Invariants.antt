use Rattle.std.proofs.Common.{ℕ, Option, drop}
use Rattle.call_forms.specs.Template.{argument_cells}
use Rattle.cte_reads.specs.Puts.{exprs_put}
use Rattle.cte_reads.specs.Read.{Reads}
use Rattle.cte_check.specs.Walks.{types_in}
use Rattle.cte_check.specs.Whole.{arguments}
use Rattle.cte_check.proofs.whole.arguments.Given as goal

abbrev pub invariant-loop-i : goal.invariant-loop-i
invariant-loop-i l =
    (to : Option ℕ) → Reads (exprs_put (argument_cells (types_in l.g) l.i l.places l.params (drop l.i l.g.tail.now.columns))) l.g.events.now l.at to
    → Reads (exprs_put (arguments l.g l.params l.places)) l.g.events.now l.initial.at to
