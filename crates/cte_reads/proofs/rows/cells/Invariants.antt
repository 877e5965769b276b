use Rattle.std.proofs.Common.{ℕ, Option, drop}
use Rattle.cte_reads.specs.Puts.{exprs_put}
use Rattle.cte_reads.specs.Read.{Reads}
use Rattle.cte_reads.specs.Rows.{cells_at}
use Rattle.cte_reads.proofs.rows.cells.Given as goal

abbrev pub invariant-loop-i : goal.invariant-loop-i
invariant-loop-i l =
    (to : Option ℕ) → Reads (exprs_put (cells_at l.depth l.i l.places l.refs (drop l.i l.columns))) l.events l.at to
    → Reads (exprs_put (cells_at l.depth 0 l.places l.refs l.columns)) l.events l.initial.at to
