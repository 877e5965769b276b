use Rattle.std.proofs.Common.{◌-◌, ℕ, Option, map}
use Rattle.tree_events.specs.Events.{row}
use Rattle.sql_meaning.specs.Template.{count_from, below}
use Rattle.sql_meaning.specs.Trees.{col}
use Rattle.cte_reads.specs.Puts.{expr_put, exprs_put}
use Rattle.cte_reads.specs.Read.{Reads}
use Rattle.cte_reads.proofs.parts.all_of.Given as goal

abbrev pub invariant-loop-place : goal.invariant-loop-place
invariant-loop-place l =
    (to : Option ℕ) → Reads (row (λ place. expr_put (col 0 l.item place)) (count_from l.place (l.columns - l.place))) l.events l.at to
    → Reads (exprs_put (map (col 0 l.item) (below l.columns))) l.events l.initial.at to
