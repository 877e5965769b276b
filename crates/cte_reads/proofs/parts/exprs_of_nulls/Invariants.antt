use Rattle.std.proofs.Common.{ℕ, Option, map, drop}
use Rattle.tree_events.specs.Events.{row}
use Rattle.sql_meaning.specs.Trees.{null_of}
use Rattle.cte_reads.specs.Puts.{expr_put, exprs_put}
use Rattle.cte_reads.specs.Read.{Reads}
use Rattle.cte_reads.proofs.parts.exprs_of_nulls.Given as goal

abbrev pub invariant-loop-ty : goal.invariant-loop-ty
invariant-loop-ty l =
    (to : Option ℕ) → Reads (row (λ t. expr_put (null_of t)) (drop l.ty-index l.types)) l.events l.at to → Reads (exprs_put (map null_of l.types)) l.events l.initial.at to
