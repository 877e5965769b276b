-- What the code of `explain` hands on.
use Rattle.std.specs.Prelude.{◌≡◌, ℕ, List}
use Rattle.std.specs.Borrow.{Bor}
use Rattle.away_trees.specs.declared.statements.Function.{Function}
use Rattle.away_top.specs.declared.explain.Head.{Head}
use Rattle.away_top.specs.ExplainCourse.{Count, OwnCounts, count, own_counts}

-- an entry of a list of counts
abbrev pub as_count : Bor (List ℕ) × ℕ → Count
as_count c = count c.0.now c.1

abbrev pub own : Head → OwnCounts
own h = record { nodes = h.nodes; variables = h.variables; loops = h.loops; params = h.params }

-- it has the counts of the function
abbrev pub IsHead : Function → Head → Type 0
IsHead f h = own h ≡ own_counts f
