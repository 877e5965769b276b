use Rattle.std.proofs.Common.{◌≡◌, ◌++◌, map, take}
use Rattle.away_trees.specs.declared.schemas.ColumnSchema.{ColumnSchema}
use Rattle.cte_template.proofs.starts.add_names.Given as goal

abbrev pub invariant-loop-column : goal.invariant-loop-column
invariant-loop-column l = l.list ≡ l.fn.list ++ map (λ (c : ColumnSchema). c.name) (take l.column-index l.columns)
