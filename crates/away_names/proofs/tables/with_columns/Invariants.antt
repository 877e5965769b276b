use Rattle.std.proofs.Common.{◌≡◌, ◌++◌, drop, map}
use Rattle.away_trees.specs.declared.schemas.ColumnSchema.{ColumnSchema}
use Rattle.away_names.proofs.tables.with_columns.Given as goal

abbrev pub invariant-loop-c : goal.invariant-loop-c
invariant-loop-c l = l.fn.before ++ map (λ (c : ColumnSchema). c.name) l.columns ≡ l.all ++ map (λ (c : ColumnSchema). c.name) (drop l.c-index l.columns)
