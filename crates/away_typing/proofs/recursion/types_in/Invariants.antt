use Rattle.std.proofs.Common.{◌≡◌, take, map}
use Rattle.away_trees.specs.declared.schemas.ColumnSchema.{ColumnSchema}
use Rattle.away_typing.proofs.recursion.types_in.Given as goal

abbrev pub invariant-loop-i : goal.invariant-loop-i
invariant-loop-i l = l.types ≡ map (λ (c : ColumnSchema). c.ty) (take l.i l.t.columns)
