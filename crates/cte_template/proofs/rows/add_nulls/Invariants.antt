use Rattle.std.proofs.Common.{◌≡◌, ◌++◌, map, take}
use Rattle.sql_meaning.specs.Trees.{item, null_of}
use Rattle.cte_template.proofs.rows.add_nulls.Given as goal

abbrev pub invariant-loop-ty : goal.invariant-loop-ty
invariant-loop-ty l = l.list ≡ l.fn.list ++ map item (map null_of (take l.ty-index l.types))
