use Rattle.std.proofs.Common.{◌≡◌, length, map}
use Rattle.away_trees.specs.declared.queries.FromItem.{out-FromItem}
use Rattle.away_names.specs.Lookups.{doubled}
use Rattle.away_names.proofs.origins.alias_doubled.Given as goal

abbrev pub invariant-loop-rest : goal.invariant-loop-rest
invariant-loop-rest l = doubled (map (λ f. (out-FromItem f).alias) l.items) ≡ doubled (map (λ f. (out-FromItem f).alias) l.rest)

abbrev pub decreases-loop-rest : goal.decreases-loop-rest
decreases-loop-rest l = length l.rest
