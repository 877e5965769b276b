use Rattle.std.proofs.Common.{◌≡◌, drop, map}
use Rattle.away_trees.specs.declared.queries.FromItem.{out-FromItem}
use Rattle.away_names.specs.Lookups.{is_among}
use Rattle.away_names.proofs.origins.alias_among.Given as goal

abbrev pub invariant-loop-f : goal.invariant-loop-f
invariant-loop-f l = is_among l.n (map (λ f. (out-FromItem f).alias) l.items) ≡ is_among l.n (map (λ f. (out-FromItem f).alias) (drop l.f-index l.items))
