use Rattle.std.proofs.Common.{◌≡◌, drop, map}
use Rattle.std.specs.List.{list_any}
use Rattle.away_trees.specs.declared.queries.Item.{out-Item}
use Rattle.away_names.specs.Lookups.{is_named}
use Rattle.away_names.proofs.listings.any_alias.Given as goal

abbrev pub invariant-loop-i : goal.invariant-loop-i
invariant-loop-i l = list_any (is_named l.n) (map (λ i. (out-Item i).alias) l.list) ≡ list_any (is_named l.n) (map (λ i. (out-Item i).alias) (drop l.i-index l.list))
