use Rattle.std.proofs.Common.{◌≡◌, drop}
use Rattle.std.specs.List.{list_any}
use Rattle.away_types.specs.declared.around.Around.{Around}
use Rattle.away_types.proofs.labels.is_in_loop.Given as goal

abbrev pub invariant-loop-a : goal.invariant-loop-a
invariant-loop-a l = list_any (λ (a : Around). a.is_loop) l.around ≡ list_any (λ (a : Around). a.is_loop) (drop l.a-index l.around)
