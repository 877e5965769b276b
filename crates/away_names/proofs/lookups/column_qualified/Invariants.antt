use Rattle.std.proofs.Common.{◌≡◌, ◌+◌, length, map}
use Rattle.away_names.specs.Lookups.{in_item, nearest}
use Rattle.away_names.proofs.lookups.column_qualified.Given as goal

abbrev pub invariant-loop-levels : goal.invariant-loop-levels
invariant-loop-levels l =
    (nearest (λ depth level. in_item l.a l.n depth 0 level) 0 (map (λ l. l.now) l.s.levels.now) ≡ nearest (λ depth level. in_item l.a l.n depth 0 level) l.depth (map (λ l. l.now) l.levels)) × (l.depth + length l.levels ≡ length l.s.levels.now)

abbrev pub decreases-loop-levels : goal.decreases-loop-levels
decreases-loop-levels l = length l.levels
