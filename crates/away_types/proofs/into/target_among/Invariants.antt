use Rattle.std.proofs.Common.{◌≡◌, ℕ, List, Option, drop, map}
use Rattle.away_names.specs.Lookups.{is_among}
use Rattle.away_types.proofs.into.target_among.Given as goal

abbrev pub invariant-loop-t : goal.invariant-loop-t
invariant-loop-t l = is_among l.n (map (λ (t : List ℕ × Option ℕ). t.0) l.targets) ≡ is_among l.n (map (λ (t : List ℕ × Option ℕ). t.0) (drop l.t-index l.targets))
