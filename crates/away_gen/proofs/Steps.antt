-- One step of the generator by wrapping arithmetic.
use Rattle.std.proofs.Common.{◌≡◌, ℕ, ◌+◌, ◌*◌, ◌%◌, ◌^◌}
use Rattle.std.proofs.Math.Nat.{mod-add-mod}
use Rattle.away_gen.specs.Draws.{next}

pub steps_once : (state : ℕ) → ((6364136223846793005 * state) % 2 ^ 64 + 1442695040888963407) % 2 ^ 64 ≡ next state
unfolding next
steps_once state = mod-add-mod (6364136223846793005 * state) (2 ^ 64) 1442695040888963407
