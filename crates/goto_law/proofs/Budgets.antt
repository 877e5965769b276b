-- Bounds on visits: a weight times the turns that were used and one more.
use Rattle.std.proofs.Common.{ℕ, suc, ◌+◌, ◌*◌, ◌≤◌, arith}

pub scaled : (m v w u : ℕ) → m + v ≤ w → m + v * suc u ≤ w * suc u
scaled m v w u le = grind arith

-- two stretches in a row
pub in_a_row : (v w x p q : ℕ) → v + w ≤ x → v * suc p + w * suc q ≤ x * suc (p + q)
in_a_row v w x p q le = grind arith

-- a turn and what follows it
pub a_turn : (a b w p q : ℕ) → a + w * suc p + b + (a + b + w) * suc q ≤ (a + b + w) * suc (suc (p + q))
a_turn a b w p q = omega arith

pub least_turn : (a b w p : ℕ) → a + w * suc p ≤ (a + b + w) * suc (suc p)
least_turn a b w p = omega arith

pub last_turn : (a b w p : ℕ) → a + w * suc p + b ≤ (a + b + w) * suc (suc p)
last_turn a b w p = omega arith
