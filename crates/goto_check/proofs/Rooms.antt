-- Places, and the room up to them.
use Rattle.std.proofs.Common.{◌≡◌, ℕ, arith}
use Rattle.block_forms.specs.declared.places.Position.{Position}
use Rattle.block_forms.specs.declared.places.Numbers.{Numbers}
use Rattle.block_forms.specs.Laid.{after, place}
use Rattle.goto_check.specs.Room.{Small, Room}

same_place : (a b c d e a' b' c' d' e' : ℕ) → a ≡ a' → b ≡ b' → c ≡ c' → d ≡ d' → e ≡ e' → place a b c d e ≡ place a' b' c' d' e'
same_place a b c d e a' b' c' d' e' p q r s t = λ i. place (p i) (q i) (r i) (s i) (t i)

pub after_after : (p a b : Position) → after (after p a) b ≡ after p (after a b)
after_after p a b = same_place _ _ _ _ _ _ _ _ _ _ (omega arith) (omega arith) (omega arith) (omega arith) (omega arith)

pub room_first : (n : Numbers) (p a b : Position) → Room n (after p (after a b)) → Room n (after p a)
room_first n p a b r = record { fixed = omega arith; node = omega arith; expr = omega arith; slot = omega arith; fors = omega arith; targets = omega arith }

pub room_before : (n : Numbers) (p a : Position) → Room n (after p a) → Room n p
room_before n p a r = record { fixed = omega arith; node = omega arith; expr = omega arith; slot = omega arith; fors = omega arith; targets = omega arith }

pub room_rest : (n : Numbers) (p a b : Position) → Room n (after p (after a b)) → Room n (after (after p a) b)
room_rest n p a b r = record { fixed = omega arith; node = omega arith; expr = omega arith; slot = omega arith; fors = omega arith; targets = omega arith }

pub room_small : (n : Numbers) (p a : Position) → Room n (after p a) → Small a
room_small n p a r = record { node = omega arith; expr = omega arith; slot = omega arith; fors = omega arith; targets = omega arith }

pub ruleset room_rules = (room_first, room_before, room_rest, room_small, after_after)
