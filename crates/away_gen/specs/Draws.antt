-- A linear congruential generator of 64 bits: each draw moves the state on, and takes its number
-- from the upper bits.
use Rattle.std.specs.Prelude.{ℕ, zero, suc, ◌+◌, ◌*◌, ◌/◌, ◌%◌, ◌^◌, List, [], ◌∷◌}

-- the state behind a state
unfoldable pub next : ℕ → ℕ
next state = (6364136223846793005 * state + 1442695040888963407) % 2 ^ 64

-- the state behind so many draws
abbrev pub after : ℕ → ℕ → ℕ
after zero state = state
after (suc count) state = after count (next state)

-- the number below m in a state's upper bits
unfoldable pub upper : ℕ → ℕ → ℕ
upper m state = (state / 2 ^ 33) % m

-- the number below m that the draw of this place gives; places count from 1
abbrev pub draw : ℕ → ℕ → ℕ → ℕ
draw place m state = upper m (after place state)

-- so many things, each made of the same number of draws and behind the one before
abbrev pub in_turn : {A : Type 0} → (ℕ → A) → ℕ → ℕ → ℕ → List A
in_turn make draws zero state = []
in_turn make draws (suc count) state = make state ∷ in_turn make draws count (after draws state)
