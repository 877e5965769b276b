-- How marks spread from the blocks that read a slot to those that lead there.
use Rattle.std.specs.Prelude.{◌≡◌, ◌⊎◌, ℕ, ◌+◌, ◌<◌, Bool, true, List, length, slice_get, Some}
use Rattle.block_forms.specs.declared.forms.Block.{Block}
use Rattle.block_forms.specs.Live.{LiveIn}
use Rattle.block_forms.specs.Places.{In}
use Rattle.block_graph.specs.Liveness.{OnlyLive, lives, marked, unmarked}

pub record HasAll (n : ℕ) (numbers : List ℕ) : Type 0 where
  pub each : (b : ℕ) → b < n → In numbers b

-- Those of some blocks are marked at which the slot is live by the old marks, and perhaps more of
-- them; each new mark is left to be spread.
pub record Spread (g : List Block) (s : ℕ) (old : List Bool) (old_left among : List ℕ) (new : List Bool) (left : List ℕ) : Type 0 where
  pub sized : length new ≡ length g
  pub only : OnlyLive g s new
  pub kept : (b : ℕ) → marked old b ≡ true → marked new b ≡ true
  pub counted : unmarked new + length left ≡ unmarked old + length old_left
  pub queued : (b : ℕ) → marked new b ≡ true → (marked old b ≡ true) ⊎ In left b
  pub left_kept : (b : ℕ) → In old_left b → In left b
  pub done : (b : ℕ) (x : Block) → In among b → slice_get g b ≡ Some x → lives x old s ≡ true → marked new b ≡ true

-- each block is marked at which the slot is live where it is live at c alone
abbrev pub IsDone : List Block → ℕ → List Bool → ℕ → Type 0
IsDone g s table c = (b : ℕ) (x : Block) → slice_get g b ≡ Some x → LiveIn (Some x) (λ d. d ≡ c) s → marked table b ≡ true

-- Each marked block is left to be spread, or done; and the blocks that read the slot are marked.
pub record Work (g : List Block) (s : ℕ) (table : List Bool) (left : List ℕ) : Type 0 where
  pub sized : length table ≡ length g
  pub only : OnlyLive g s table
  pub waiting : (c : ℕ) → marked table c ≡ true → In left c ⊎ IsDone g s table c
  pub readers : (b : ℕ) (x : Block) → slice_get g b ≡ Some x → LiveIn (Some x) (λ c. ⊥) s → marked table b ≡ true
