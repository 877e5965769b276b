-- Live slots: those that are read before they are set on some way from a block.
use Rattle.std.specs.Prelude.{◌≡◌, ◌⊎◌, ℕ, zero, suc, ◌<◌, List, slice_get, Option, Some, None}
use Rattle.block_forms.specs.Forms.{Block, Branch, End, Fail, Goto, Jump, Return, Term}
use Rattle.block_forms.specs.Places.{In}

abbrev pub LiveEnd : End → (ℕ → Type 0) → ℕ → Type 0
LiveEnd (Jump c) next s = next c
LiveEnd (Branch t y n) next s = In t.names s ⊎ (next y ⊎ next n)
LiveEnd (Return t) next s = In t.names s
LiveEnd (Fail k) next s = ⊥

abbrev pub LiveSet : Option (ℕ × Term) → Type 0 → ℕ → Type 0
LiveSet None later s = later
LiveSet (Some a) later s = In a.1.names s ⊎ ((a.0 ≡ s → ⊥) × later)

abbrev pub LiveIn : Option Block → (ℕ → Type 0) → ℕ → Type 0
LiveIn None next s = ⊥
LiveIn (Some x) next s = LiveSet x.set (LiveEnd x.end next s) s

-- live at a block, by a way of so many blocks at most
abbrev pub Live : List Block → ℕ → ℕ → ℕ → Type 0
Live g zero b s = ⊥
Live g (suc k) b s = LiveIn (slice_get g b) (λ c. Live g k c s) s

-- at the entry only parameters are live
pub record OnlyParametersLive (params : ℕ) (g : Goto) : Type 0 where
  pub each : (k s : ℕ) → Live g.blocks k g.entry s → s < params
