-- Names that stand for something.
use Rattle.std.specs.Prelude.{◌≡◌, ℕ, ◌<◌, ◌≤◌, length, slice_get, Some}
use Rattle.block_forms.specs.Named.{places_that_set}
use Rattle.ssa_build.specs.Forms.{Ssa}

-- The first names are the slots' own, for parameters and for blocks that nothing reaches. Every
-- other name is set at one place: it is that of a φ or of an assignment that stands in the form.
pub record NamesAreSet (slots : ℕ) (z : Ssa) : Type 0 where
  pub own : (s : ℕ) → s < slots → slice_get z.names s ≡ Some s
  pub set : (n : ℕ) → slots ≤ n → n < length z.names → places_that_set z.blocks n ≡ 1
