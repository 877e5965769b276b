-- Trivial φs: those that join one name only.
use Rattle.std.specs.Prelude.{◌≡◌, ◌⊎◌, ℕ, slice_get, Some}
use Rattle.block_forms.specs.Forms.{Phi, Ssa, SsaBlock}
use Rattle.block_forms.specs.Places.{In}

-- the operands other than the φ itself are at most one name
abbrev pub IsTrivial : Phi → Type 0
IsTrivial φ = (m : ℕ) × ((o : ℕ × ℕ) → In φ.operands o → (o.1 ≡ φ.name) ⊎ (o.1 ≡ m))

abbrev pub HasNoTrivial : Ssa → Type 0
HasNoTrivial z = (b : ℕ) (x : SsaBlock) (φ : Phi) → slice_get z.blocks b ≡ Some x → In x.phis φ → IsTrivial φ → ⊥
