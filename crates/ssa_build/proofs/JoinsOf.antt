-- The joins of a form: its φs without their blocks.
use Rattle.std.specs.Prelude.{◌≡◌, ℕ, List, map, slice_get, Some}
use Rattle.ssa_build.specs.Joins.{Join}
use Rattle.ssa_build.specs.Forms.{Phi, Ssa, SsaBlock}
use Rattle.block_forms.specs.Places.{In}
use Rattle.ssa_build.proofs.Naming.{Sets}

abbrev pub operand : ℕ × ℕ → ℕ
operand o = o.1

pub record IsJoinOf (φ : Phi) (j : Join) : Type 0 where
  pub name : φ.name ≡ j.name
  pub operands : map operand φ.operands ≡ j.operands

pub record JoinsOf (z : Ssa) (joins : List Join) : Type 0 where
  pub phi : (i : ℕ) (j : Join) → slice_get joins i ≡ Some j → (b : ℕ) × (x : SsaBlock) × (φ : Phi) × (slice_get z.blocks b ≡ Some x) × In x.phis φ × IsJoinOf φ j
  pub join : (b : ℕ) (x : SsaBlock) (φ : Phi) → slice_get z.blocks b ≡ Some x → In x.phis φ → (i : ℕ) × (j : Join) × (slice_get joins i ≡ Some j) × IsJoinOf φ j
  pub distinct : (a b : ℕ) (i j : Join) → slice_get joins a ≡ Some i → slice_get joins b ≡ Some j → i.name ≡ j.name → a ≡ b
  pub spare : (i : ℕ) (j : Join) → slice_get joins i ≡ Some j → slice_get z.names j.spare ≡ slice_get z.names j.name
  pub spare_unset : (i : ℕ) (j : Join) (b : ℕ) (x : SsaBlock) → slice_get joins i ≡ Some j → slice_get z.blocks b ≡ Some x → Sets x j.spare → ⊥
