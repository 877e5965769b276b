-- Useful parameters: those whose values reach something that is read.
use Rattle.std.specs.Prelude.{◌≡◌, ◌⊎◌, ℕ, zero, suc, slice_get, Option, Some, None}
use Rattle.block_forms.specs.Forms.{Assignment}
use Rattle.block_forms.specs.declared.forms.Ssa.{Ssa}
use Rattle.block_forms.specs.Places.{Each, EachAt}
use Rattle.block_forms.specs.Trivial.{HasNoTrivial}
use Rattle.call_forms.specs.Called.{Among}
use Rattle.call_forms.specs.Forms.{Call, CallEnd, Go, Pick, Return, Fail, AnfBlock, Anf, params_of}

abbrev pub ReadBySet : Assignment → ℕ → Type 0
ReadBySet None p = ⊥
ReadBySet (Some s) p = Among s.1.names p

-- the block assigns another name, or none
abbrev pub SetsAnother : Assignment → ℕ → Type 0
SetsAnother None p = Unit {0}
SetsAnother (Some s) p = s.0 ≡ p → ⊥

abbrev pub ReadByEnd : CallEnd → ℕ → Type 0
ReadByEnd (Go c) p = ⊥
ReadByEnd (Pick t x y) p = Among t.names p
ReadByEnd (Return t) p = Among t.names p
ReadByEnd (Fail c) p = ⊥

-- a call passes p to a parameter of its block for which something holds
pub record PassesOn (Holds : ℕ → ℕ → Type 0) (anf : Anf) (p : ℕ) (c : Call) : Type 0 where
  pub place : ℕ
  pub parameter : ℕ
  pub argument_is : slice_get c.args place ≡ Some p
  pub parameter_is : slice_get (params_of (slice_get anf.blocks c.target)) place ≡ Some parameter
  pub holds : Holds c.target parameter

abbrev pub EndPasses : (ℕ → ℕ → Type 0) → Anf → CallEnd → ℕ → Type 0
EndPasses Holds anf (Go c) p = PassesOn Holds anf p c
EndPasses Holds anf (Pick t x y) p = PassesOn Holds anf p x ⊎ PassesOn Holds anf p y
EndPasses Holds anf (Return t) p = ⊥
EndPasses Holds anf (Fail c) p = ⊥

-- The assignment of the block reads p. Or p isn't the assigned name, and the end reads it or passes
-- it on.
abbrev pub UsedHere : (ℕ → ℕ → Type 0) → Anf → Option AnfBlock → ℕ → Type 0
UsedHere Holds anf None p = ⊥
UsedHere Holds anf (Some x) p = ReadBySet x.set p ⊎ SetsAnother x.set p × (ReadByEnd x.end p ⊎ EndPasses Holds anf x.end p)

-- within so many steps
abbrev pub UsefulWithin : Anf → ℕ → ℕ → ℕ → Type 0
UsefulWithin anf zero b p = ⊥
UsefulWithin anf (suc k) b p = UsedHere (UsefulWithin anf k) anf (slice_get anf.blocks b) p

-- parameter p of block b is useful, in finitely many steps
pub record IsUseful (anf : Anf) (b p : ℕ) : Type 0 where
  pub steps : ℕ
  pub within : UsefulWithin anf steps b p

pub record UsefulParameters (anf : Anf) : Type 0 where
  pub each : EachAt (λ b x. Each (IsUseful anf b) x.params) anf.blocks

-- no φ joins one name alone, and every parameter is useful
pub record Neat (ssa : Ssa) (anf : Anf) : Type 0 where
  pub no_trivial : HasNoTrivial ssa
  pub useful : UsefulParameters anf
