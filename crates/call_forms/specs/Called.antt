-- The relation between an SSA form and its normal form. It is local to blocks and calls.
use Rattle.std.specs.Prelude.{◌≡◌, ℕ, ◌<◌, List, ◌∷◌, length, slice_get, Option, Some, None}
use Rattle.block_forms.specs.declared.forms.End.{End}
use Rattle.block_forms.specs.declared.forms.End.TheVariants as jump
use Rattle.block_forms.specs.declared.forms.Goto.{Goto}
use Rattle.block_forms.specs.declared.forms.Phi.{Phi}
use Rattle.block_forms.specs.declared.forms.SsaBlock.{SsaBlock}
use Rattle.block_forms.specs.declared.forms.Ssa.{Ssa}
use Rattle.block_forms.specs.Forms.{Assignment, source}
use Rattle.block_forms.specs.Places.{Each, EachPair, Distinct}
use Rattle.call_forms.specs.Forms.{Call, CallEnd, Go, Pick, Return, Fail, AnfBlock, Anf}

abbrev pub itself : ℕ → ℕ
itself n = n

-- the number stands at a place of the list
pub record Among (numbers : List ℕ) (n : ℕ) : Type 0 where
  pub place : ℕ
  pub there : slice_get numbers place ≡ Some n

-- ---- what a block reads

-- a block's parameters are distinct, and names of the form
pub record ParametersOf (names : ℕ) (x : AnfBlock) : Type 0 where
  pub distinct : Distinct itself x.params
  pub of_form : Each (λ p. p < names) x.params

abbrev pub with_assigned : Assignment → List ℕ → List ℕ
with_assigned None names = names
with_assigned (Some p) names = p.0 ∷ names

-- a block's own names at its end: its parameters and the name that it assigns
abbrev pub own_names : AnfBlock → List ℕ
own_names x = with_assigned x.set x.params

abbrev pub AssignmentReads : List ℕ → Assignment → Type 0
AssignmentReads names None = Unit {0}
AssignmentReads names (Some p) = Each (Among names) p.1.names

-- what an end reads and what its calls pass
abbrev pub EndReads : List ℕ → CallEnd → Type 0
EndReads names (Go c) = Each (Among names) c.args
EndReads names (Pick t x y) = Each (Among names) t.names × Each (Among names) x.args × Each (Among names) y.args
EndReads names (Return t) = Each (Among names) t.names
EndReads names (Fail c) = Unit {0}

-- the assignment reads parameters alone, and the end the block's own names
pub record ReadsOwn (x : AnfBlock) : Type 0 where
  pub set : AssignmentReads x.params x.set
  pub end : EndReads (own_names x) x.end

-- ---- calls

-- one name for each parameter, in order: the operand of its φ for block b, or the parameter itself
pub record PassesNames (phis : List Phi) (b : ℕ) (params args : List ℕ) : Type 0 where
  pub as_many : length args ≡ length params
  pub each : EachPair (λ i p n. source phis b p ≡ Some n) params args

abbrev pub Passes : ℕ → Option SsaBlock → Option AnfBlock → List ℕ → Type 0
Passes b (Some y) (Some x) args = PassesNames y.phis b x.params args
Passes b (Some y) None args = ⊥
Passes b None x args = ⊥

-- the call in place of a way from block b to block c
pub record CallOf (ssa : Ssa) (anf : Anf) (b c : ℕ) (call : Call) : Type 0 where
  pub target : call.target ≡ c
  pub passes : Passes b (slice_get ssa.blocks c) (slice_get anf.blocks c) call.args

-- the same end, with calls in place of ways
abbrev pub EndCalled : Ssa → Anf → ℕ → End → CallEnd → Type 0
EndCalled ssa anf b (jump.Jump c) (Go x) = CallOf ssa anf b c x
EndCalled ssa anf b (jump.Branch t c d) (Pick u x y) = (u ≡ t) × CallOf ssa anf b c x × CallOf ssa anf b d y
EndCalled ssa anf b (jump.Return t) (Return u) = u ≡ t
EndCalled ssa anf b (jump.Fail c) (Fail d) = d ≡ c
EndCalled ssa anf b _ _ = ⊥

pub record BlockCalled (ssa : Ssa) (anf : Anf) (b : ℕ) (y : SsaBlock) (x : AnfBlock) : Type 0 where
  pub set : x.set ≡ y.set
  pub end : EndCalled ssa anf b y.end x.end

-- ---- the whole

-- the map has the name
pub record HasName (y : SsaBlock) (n : ℕ) : Type 0 where
  pub place : ℕ
  pub slot : ℕ
  pub there : slice_get y.map place ≡ Some (slot, n)

abbrev pub EntryParameters : Option SsaBlock → Option AnfBlock → Type 0
EntryParameters (Some y) (Some x) = Each (HasName y) x.params
EntryParameters (Some y) None = ⊥
EntryParameters None x = ⊥

-- the entry's parameters stand in the map of the SSA form's entry
pub record Called (goto : Goto) (ssa : Ssa) (anf : Anf) : Type 0 where
  pub as_many_blocks : length anf.blocks ≡ length ssa.blocks
  pub parameters : Each (ParametersOf (length ssa.names)) anf.blocks
  pub reads : Each ReadsOwn anf.blocks
  pub blocks : EachPair (BlockCalled ssa anf) ssa.blocks anf.blocks
  pub entry : EntryParameters (slice_get ssa.blocks goto.entry) (slice_get anf.blocks goto.entry)
