-- What a trivial φ is, and what each other φ joins.
use Rattle.std.specs.Prelude.{◌≡◌, ◌≢◌, ◌↔◌, ℕ, true, List, [], ◌∷◌, slice_get}
use Rattle.block_forms.specs.declared.forms.Phi.{Phi}
use Rattle.block_forms.specs.declared.forms.SsaBlock.{SsaBlock}
use Rattle.block_forms.specs.declared.forms.Ssa.{Ssa}
use Rattle.block_forms.specs.Places.{Each, EachAt, In}
use Rattle.block_forms.specs.Trivial.{IsTrivial, HasNoTrivial}
use Rattle.ssa_check.specs.Definitions.{goes_to, OfNamed}

-- ---- examples

-- the operands are pairs: the block that a run comes from, and the name whose value is taken
abbrev pub phi_of : ℕ → List (ℕ × ℕ) → Phi
phi_of name operands = record { name = name; operands = operands }

-- which φs of at most two operands are trivial
pub record TrivialPhis : Type 0 where
  pub none : (name : ℕ) → IsTrivial (phi_of name [])
  pub itself : (name b : ℕ) → IsTrivial (phi_of name ((b, name) ∷ []))
  pub one : (name b m : ℕ) → IsTrivial (phi_of name ((b, m) ∷ []))
  pub one_twice : (name b c m : ℕ) → IsTrivial (phi_of name ((b, m) ∷ (c, m) ∷ []))
  pub itself_and_one : (name b c m : ℕ) → IsTrivial (phi_of name ((b, name) ∷ (c, m) ∷ []))
  pub one_and_itself : (name b c m : ℕ) → IsTrivial (phi_of name ((b, m) ∷ (c, name) ∷ []))
  pub two : (name b c m n : ℕ) → m ≢ n → m ≢ name → n ≢ name → IsTrivial (phi_of name ((b, m) ∷ (c, n) ∷ [])) → ⊥

-- ---- all φs

-- two operands have different names, neither of them the φ's own
pub record JoinsTwoNames (φ : Phi) : Type 0 where
  pub first : ℕ × ℕ
  pub second : ℕ × ℕ
  pub first_there : In φ.operands first
  pub second_there : In φ.operands second
  pub differ : first.1 ≢ second.1
  pub first_other : first.1 ≢ φ.name
  pub second_other : second.1 ≢ φ.name

-- what isn't trivial joins two names, and what joins two names isn't trivial
abbrev pub OthersJoinTwoNames : Type 0
OthersJoinTwoNames = (φ : Phi) → (IsTrivial φ → ⊥) ↔ JoinsTwoNames φ

-- ---- of all named forms

-- The two names come from two blocks, each of which leads to block c.
pub record JoinsTwoWays (z : Ssa) (c : ℕ) (φ : Phi) : Type 0 where
  pub names : JoinsTwoNames φ
  pub blocks_differ : names.first.0 ≢ names.second.0
  pub first_leads : goes_to (slice_get z.blocks names.first.0) c ≡ true
  pub second_leads : goes_to (slice_get z.blocks names.second.0) c ≡ true

pub record PhisJoinTwoWays (z : Ssa) (c : ℕ) (y : SsaBlock) : Type 0 where
  pub each : Each (JoinsTwoWays z c) y.phis

-- in a form without trivial φs each φ joins two names, which come by two ways
abbrev pub FormsJoinTwoNames : Type 0
FormsJoinTwoNames = OfNamed (λ params g z. HasNoTrivial z → EachAt (PhisJoinTwoWays z) z.blocks)
