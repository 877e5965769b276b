-- The forms as plain lists and enums.
use Rattle.std.specs.Prelude.{ℕ, List, [], ◌∷◌, Option, Some, None, if◌then◌else◌, nat_eq}
pub use Rattle.away_values.specs.declared.values.Class.{Class}
pub use Rattle.block_forms.specs.declared.forms.Term.{Term}
pub use Rattle.block_forms.specs.declared.forms.End.{End}
pub use Rattle.block_forms.specs.declared.forms.End.TheVariants.{Jump, Branch, Return, Fail}
pub use Rattle.block_forms.specs.declared.forms.Block.{Block}
pub use Rattle.block_forms.specs.declared.forms.Goto.{Goto}
pub use Rattle.block_forms.specs.declared.forms.Phi.{Phi}
pub use Rattle.block_forms.specs.declared.forms.SsaBlock.{SsaBlock}
pub use Rattle.block_forms.specs.declared.forms.Ssa.{Ssa}

-- what is assigned: a slot or a name, and the term
abbrev pub Assignment : Type 0
Assignment = Option (ℕ × Term)

-- pairs, of which the first with a key counts
abbrev pub Pairs : Type 0
Pairs = List (ℕ × ℕ)

-- what the first pair with the key has
abbrev pub at_key : Pairs → ℕ → Option ℕ
at_key [] k = None
at_key (p ∷ ps) k = if nat_eq p.0 k then Some p.1 else at_key ps k

-- the first φ with the name
abbrev pub phi_named : List Phi → ℕ → Option Phi
phi_named [] n = None
phi_named (f ∷ fs) n = if nat_eq f.name n then Some f else phi_named fs n

-- the name whose value a φ, or another name, takes where the run comes from block b
abbrev pub taken_from : Option Phi → ℕ → ℕ → Option ℕ
taken_from None b n = Some n
taken_from (Some f) b n = at_key f.operands b

-- the name whose value a name takes where the run comes from block b to a block with these φs
abbrev pub source : List Phi → ℕ → ℕ → Option ℕ
source fs b n = taken_from (phi_named fs n) b n

-- what holds of each block that an end leads to
abbrev pub AtTargets : (ℕ → Type 0) → End → Type 0
AtTargets P (Jump c) = P c
AtTargets P (Branch t c d) = P c × P d
AtTargets P (Return t) = Unit {0}
AtTargets P (Fail c) = Unit {0}
