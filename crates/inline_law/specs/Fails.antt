-- Whether a run of a goto form may come to a fault: some block that jumps and branches reach from
-- the entry fails.
use Rattle.std.specs.Prelude.{◌≡◌, ◌⊎◌, ℕ, List, slice_get, Some}
use Rattle.block_forms.specs.declared.forms.Block.{Block}
use Rattle.block_forms.specs.declared.forms.End.{End}
use Rattle.block_forms.specs.declared.forms.End.TheVariants.{Jump, Branch, Return, Fail}
use Rattle.block_forms.specs.declared.forms.Goto.{Goto}

-- the block of this number is one to which the end leads
abbrev pub Leads : End → ℕ → Type 0
Leads (Jump c) d = d ≡ c
Leads (Branch t a b) d = (d ≡ a) ⊎ (d ≡ b)
Leads (Return t) d = ⊥
Leads (Fail c) d = ⊥

abbrev pub IsFail : End → Type 0
IsFail (Fail c) = Unit {0}
IsFail _ = ⊥

-- by no end or by several, from the entry
pub data Reached (blocks : List Block) (entry : ℕ) : ℕ → Type 0 where
  at_entry : Reached blocks entry entry
  by_end : {b c : ℕ} (x : Block) → Reached blocks entry b → slice_get blocks b ≡ Some x
      → Leads x.end c → Reached blocks entry c

-- a block that is reached fails
pub record Fails (goto : Goto) : Type 0 where
  pub number : ℕ
  pub block : Block
  pub reached : Reached goto.blocks goto.entry number
  pub is : slice_get goto.blocks number ≡ Some block
  pub fails : IsFail block.end
