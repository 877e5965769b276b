-- Marks that spread along the ends of blocks.
use Rattle.std.specs.Prelude.{
  ◌≡◌,
  ◌<◌,
  ◌↔◌,
  ℕ,
  Bool,
  true,
  false,
  not,
  if◌then◌else◌,
  List,
  length,
  get_or,
  slice_get,
  Option,
  Some,
  None,
}
use Rattle.block_forms.specs.declared.forms.Block.{Block}
use Rattle.block_forms.specs.declared.forms.End.{End}
use Rattle.block_forms.specs.declared.forms.End.TheVariants.{Jump, Branch, Return, Fail}
use Rattle.block_forms.specs.declared.forms.Goto.{Goto}
use Rattle.inline_law.specs.Fails.{IsFail, Leads, Reached}

abbrev pub marked : List Bool → ℕ → Bool
marked marks b = get_or marks b false

-- the block has a mark, which isn't set
abbrev pub is_new : List Bool → ℕ → Bool
is_new marks b = not (get_or marks b true)

abbrev pub or_new : List Bool → ℕ → Option ℕ → Option ℕ
or_new marks b other = if is_new marks b then Some b else other

-- a new block to which the end leads
abbrev pub new_target : List Bool → End → Option ℕ
new_target marks (Jump c) = or_new marks c None
new_target marks (Branch t c d) = or_new marks c (or_new marks d None)
new_target marks (Return t) = None
new_target marks (Fail c) = None

module _ (blocks : List Block) where
  -- a marked block leads to c
  pub record MarkedLeads (marks : List Bool) (c : ℕ) : Type 0 where
    pub number : ℕ
    pub block : Block
    pub is_marked : marked marks number ≡ true
    pub is : slice_get blocks number ≡ Some block
    pub leads : Leads block.end c

  pub record IsNext (marks : List Bool) (c : ℕ) : Type 0 where
    pub leads : MarkedLeads marks c
    pub inside : c < length marks
    pub new : marked marks c ≡ false

  -- each block of the form to which a marked one leads is marked
  abbrev pub IsClosed : List Bool → Type 0
  IsClosed marks = (c : ℕ) → MarkedLeads marks c → c < length marks → marked marks c ≡ true

  -- a block that was marked, or one to which such lead
  pub data Follows (old : List Bool) : ℕ → Type 0 where
    was : {b : ℕ} → marked old b ≡ true → Follows old b
    led : {b c : ℕ} (x : Block) → Follows old b → slice_get blocks b ≡ Some x → Leads x.end c
        → Follows old c

  pub record IsSpread (old new : List Bool) : Type 0 where
    pub as_many : length new ≡ length old
    pub kept : (b : ℕ) → marked old b ≡ true → marked new b ≡ true
    pub only : (b : ℕ) → marked new b ≡ true → Follows old b
    pub closed : IsClosed new

  -- a marked block fails
  pub record MarkedFails (marks : List Bool) : Type 0 where
    pub number : ℕ
    pub block : Block
    pub is_marked : marked marks number ≡ true
    pub is : slice_get blocks number ≡ Some block
    pub fails : IsFail block.end

  abbrev pub TellsMarkedFail : List Bool → Bool → Type 0
  TellsMarkedFail marks told = (told ≡ true) ↔ MarkedFails marks

abbrev pub is_fail : End → Bool
is_fail (Fail c) = true
is_fail _ = false

pub record AreUnmarked (n : ℕ) (marks : List Bool) : Type 0 where
  pub as_many : length marks ≡ n
  pub none : (b : ℕ) → marked marks b ≡ false

-- exactly the blocks that are reached are marked
pub record AreReached (goto : Goto) (marks : List Bool) : Type 0 where
  pub as_many : length marks ≡ length goto.blocks
  pub only : (b : ℕ) → marked marks b ≡ true → Reached goto.blocks goto.entry b
  pub all : (b : ℕ) → Reached goto.blocks goto.entry b → b < length goto.blocks
      → marked marks b ≡ true
