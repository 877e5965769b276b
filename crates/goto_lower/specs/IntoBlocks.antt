-- The blocks of a SELECT INTO: with STRICT its tests and their faults, then for each target its
-- pick, then for each target the blocks that set it.
use Rattle.std.specs.Prelude.{
  ℕ,
  ◌+◌,
  Bool,
  true,
  false,
  List,
  [],
  ◌∷◌,
  ◌++◌,
  length,
  slice_get,
  Option,
  Some,
  None,
}
use Rattle.away_trees.specs.declared.queries.Select.{Select}
use Rattle.away_types.specs.declared.slots.Slot.{Slot}
use Rattle.plsql_meaning.specs.Outcomes.{no_data_found, too_many_rows}
use Rattle.select_into.specs.Entries.{Target, checks}
use Rattle.block_forms.specs.declared.places.Position.{Position}
use Rattle.block_forms.specs.declared.places.Numbers.{Numbers}
use Rattle.block_forms.specs.declared.forms.Block.{Block}
use Rattle.block_forms.specs.Patterns.{select_term, copy, sets, branches, jumps, fails, onward}
use Rattle.goto_lower.specs.SlotBlocks.{slot_many, slot_blocks}

-- ---- how many there are

abbrev pub check_many : Bool → ℕ
check_many true = 4
check_many false = 0

abbrev pub put_many : List Slot → Option ℕ → ℕ
put_many slots None = 1
put_many slots (Some slot) = slot_many (slice_get slots slot)

abbrev pub puts_many : List Slot → List Target → ℕ
puts_many slots [] = 0
puts_many slots (t ∷ ts) = put_many slots t.1 + puts_many slots ts

abbrev pub into_many : List Slot → Bool → List Target → ℕ
into_many slots strict ts = check_many strict + (length ts + puts_many slots ts)

-- ---- where they begin

abbrev pub into_first : Bool → List Target → ℕ → ℕ → ℕ
into_first true ts start next = start
into_first false ts start next = onward ts start next

-- the first block of each target
abbrev pub pick_firsts : List Target → ℕ → List ℕ
pick_firsts [] start = []
pick_firsts (_ ∷ ts) start = start ∷ pick_firsts ts (start + 1)

-- ---- the blocks

abbrev pub check_blocks : Bool → ℕ → Select → ℕ → ℕ → List Block
check_blocks false k q first start = []
check_blocks true k q first start =
    branches false (select_term k q) (start + 1) (start + 2)
    ∷ fails no_data_found
    ∷ branches false (select_term (k + 1) q) (start + 3) first
    ∷ fails too_many_rows
    ∷ []

-- from an entry and a hidden slot on; each leads to the next block
abbrev pub pick_blocks : List Target → ℕ → ℕ → Select → ℕ → List Block
pick_blocks [] k hidden q start = []
pick_blocks (_ ∷ ts) k hidden q start =
    sets hidden (select_term k q) (start + 1) ∷ pick_blocks ts (k + 1) (hidden + 1) q (start + 1)

module _ (n : Numbers) (slots : List Slot) where
  abbrev pub put_block : Option ℕ → ℕ → ℕ → ℕ → List Block
  put_block None hidden next start = jumps false next ∷ []
  put_block (Some slot) hidden next start =
      slot_blocks n (slice_get slots slot) slot (copy n.fixed hidden) next start

  abbrev pub put_blocks : List Target → ℕ → ℕ → ℕ → List Block
  put_blocks [] hidden next start = []
  put_blocks (t ∷ ts) hidden next start =
      put_block t.1 hidden (onward ts (start + put_many slots t.1) next) start
      ++ put_blocks ts (hidden + 1) next (start + put_many slots t.1)

  abbrev pub into_blocks : Bool → List Target → Select → Position → ℕ → ℕ → List Block
  into_blocks strict ts q p next start =
      check_blocks strict p.expr q (onward ts (start + check_many strict) next) start
      ++ (pick_blocks ts (p.expr + checks strict) (n.targets + p.targets) q
      (start + check_many strict)
      ++ put_blocks ts (n.targets + p.targets) next (start + check_many strict + length ts))
