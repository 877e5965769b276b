-- What is written by a renaming.
use Rattle.std.specs.Prelude.{ℕ, List, Option}
use Rattle.ssa_build.specs.declared.renames.Renaming.{Renaming}
use Rattle.ssa_build.specs.Forms.{End, Phi, SsaBlock, Term}
use Rattle.ssa_build.specs.Output as output
use Rattle.ssa_build.specs.Writing.{AreNewBlocks, IsNewBlock}

module _ (r : Renaming) where
  abbrev pub before : ℕ → ℕ → ℕ
  before = output.new_before r.full.now r.blocks.now r.into.now r.numbers.now

  abbrev pub after : ℕ → ℕ → ℕ
  after = output.new_after r.full.now r.blocks.now r.into.now r.numbers.now

  abbrev pub term_before : ℕ → Term → Term
  term_before = output.term_before r.full.now r.blocks.now r.into.now r.numbers.now

  abbrev pub term_after : ℕ → Term → Term
  term_after = output.term_after r.full.now r.blocks.now r.into.now r.numbers.now

  abbrev pub map_of : ℕ → List (ℕ × ℕ)
  map_of = output.new_map r.full.now r.blocks.now r.into.now r.numbers.now

  abbrev pub slot_phis : ℕ → List Phi
  slot_phis = output.slot_phis r.full.now r.blocks.now r.into.now r.numbers.now

  abbrev pub phis_of : ℕ → List Phi
  phis_of = output.new_phis r.full.now r.blocks.now r.into.now r.numbers.now

  abbrev pub set_of : ℕ → Option (ℕ × Term) → Option (ℕ × Term)
  set_of = output.new_set r.full.now r.blocks.now r.into.now r.numbers.now

  abbrev pub end_of : ℕ → End → End
  end_of = output.new_end r.full.now r.blocks.now r.into.now r.numbers.now

  abbrev pub IsBlock : ℕ → SsaBlock → Type 0
  IsBlock = IsNewBlock r.full.now r.blocks.now r.into.now r.numbers.now

  -- the first n blocks
  abbrev pub AreBlocks : ℕ → List SsaBlock → Type 0
  AreBlocks = AreNewBlocks r.full.now r.blocks.now r.into.now r.numbers.now
