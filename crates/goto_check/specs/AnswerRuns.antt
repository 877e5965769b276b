-- What parts answer: the numbers of those that say yes, in the order of the text.
use Rattle.std.specs.Prelude.{ℕ, ◌+◌, ◌≤◌, List, [], ◌∷◌, if◌then◌else◌}
use Rattle.goto_check.specs.declared.asking.Question.{Question}
use Rattle.goto_check.specs.declared.asking.Asking.{Asking}
use Rattle.goto_check.specs.declared.runs.Run.{Run}
use Rattle.goto_check.specs.Asking.{says_yes}
use Rattle.goto_check.specs.Runs.{run_of}
use Rattle.block_forms.specs.declared.forms.Block.{Block}
use Rattle.block_forms.specs.Lowered.{owners, sharers}
use Rattle.block_forms.specs.Patterns.{Part, own, shared, same, never}

-- the number by which a part is told: its block, where it has one
abbrev pub number_of : Part → ℕ
number_of (own b x) = b
number_of (shared b x) = b
number_of (same a b) = a
number_of never = 0

abbrev pub yes_numbers : List Block → Question → List Part → List ℕ
yes_numbers blocks q [] = []
yes_numbers blocks q (p ∷ ps) = if says_yes blocks q p then number_of p ∷ yes_numbers blocks q ps else yes_numbers blocks q ps

unfoldable pub answer_run : Asking → List Part → Run
answer_run a ps = run_of (yes_numbers a.goto.now.blocks a.question ps)

-- the blocks that the parts have, as their own or as one that they may share, in the order of the
-- text
abbrev pub blocks_in : List Part → List ℕ
blocks_in [] = []
blocks_in (own b x ∷ ps) = b ∷ blocks_in ps
blocks_in (shared b x ∷ ps) = b ∷ blocks_in ps
blocks_in (same a b ∷ ps) = blocks_in ps
blocks_in (never ∷ ps) = blocks_in ps

-- a block has one part of its own, or is one that parts share
pub record IsOnce (ps : List Part) (b : ℕ) : Type 0 where
  pub once : owners b ps ≤ 1
  pub covered : 1 ≤ owners b ps + sharers b ps
