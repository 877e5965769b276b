-- The frames of a function: what its forms are read in, over tables.
use Rattle.std.specs.Prelude.{◌≡◌, ℕ, List, length}
use Rattle.away_trees.specs.declared.statements.Function.{Function}
use Rattle.sql_meaning.specs.Context.{Rows}
use Rattle.block_forms.specs.Expressions.{expressions, applied}
use Rattle.block_forms.specs.Forms.{Goto}
use Rattle.block_forms.specs.Runs.{Frame}

-- what the frames of a stage have in common: how many slots and parameters the function has, and
-- the goto form
pub record Setting : Type 0 where
  pub slots : ℕ
  pub params : ℕ
  pub goto : Goto

-- a frame of the setting
pub record IsFrameOf (frame : Frame) (setting : Setting) : Type 0 where
  pub slots : frame.slots ≡ setting.slots
  pub params : frame.params ≡ setting.params
  pub goto : frame.goto ≡ setting.goto

-- the frame of a function with so many slots, over tables
abbrev pub frame_of : Function → ℕ → Goto → List Rows → Frame
frame_of f slots g tables = record { apply = applied tables (expressions f); slots = slots; params = length f.params; goto = g }
