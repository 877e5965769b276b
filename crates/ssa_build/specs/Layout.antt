-- How the parts of a goto form are counted.
use Rattle.std.specs.Prelude.{◌+◌, ◌*◌, ◌^◌, ◌<◌, ◌≤◌}
use Rattle.ssa_build.specs.declared.layout.Layout.{Layout}

-- a name for each slot, and in each block one for each slot and one for the assignment, have
-- numbers
pub record IsLayout (l : Layout) : Type 0 where
  pub params_first : l.params ≤ l.slots
  pub short : l.slots + l.blocks * (l.slots + 1) < 2 ^ 32
