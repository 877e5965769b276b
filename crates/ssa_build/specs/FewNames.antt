-- How many names an SSA form has.
use Rattle.std.specs.Prelude.{ℕ, ◌+◌, ◌*◌, ◌≤◌, length}
use Rattle.block_forms.specs.Named.{Named}
use Rattle.ssa_build.specs.Forms.{Goto, Ssa}
use Rattle.ssa_build.specs.SetNames.{NamesAreSet}

-- Where each name beyond the slots' own is set there is at most one for each slot, and in each
-- block one for each slot and one for the assignment.
abbrev pub NamesAreFew : Type 0
NamesAreFew = (slots params : ℕ) (g : Goto) (z : Ssa) → Named slots params g z → NamesAreSet slots z
    → length z.names ≤ slots + length g.blocks * (slots + 1)
