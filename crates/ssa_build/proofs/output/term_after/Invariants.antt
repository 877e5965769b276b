use Rattle.std.proofs.Common.{◌≡◌, map, take}
use Rattle.ssa_build.specs.Renamings as renamed
use Rattle.ssa_build.proofs.output.term_after.Given as goal

abbrev pub invariant-loop-slot : goal.invariant-loop-slot
invariant-loop-slot l = l.names ≡ map (renamed.after l.renaming l.block) (take l.slot-index l.slot-items)
