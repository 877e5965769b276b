use Rattle.std.proofs.Common.{◌≡◌, map, take}
use Rattle.ssa_build.specs.Renamings as renamed
use Rattle.ssa_build.proofs.output.new_operands.Given as goal

abbrev pub invariant-loop-source : goal.invariant-loop-source
invariant-loop-source l = l.operands ≡ map (λ p. (p, renamed.after l.renaming p l.slot)) (take l.source-index l.sources)
