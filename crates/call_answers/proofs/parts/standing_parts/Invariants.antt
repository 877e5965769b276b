use Rattle.std.proofs.Common.{◌≡◌, ◌++◌, drop, map}
use Rattle.call_expand.specs.Parts.{part_of, parts_of}
use Rattle.call_answers.specs.Walking.{program}
use Rattle.call_answers.proofs.parts.standing_parts.Given as goal

abbrev pub invariant-loop-f : goal.invariant-loop-f
invariant-loop-f l = program l.all ++ map (part_of l.s l.fs) (drop l.f-index l.fs) ≡ parts_of l.s l.fs
