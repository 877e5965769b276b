use Rattle.std.proofs.Common.{◌≡◌, map, string_bytes, take}
use Rattle.worked_runs.proofs.words.words_of.Given as goal

abbrev pub invariant-loop-part : goal.invariant-loop-part
invariant-loop-part l = map string_bytes l.words.items ≡ map (λ part. part.now) (take l.part-index l.part-items)
