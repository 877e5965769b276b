use Rattle.inline_calls.specs.Marks.{AreUnmarked}
use Rattle.inline_calls.proofs.fails.unmarked.Given as goal

abbrev pub invariant-loop-block : goal.invariant-loop-block
invariant-loop-block l = AreUnmarked l._block-index l.marks.items
