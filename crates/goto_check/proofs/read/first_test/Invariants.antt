use Rattle.std.proofs.Common.{◌≡◌, ◌+◌, drop}
use Rattle.block_forms.specs.Patterns.{first_test}
use Rattle.goto_check.proofs.read.first_test.Given as goal

abbrev pub invariant-loop-i : goal.invariant-loop-i
invariant-loop-i l = first_test l.expr l.a l.b l.blocks ≡ l.i + first_test l.expr l.a l.b (drop l.i l.blocks)
