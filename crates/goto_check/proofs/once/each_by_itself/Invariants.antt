use Rattle.std.proofs.Common.{ℕ, ◌<◌}
use Rattle.block_forms.specs.Lowered.{parts_in}
use Rattle.goto_check.specs.Asking.{setting_in}
use Rattle.goto_check.specs.AnswerRuns.{IsOnce}
use Rattle.goto_check.proofs.once.each_by_itself.Given as goal

abbrev pub invariant-loop-b : goal.invariant-loop-b
invariant-loop-b l = (i : ℕ) → i < l.b → IsOnce (parts_in (setting_in l.a) l.f) i
