use Rattle.std.proofs.Common.{◌≡◌, ℕ, ◌<◌, false, None}
use Rattle.std.specs.Prelude.{slice_get}
use Rattle.block_forms.specs.Runs.{is_head}
use Rattle.call_forms.specs.Forms.{label_of}
use Rattle.turn_bodies.proofs.checks.heads_are_labels.Given as goal

abbrev pub invariant-loop-b : goal.invariant-loop-b
invariant-loop-b l = (b : ℕ) → b < l.b → label_of l.tail b ≡ None → is_head (slice_get l.goto.blocks b) ≡ false
