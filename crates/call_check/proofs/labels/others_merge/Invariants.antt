use Rattle.std.proofs.Common.{◌≡◌, ℕ, ◌<◌, None}
use Rattle.call_forms.specs.Forms.{label_of}
use Rattle.call_forms.specs.Merged.{MayMerge}
use Rattle.call_check.proofs.labels.others_merge.Given as goal

abbrev pub invariant-loop-b : goal.invariant-loop-b
invariant-loop-b l = (b : ℕ) → b < l.b → label_of l.tail b ≡ None → MayMerge l.goto l.anf b
