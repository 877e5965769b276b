use Rattle.std.proofs.Common.{drop, length}
use Rattle.call_forms.specs.Merged.{calls_to}
use Rattle.call_check.proofs.Counting.{Counting}
use Rattle.call_check.proofs.labels.call_counts.Given as goal

abbrev pub invariant-loop-block : goal.invariant-loop-block
invariant-loop-block l = Counting (length l.blocks) (λ b. calls_to b l.blocks) (λ b. calls_to b (drop l.block-index l.blocks)) l.table.items
