use Rattle.std.proofs.Common.{◌≡◌, drop, option_map}
use Rattle.call_answers.specs.Walking.{label_looked_up, labels_by}
use Rattle.call_answers.proofs.sights.label_at.Given as goal

abbrev pub invariant-loop-p : goal.invariant-loop-p
invariant-loop-p l = labels_by l.list l.label ≡ label_looked_up (drop l.p-index l.list) l.label (option_map (λ n. n.now) l.found)
