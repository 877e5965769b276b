use Rattle.std.proofs.Common.{arith, rules}
use Rattle.block_forms.proofs.Verdicts.{decided}
use Rattle.call_check.proofs.Counting.{no_label, not_counted}
use Rattle.call_check.proofs.labels.label_or_merged.Goals as goal

pub returns-then-seen-gt0 : goal.returns-then-seen-gt0
returns-then-seen-gt0 c = (
  λ t none. absurd (omega (arith, no_label c.args.tail.now c.args.b none, c.requires.labels.each c.args.b c.requires.of_form, c.seen.ensures, c.if-seen-gt0.true)),
  λ h. search rules,
)

pub returns : goal.returns
returns c =
    decided c.may_merge.result c.may_merge.ensures (λ may none. may)
    (λ h. h (not_counted c.args.tail.now c.args.b (omega (arith, c.requires.labels.each c.args.b c.requires.of_form, c.seen.ensures, c.if-seen-gt0.false))))
