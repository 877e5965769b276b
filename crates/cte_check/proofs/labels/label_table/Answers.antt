use Rattle.std.proofs.Common.{◌+◌, length, [], ◌∷◌, slice_get, None, sym, ap, ◌∙◌, arith}
use Rattle.std.proofs.lemmas.List.{length-append}
use Rattle.call_forms.specs.Forms.{place_from}
use Rattle.cte_check.specs.Labels.{first_label}
use Rattle.cte_check.proofs.LabelPlaces.{marking_next, marking_over, marked_as_many, only_none, no_label}
use Rattle.cte_check.proofs.labels.label_table.Goals as goal

pub loop-block-init : goal.loop-block-init
loop-block-init c = record { many = ap length c.new-table.ensures; none = λ b label e. no_label c.new-table.result b label c.new-table.ensures e }

pub loop-block-preserved : goal.loop-block-preserved
loop-block-preserved c = record {
  many = ap length c.in_ok-push.ensures.ok ∙ (length-append c.loop-block.table (None ∷ []) ∙ ap (λ n. n + 1) c.loop-block.invariant.many);
  none = only_none c.loop-block.table c.push.new.self c.in_ok-push.ensures.ok c.loop-block.invariant.none;
}

pub loop-i-init : goal.loop-i-init
loop-i-init c = record {
  many = omega (arith, c.loop-block.invariant.many, c.loop-block-test.false, c.loop-block.auto._block-end);
  marking = λ b label e. ap (λ o. first_label o (place_from 0 c.args.labels.now b)) (c.loop-block.invariant.none b label e);
}

pub loop-i-preserved : goal.loop-i-preserved
loop-i-preserved c = record {
  many = ap length c.mark.ensures ∙ (marked_as_many _ _ _ ∙ c.loop-i.invariant.many);
  marking = λ b label e.
      marking_next c.args.labels.now c.loop-i.i c.loop-i.table c.loop-i-test.true c.loop-i.invariant.marking b label (ap (λ l. slice_get l b) (sym c.mark.ensures) ∙ e);
}

pub returns-clause-many : goal.returns-clause-many
returns-clause-many c = c.loop-i.invariant.many

pub returns-clause-each : goal.returns-clause-each
returns-clause-each c = marking_over c.args.labels.now c.loop-i.i c.loop-i.table c.loop-i-test.false c.loop-i.invariant.marking
