use Rattle.std.proofs.Common.{◌≤◌, suc, length, slice_get, refl, sym, ap, ◌∙◌, subst}
use Rattle.block_forms.specs.Expressions.{expressions}
use Rattle.call_forms.specs.Forms.{place_from}
use Rattle.cte_check.proofs.Composed.{answers, trees_are_of_blocks}
use Rattle.cte_check.proofs.check.is_templated.Goals as goal

pub returns-then-not-are_blocks : goal.returns-then-not-are_blocks
returns-then-not-are_blocks c = (
  λ never. absurd (cc never),
  λ h. c.if-not-are_blocks.ensures.1 (λ i x e.
      subst (λ n. suc x ≤ n) (sym c.len.ensures)
      (trees_are_of_blocks (expressions c.args.f.now.function) c.args.a.now c.args.t.now h.trees i x (ap (λ l. slice_get l i) (sym c.as_slice.ensures) ∙ e))),
)

pub returns : goal.returns
returns c =
    let f = c.args.f.now in
    let a = c.args.a.now in
    answers f.function f.slots c.args.tables c.args.g.now c.args.s.now a c.args.t.now c.args.q.now _ c.in_ok-table.table.list c.is_query.result c.in_ok-table.ensures
    (record {
      events = c.as_slice-3.ensures ∙ c.in_ok-events.ensures;
      slots_are = c.as_slice-4.ensures;
      names_are = c.as_slice-5.ensures;
      result_is = refl;
      blocks_are = c.as_slice-6.ensures;
      tail_is = refl;
    })
    (record {
      entries = c.in_ok-entries.ensures;
      labels = λ b label e. c.in_ok-labels.ensures.each b label (ap (λ l. slice_get l b) (sym c.as_slice-7.ensures) ∙ e) ∙ ap (λ l. place_from 0 l b) c.as_slice-2.ensures;
      all_blocks = ap length c.as_slice-7.ensures ∙ (c.in_ok-labels.ensures.many ∙ (c.len-2.ensures ∙ ap length (sym c.as_slice-6.ensures)));
      of_form = λ i x e.
          subst (λ n. suc x ≤ n) (c.len.ensures ∙ ap length (sym c.as_slice-6.ensures))
          (c.if-not-are_blocks.ensures.0 refl i x (ap (λ l. slice_get l i) c.as_slice.ensures ∙ e));
    })
    c.is_query.ensures
