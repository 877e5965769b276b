use Rattle.std.proofs.Common.{ap, sym, ◌∙◌, subst}
use Rattle.moved_slots.specs.Moved.{slots_by}
use Rattle.call_answers.specs.Calling.{ValueStands, maybe_called}
use Rattle.call_answers.proofs.leaves.value_stands.Goals as goal

pub returns-in-Some-goes_on : goal.returns-in-Some-goes_on
returns-in-Some-goes_on c = λ yes. subst (λ ps. ValueStands c.args.w.now c.args.x.now (slots_by ps) c.args.to.now c.args.e.now c.args.y.now) c.as_slice-pairs.ensures (record {
  nobody = sym c.called_part.ensures ∙ ap maybe_called c.in-None.is;
  value = c.in-Some-goes_on.v.now;
  same = c.same_expr.ensures yes;
  goes = c.in-Some-goes_on.ensures;
})
