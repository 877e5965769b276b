use Rattle.std.proofs.Common.{refl, ap, sym, ◌∙◌}
use Rattle.call_meaning.specs.Marks.{marks}
use Rattle.moved_slots.specs.Moved.{slots_by}
use Rattle.call_answers.proofs.PairRules.{select_is}
use Rattle.call_answers.proofs.leaf_pairs.same_select.Goals as goal

pub returns : goal.returns
returns c = λ q. select_is (slots_by c.args.pairs.now) c.args.s.now c.args.y.now (ap marks (sym c.as_slice.ensures) ∙ (c.if-not-same_marks.ensures refl ∙ ap marks c.as_slice-2.ensures)) (c.select_moved.ensures q)
