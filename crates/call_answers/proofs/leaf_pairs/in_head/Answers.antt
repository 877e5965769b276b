use Rattle.std.proofs.Common.{ap, sym, ◌∙◌}
use Rattle.call_meaning.specs.Alike.{put_at}
use Rattle.moved_slots.specs.Moved.{slots_by}
use Rattle.call_answers.specs.Walking.{head_slots}
use Rattle.call_answers.proofs.Pairs.{put_more}
use Rattle.call_answers.proofs.leaf_pairs.in_head.Goals as goal

pub returns-in_ok-push-in-Count-clause-slots : goal.returns-in_ok-push-in-Count-clause-slots
returns-in_ok-push-in-Count-clause-slots c = put_more c.push.new.self c.in_ok-slots.slots c.args.p.at c.args.p.new c.in_ok-push-in-Count.ensures.ok ∙ (ap (λ ps. put_at c.args.p.at c.args.p.new (slots_by ps)) c.in_ok-slots.ensures ∙ ap (λ k. head_slots k c.args.p (slots_by c.args.pairs.now)) (sym c.in-Count.is))
