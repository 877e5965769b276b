use Rattle.std.proofs.Common.{◌≡◌, ◌+◌, subst, suc, arith, false}
use Rattle.call_meaning.specs.Alike.{no_slots, put_from}
use Rattle.moved_slots.specs.Moved.{slots_by}
use Rattle.call_answers.specs.Walking.{labels_by}
use Rattle.call_answers.proofs.Pairs.{put_more}
use Rattle.call_answers.proofs.PartRules.{from_more}
use Rattle.call_answers.proofs.callees.callee_in_sight.Goals as goal

pub loop-i-preserved : goal.loop-i-preserved
loop-i-preserved c =
    let one : suc c.loop-i.i ≡ c.loop-i.i + 1 = omega arith in
    subst (λ k. slots_by c.push.new.self ≡ put_from k 0 c.args.from no_slots) one (from_more (slots_by c.loop-i.slots) (slots_by c.push.new.self) c.loop-i.i c.in_ok-pair.pair.0 c.in_ok-pair.pair.1 c.args.from c.loop-i.invariant c.in_ok-pair.ensures.own c.in_ok-pair.ensures.new
    (put_more c.push.new.self c.loop-i.slots c.in_ok-pair.pair.0 c.in_ok-pair.pair.1 c.in_ok-push.ensures.ok))

pub returns : goal.returns
returns c = let ends : c.loop-i.i ≡ c.args.n = omega (arith, c.loop-i-test.false, c.loop-i.auto.i-end) in record {
  slots = subst (λ k. slots_by c.loop-i.slots ≡ put_from k 0 c.args.from no_slots) ends c.loop-i.invariant;
  labels_are = λ t. record { exit = labels_by (c.new.ensures t); continue = labels_by (c.new-2.ensures t); looped = false };
}
