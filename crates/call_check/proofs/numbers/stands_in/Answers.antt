use Rattle.std.proofs.Common.{◌≡◌, refl}
use Rattle.call_forms.specs.Called.{Among}
use Rattle.call_check.proofs.Seeking.{none_at_first, none_more, none_of_all}
use Rattle.call_check.proofs.numbers.stands_in.Goals as goal

pub loop-m-init : goal.loop-m-init
loop-m-init c = none_at_first (λ m. m ≡ c.args.n) c.args.numbers.now

pub loop-m-preserved : goal.loop-m-preserved
loop-m-preserved c = none_more (λ m. m ≡ c.args.n) c.args.numbers.now c.loop-m.m-index 0 c.loop-m-test.true c.loop-m.invariant c.if-m-n.false

pub returns : goal.returns
returns c = (
  λ t. absurd (cc),
  λ (a : Among c.args.numbers.now c.args.n). absurd (none_of_all (λ m. m ≡ c.args.n) c.args.numbers.now c.loop-m.m-index c.loop-m-test.false c.loop-m.invariant a.place c.args.n a.there refl),
)
