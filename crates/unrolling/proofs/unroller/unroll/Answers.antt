use Rattle.unrolling.proofs.OneTurn.{made_in_more}
use Rattle.unrolling.proofs.unroller.unroll.Goals as goal

pub returns-in-None-clause-equivalent : goal.returns-in-None-clause-equivalent
returns-in-None-clause-equivalent c =
    made_in_more c.args.s.now.schema c.args.f.now.function c.args.f.now.slots c.args.turns c.requires.some c.compiled.result c.compiled.ensures.equivalent
