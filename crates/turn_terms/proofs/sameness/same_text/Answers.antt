use Rattle.turn_terms.proofs.SameRules.{texts_same}
use Rattle.turn_terms.proofs.sameness.same_text.Goals as goal

pub returns : goal.returns
returns c =
    texts_same c.text.result.now c.text-2.result.now c.args.a.now c.args.b.now c.eq.result c.text.utf8 c.text-2.utf8 c.text.ensures.value
    c.text-2.ensures.value c.eq.ensures
