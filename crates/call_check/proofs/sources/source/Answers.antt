use Rattle.std.proofs.Common.{ap, sym, ◌∙◌}
use Rattle.block_forms.specs.Forms.{at_key, taken_from}
use Rattle.call_check.proofs.Phis.{phi_here, phi_after}
use Rattle.call_check.proofs.sources.source.Goals as goal

pub loop-phi-preserved : goal.loop-phi-preserved
loop-phi-preserved c =
    c.loop-phi.invariant
    ∙ phi_after c.args.phis.now c.loop-phi.phi-index c.args.name c.phi-item.result c.loop-phi-test.true c.phi-item.is c.if-phi-name.false

pub returns-then-phi-name : goal.returns-then-phi-name
returns-then-phi-name c =
    c.at_key.ensures ∙ ap (λ ps. at_key ps c.args.b) c.as_slice.ensures
    ∙ sym
    (ap (λ o. taken_from o c.args.b c.args.name) (c.loop-phi.invariant ∙ phi_here c.args.phis.now c.loop-phi.phi-index c.args.name c.phi-item.result c.loop-phi-test.true c.phi-item.is c.if-phi-name.true))
