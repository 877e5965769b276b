use Rattle.std.proofs.Common.{◌≡◌, drop}
use Rattle.block_forms.specs.Forms.{phi_named}
use Rattle.call_check.proofs.sources.source.Given as goal

abbrev pub invariant-loop-phi : goal.invariant-loop-phi
invariant-loop-phi l = phi_named (l.phis) l.name ≡ phi_named ((drop l.phi-index l.phis)) l.name
