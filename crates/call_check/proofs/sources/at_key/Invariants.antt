use Rattle.std.proofs.Common.{◌≡◌, drop}
use Rattle.block_forms.specs.Forms.{at_key}
use Rattle.call_check.proofs.sources.at_key.Given as goal

abbrev pub invariant-loop-pair : goal.invariant-loop-pair
invariant-loop-pair l = at_key l.pairs l.key ≡ at_key (drop l.pair-index l.pairs) l.key
