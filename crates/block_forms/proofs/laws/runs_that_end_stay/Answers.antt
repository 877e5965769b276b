use Rattle.block_forms.specs.RunLaws.{goto_stays, ssa_stays, goto_heads, ssa_heads}
use Rattle.block_forms.proofs.laws.runs_that_end_stay.Goals as goal

pub returns : goal.returns
returns c = record {
  goto = λ frame g args. goto_stays frame g args;
  ssa = λ frame z args. ssa_stays frame z args;
  goto_heads = λ frame g args. goto_heads frame g args;
  ssa_heads = λ frame z args. ssa_heads frame z args;
}
