use Rattle.call_forms.specs.RunLaws.{anf_stays, tail_stays, anf_heads, tail_heads}
use Rattle.call_forms.proofs.laws.calls_that_end_stay.Goals as goal

pub returns : goal.returns
returns c = record {
  anf = λ frame a args. anf_stays frame a args;
  tail = λ frame a r args. tail_stays frame a r args;
  anf_heads = λ frame a args. anf_heads frame a args;
  tail_heads = λ frame a r args. tail_heads frame a r args;
}
