use Rattle.call_law.proofs.FormTerms.{terms_fit, fails_fit}
use Rattle.call_law.proofs.terms.terms_of_forms_fit.Goals as goal

pub returns : goal.returns
returns c = record {
  terms = λ f slots g z a count params low named called. terms_fit f slots g low count params z named a called;
  fails = λ f slots g z a count params low named called. fails_fit f slots g low count params z named a called;
}
