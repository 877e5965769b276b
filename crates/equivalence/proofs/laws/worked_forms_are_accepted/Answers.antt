use Rattle.equivalence.proofs.SignOf.{named}
use Rattle.equivalence.proofs.laws.worked_forms_are_accepted.Goals as goal

pub returns : goal.returns
returns c =
    let calls = c.worked_calls_are_related.ensures in
    record {
      lowered = c.worked_forms_are_lowered.ensures.forms.sign_of_is;
      named = named;
      called = calls.forms.called;
      merged = calls.forms.merged;
      columned = calls.forms.merged_columns;
      templated = calls.queries.templated;
    }
