use Rattle.call_forms.proofs.WorkedForms.{forms_are, runs_are, queries_are}
use Rattle.call_forms.proofs.laws.worked_calls_are_related.Goals as goal

pub returns : goal.returns
returns c = record { forms = forms_are; runs = runs_are; queries = queries_are }
