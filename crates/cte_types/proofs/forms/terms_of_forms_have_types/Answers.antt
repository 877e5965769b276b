use Rattle.cte_types.proofs.CheckedFacts.{facts}
use Rattle.cte_types.proofs.FormTypes.{terms_typed}
use Rattle.cte_types.proofs.forms.terms_of_forms_have_types.Goals as goal

pub returns : goal.returns
returns c = λ schema written f slots g z a count params checked linked low named called.
    terms_typed schema f slots (facts schema written f slots checked) linked g low count params z named a called
