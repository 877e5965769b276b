use Rattle.inline_law.proofs.Whole.{query_answers}
use Rattle.inline_law.proofs.laws.queries_answer_filled.Goals as goal

pub returns : goal.returns
returns c = λ s given f slots g z a r one written q params checked few lowered named called templated never inlined calling same tables fits args supplied.
    query_answers s given f slots g z a r one written q params checked few lowered named called templated never inlined calling same tables fits args supplied
