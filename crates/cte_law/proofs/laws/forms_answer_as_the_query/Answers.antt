use Rattle.cte_law.proofs.Composed.{ssa_answers}
use Rattle.cte_law.proofs.laws.forms_answer_as_the_query.Goals as goal

pub returns : goal.returns
returns c = λ s written f slots g z a r q checked lowered named called templated merged columned tables args many small.
    ssa_answers s written f slots g z a r q checked lowered named called templated merged columned tables args many small
