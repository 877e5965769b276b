use Rattle.cte_law.proofs.Composed.{tail_answers}
use Rattle.cte_law.proofs.laws.the_query_answers_as_the_tail_form.Goals as goal

pub returns : goal.returns
returns c = λ s written f slots g z a r q checked lowered named called templated tables args many small.
    tail_answers s written f slots g z a r q checked lowered named called templated tables args many small
