use Rattle.turn_equivalence.proofs.Chain.{head_answers}
use Rattle.turn_equivalence.proofs.laws.queries_of_turns_answer_by_heads.Goals as goal

pub returns : goal.returns
returns call = λ s written f slots g z a r c q checked forms to_heads tables args many small.
    head_answers s written f slots g z a r c q checked forms to_heads tables args many small
