use Rattle.batch_law.proofs.Functions.{function_answers}
use Rattle.batch_law.proofs.laws.batches_answer_as_functions.Goals as goal

pub returns : goal.returns
returns c = λ s written f slots g z a r one q place checked few lowered named called templated batched table same tables fits.
    function_answers s written f slots g z a r one q place checked few lowered named called templated batched table same tables fits
