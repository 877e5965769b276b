use Rattle.function_facts.proofs.Raising.{raise_classes}
use Rattle.function_facts.proofs.reads.lowered_forms_raise_classes.Goals as goal

pub returns : goal.returns
returns c = λ f slots g lowered. raise_classes f slots g lowered
