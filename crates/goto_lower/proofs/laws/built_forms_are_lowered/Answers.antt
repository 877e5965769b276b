use Rattle.goto_lower.proofs.BuiltLowered.{is_lowered, is_small}
use Rattle.goto_lower.proofs.laws.built_forms_are_lowered.Goals as goal

pub returns : goal.returns
returns c = record { lowered = λ f slots owned. is_lowered f slots owned; few = λ f slots. is_small f slots }
