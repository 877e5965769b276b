use Rattle.type_soundness.proofs.Statements.{typed}
use Rattle.type_soundness.proofs.answers.expressions_of_a_checked_function_have_their_types.Goals as goal

pub returns : goal.returns
returns c = typed c.entries_ask_the_select.ensures.typed c.marked_trees_have_the_types_found.ensures
