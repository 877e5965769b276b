use Rattle.std.proofs.Common.{List}
use Rattle.away_trees.specs.declared.schemas.Schema.{Schema}
use Rattle.away_trees.specs.declared.statements.Function.{Function}
use Rattle.away_types.specs.declared.slots.Slot.{Slot}
use Rattle.away_types.specs.CheckedFunctions.{IsChecked}
use Rattle.away_typing.specs.ParameterLists.{with_expr}
use Rattle.block_forms.specs.Expressions.{expressions}
use Rattle.block_forms.specs.Places.{Each}
use Rattle.cte_types.specs.TreeLaws.{HasNoParameter}
use Rattle.cte_types.proofs.CheckedParameters.{checked_quiet}
use Rattle.cte_types.proofs.trees.expressions_have_no_parameters.Goals as goal

none : (schema : Schema) (written f : Function) (slots : List Slot) → IsChecked schema written f slots → Each HasNoParameter (expressions f)
unfolding with_expr
none schema written f slots h = checked_quiet schema written f slots h

pub returns : goal.returns
returns c = none
