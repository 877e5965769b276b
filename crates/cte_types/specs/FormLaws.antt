-- What holds of the types in the forms of a checked function.
use Rattle.std.specs.Prelude.{ℕ, List}
use Rattle.away_trees.specs.declared.schemas.Schema.{Schema}
use Rattle.away_trees.specs.declared.statements.Function.{Function}
use Rattle.away_types.specs.declared.slots.Slot.{Slot}
use Rattle.away_types.specs.CheckedFunctions.{IsChecked}
use Rattle.away_typing.specs.Wholes.{column_types}
use Rattle.block_forms.specs.declared.forms.Goto.{Goto}
use Rattle.block_forms.specs.declared.forms.Ssa.{Ssa}
use Rattle.block_forms.specs.Expressions.{expressions}
use Rattle.block_forms.specs.Intos.{intos}
use Rattle.block_forms.specs.Lowered.{Lowered}
use Rattle.block_forms.specs.Named.{Named}
use Rattle.block_forms.specs.Places.{Each}
use Rattle.call_forms.specs.declared.forms.Anf.{Anf}
use Rattle.call_forms.specs.Called.{Called}
use Rattle.call_forms.specs.Templated.{types_of}
use Rattle.cte_types.specs.Linked.{HasLinkedItems}
use Rattle.cte_types.specs.Typed.{BlockHasTypes, BlockKeepsTypes}

-- In the forms of a checked function each assigned term has the type of its name's slot, each test
-- is boolean, and each returned term has the type of the result. An item of a SELECT INTO is no
-- chain without links, which no reader makes.
abbrev pub TermsHaveTypes : Type 0
TermsHaveTypes =
    (schema : Schema) (written f : Function) (slots : List Slot) (g : Goto) (z : Ssa) (a : Anf)
    (count params : ℕ) → IsChecked schema written f slots
    → Each HasLinkedItems (intos f.body) → Lowered f slots g → Named count params g z
    → Called g z a
    → Each (BlockHasTypes (column_types schema) (expressions f) (types_of slots z) f.result)
    a.blocks

-- each call passes names of its parameters' types
abbrev pub CallsKeepTypes : Type 0
CallsKeepTypes =
    (slots : List Slot) (g : Goto) (z : Ssa) (a : Anf) (count params : ℕ) → Named count params g z
    → Called g z a
    → Each (BlockKeepsTypes (types_of slots z) a) a.blocks
