-- The query of a function's forms breaks no rule of types.
use Rattle.std.specs.Prelude.{◌≡◌, ℕ, ◌<◌, ◌^◌, true, List, length}
use Rattle.away_names.specs.declared.note.File.{File}
use Rattle.away_names.specs.declared.note.Times.TheVariants.{Never, Once}
use Rattle.away_trees.specs.declared.schemas.Schema.{Schema}
use Rattle.away_trees.specs.declared.statements.Function.{Function}
use Rattle.away_types.specs.declared.slots.Slot.{Slot}
use Rattle.away_types.specs.CheckedFunctions.{IsChecked}
use Rattle.away_types.specs.Refusals.{IsUnbroken}
use Rattle.away_typing.specs.Wholes.{judged}
use Rattle.block_forms.specs.declared.forms.Goto.{Goto}
use Rattle.block_forms.specs.declared.forms.Ssa.{Ssa}
use Rattle.block_forms.specs.Expressions.{expressions}
use Rattle.block_forms.specs.Intos.{intos}
use Rattle.block_forms.specs.Lowered.{Lowered}
use Rattle.block_forms.specs.Named.{Named}
use Rattle.block_forms.specs.Places.{Each}
use Rattle.call_forms.specs.declared.forms.Anf.{Anf}
use Rattle.call_forms.specs.declared.forms.Tail.{Tail}
use Rattle.call_forms.specs.Called.{Called}
use Rattle.call_forms.specs.Columned.{Columned}
use Rattle.call_forms.specs.Merged.{Merged}
use Rattle.cte_template.specs.Making.{making_of}
use Rattle.cte_template.specs.Tree.{tree}
use Rattle.cte_types.specs.Linked.{IsLinked, HasLinkedItems}
use Rattle.elaboration.specs.Whole.{typed_whole}

-- What is asked of a function beside the relations of its forms: no chain without links, as an
-- expression or an item of a SELECT INTO, which no reader makes, and tables whose number fits a
-- place.
pub record IsTypable (schema : Schema) (f : Function) : Type 0 where
  pub few : length schema.tables < 2 ^ 64
  pub linked : Each IsLinked (expressions f)
  pub items : Each HasLinkedItems (intos f.body)

-- Each select of the tree of a checked function's forms has types, so that it comes back from the
-- tree without the marks of its operations.
abbrev pub TreeHasTypes : Type 0
TreeHasTypes =
    (schema : Schema) (written f : Function) (slots : List Slot) (g : Goto) (z : Ssa) (a : Anf)
    (r : Tail) (count params : ℕ) → IsChecked schema written f slots
    → Lowered f slots g → Named count params g z → Called g z a → Merged g a r
    → Columned slots z a r → IsTypable schema f
    → typed_whole schema Never (tree (making_of f slots z a r) g.entry (length schema.tables))
    ≡ true

-- A query that is read as the tree of a checked function's forms, with no rule of names broken and
-- the recursive table named in the second term alone, and there once, breaks no rule.
abbrev pub TreeBreaksNoRule : Type 0
TreeBreaksNoRule =
    (schema : Schema) (written f : Function) (slots : List Slot) (g : Goto) (z : Ssa) (a : Anf)
    (r : Tail) (count params : ℕ) → IsChecked schema written f slots
    → Lowered f slots g → Named count params g z → Called g z a → Merged g a r
    → Columned slots z a r → IsTypable schema f → (names : File)
    → names.query ≡ tree (making_of f slots z a r) g.entry (length schema.tables)
    → IsUnbroken names.note → names.first.refers ≡ Never
    → names.second.refers ≡ Once → IsUnbroken (judged schema names).note
