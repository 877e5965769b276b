-- What the forms of a function raise.
use Rattle.std.specs.Prelude.{◌≡◌, true, List}
use Rattle.away_trees.specs.declared.statements.Function.{Function}
use Rattle.away_types.specs.declared.slots.Slot.{Slot}
use Rattle.away_values.specs.Classes.{is_class}
use Rattle.block_forms.specs.declared.forms.Block.{Block}
use Rattle.block_forms.specs.declared.forms.End.{End}
use Rattle.block_forms.specs.declared.forms.End.TheVariants.{Jump, Branch, Return, Fail}
use Rattle.block_forms.specs.declared.forms.Goto.{Goto}
use Rattle.block_forms.specs.Lowered.{Lowered}
use Rattle.block_forms.specs.Places.{Each}

-- what an end raises is a class
abbrev pub RaisesClass : End → Type 0
RaisesClass (Jump c) = Unit {0}
RaisesClass (Branch t y n) = Unit {0}
RaisesClass (Return t) = Unit {0}
RaisesClass (Fail c) = is_class c.code ≡ true

abbrev pub RaiseClasses : Type 0
RaiseClasses = (f : Function) (slots : List Slot) (g : Goto) → Lowered f slots g → Each (λ (x : Block). RaisesClass x.end) g.blocks
