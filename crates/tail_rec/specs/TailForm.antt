-- The tail form that is built.
use Rattle.std.specs.Prelude.{◌≡◌, ℕ, List}
use Rattle.away_types.specs.declared.slots.Slot.{Slot}
use Rattle.block_forms.specs.declared.forms.Goto.{Goto}
use Rattle.block_forms.specs.declared.forms.Ssa.{Ssa}
use Rattle.call_forms.specs.Columned.{type_of_name}
use Rattle.call_forms.specs.declared.forms.Anf.{Anf}
use Rattle.call_forms.specs.declared.forms.Tail.{Tail}
use Rattle.tail_rec.specs.Walk.{labels_of}
use Rattle.tail_rec.specs.Columns.{widths_of, columns_of, starts_of, places_of}

pub record IsTailForm (slots : List Slot) (goto : Goto) (ssa : Ssa) (anf : Anf) (tail : Tail) : Type 0 where
  pub labels : tail.labels ≡ labels_of goto anf.blocks
  pub columns : tail.columns ≡ columns_of (widths_of (type_of_name slots ssa.names) anf.blocks tail.labels)
  pub places : tail.places
      ≡ places_of (type_of_name slots ssa.names) anf.blocks (starts_of (widths_of (type_of_name slots ssa.names) anf.blocks tail.labels)) tail.labels

-- with these labels
pub record IsColumned (slots : List Slot) (ssa : Ssa) (anf : Anf) (chosen : List ℕ) (tail : Tail) : Type 0 where
  pub labels : tail.labels ≡ chosen
  pub columns : tail.columns ≡ columns_of (widths_of (type_of_name slots ssa.names) anf.blocks chosen)
  pub places : tail.places
      ≡ places_of (type_of_name slots ssa.names) anf.blocks (starts_of (widths_of (type_of_name slots ssa.names) anf.blocks chosen)) chosen
