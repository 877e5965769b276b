-- What Merged and Columned promise of runs: a tail form keeps the answers of its normal form, and
-- visits as many heads.
use Rattle.std.specs.Prelude.{List}
use Rattle.away_types.specs.declared.slots.Slot.{Slot}
use Rattle.away_values.specs.declared.values.Value.{Value}
use Rattle.block_forms.specs.declared.forms.Ssa.{Ssa}
use Rattle.block_forms.specs.Machines.{Bounds}
use Rattle.block_forms.specs.Runs.{Frame}
use Rattle.call_forms.specs.declared.forms.Anf.{Anf}
use Rattle.call_forms.specs.declared.forms.Tail.{Tail}
use Rattle.call_forms.specs.Columned.{Columned}
use Rattle.call_forms.specs.Merged.{Merged}
use Rattle.call_forms.specs.NormalRuns.{anf_runs}
use Rattle.call_forms.specs.TailRuns.{tail_runs}

abbrev pub TailRunsBound : Type 0
TailRunsBound =
    (frame : Frame) (slots : List Slot) (ssa : Ssa) (anf : Anf) (tail : Tail)
    → Merged frame.goto anf tail → Columned slots ssa anf tail → (args : List Value)
    → Bounds (anf_runs frame anf args) (tail_runs frame anf tail args)
