-- What holds of all runs, and of the fixed list.
use Rattle.std.specs.Prelude.{◌≡◌, List, length, slice_get, Some}
use Rattle.away_values.specs.declared.values.Value.{Value}
use Rattle.sql_meaning.specs.Reads.{slots_of}
use Rattle.block_forms.specs.declared.fixed_list.Fixed.{Fixed}
use Rattle.block_forms.specs.FixedList as fixed
use Rattle.block_forms.specs.FixedList.{entries, position, fixed_list}
use Rattle.block_forms.specs.Forms.{Goto, Ssa}
use Rattle.block_forms.specs.Machines.{Stays, HeadsFew}
use Rattle.block_forms.specs.Runs.{Frame, goto_runs, ssa_runs}

abbrev pub GotoRunsStay : Type 0
GotoRunsStay = (frame : Frame) (g : Goto) (args : List Value) → Stays (goto_runs frame g args)

abbrev pub SsaRunsStay : Type 0
SsaRunsStay = (frame : Frame) (z : Ssa) (args : List Value) → Stays (ssa_runs frame z args)

abbrev pub GotoHeads : Type 0
GotoHeads = (frame : Frame) (g : Goto) (args : List Value) → HeadsFew (goto_runs frame g args)

abbrev pub SsaHeads : Type 0
SsaHeads = (frame : Frame) (z : Ssa) (args : List Value) → HeadsFew (ssa_runs frame z args)

-- each entry of the fixed list stands at its position, with its expression, which reads its slots;
-- the list holds no more
pub record FixedListStands : Type 0 where
  pub entry : (e : Fixed) → slice_get entries (position e) ≡ Some e
  pub expression : (e : Fixed) → slice_get fixed_list (position e) ≡ Some (fixed.expression e)
  pub slots : (e : Fixed) → slots_of (fixed.expression e) ≡ fixed.slots e
  pub many : length fixed_list ≡ fixed.many
