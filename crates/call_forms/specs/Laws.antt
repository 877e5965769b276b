-- What holds of all runs with calls.
use Rattle.std.specs.Prelude.{List}
use Rattle.away_values.specs.declared.values.Value.{Value}
use Rattle.block_forms.specs.Machines.{Stays, HeadsFew}
use Rattle.block_forms.specs.Runs.{Frame}
use Rattle.call_forms.specs.Forms.{Anf, Tail}
use Rattle.call_forms.specs.NormalRuns.{anf_runs}
use Rattle.call_forms.specs.TailRuns.{tail_runs}

abbrev pub AnfRunsStay : Type 0
AnfRunsStay = (frame : Frame) (anf : Anf) (args : List Value) → Stays (anf_runs frame anf args)

abbrev pub TailRunsStay : Type 0
TailRunsStay = (frame : Frame) (anf : Anf) (tail : Tail) (args : List Value) → Stays (tail_runs frame anf tail args)

abbrev pub AnfHeads : Type 0
AnfHeads = (frame : Frame) (anf : Anf) (args : List Value) → HeadsFew (anf_runs frame anf args)

abbrev pub TailHeads : Type 0
TailHeads = (frame : Frame) (anf : Anf) (tail : Tail) (args : List Value) → HeadsFew (tail_runs frame anf tail args)
