-- The laws of machines at the runs of the forms with calls.
use Rattle.std.proofs.Common.{List}
use Rattle.away_values.specs.declared.values.Value.{Value}
use Rattle.block_forms.specs.Machines.{Stays, HeadsFew}
use Rattle.block_forms.specs.MachineLaws.{run_stays, run_heads_few}
use Rattle.block_forms.specs.Runs.{Frame}
use Rattle.call_forms.specs.Forms.{Anf, Tail}
use Rattle.call_forms.specs.NormalRuns.{anf_machine, first_scope, anf_runs}
use Rattle.call_forms.specs.TailRuns.{tail_machine, entry_label, first_row, tail_runs}

module _ (frame : Frame) (anf : Anf) where
  pub anf_stays : (args : List Value) → Stays (anf_runs frame anf args)
  anf_stays args = run_stays (anf_machine frame anf) (frame.goto.entry, first_scope frame anf args)

  pub anf_heads : (args : List Value) → HeadsFew (anf_runs frame anf args)
  anf_heads args = run_heads_few (anf_machine frame anf) (frame.goto.entry, first_scope frame anf args)

  module _ (tail : Tail) where
    pub tail_stays : (args : List Value) → Stays (tail_runs frame anf tail args)
    tail_stays args = run_stays (tail_machine frame anf tail) (entry_label frame anf tail, first_row frame anf tail args)

    pub tail_heads : (args : List Value) → HeadsFew (tail_runs frame anf tail args)
    tail_heads args = run_heads_few (tail_machine frame anf tail) (entry_label frame anf tail, first_row frame anf tail args)
