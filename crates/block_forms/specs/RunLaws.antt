-- The laws of machines at the runs of the forms.
use Rattle.std.proofs.Common.{List}
use Rattle.away_values.specs.declared.values.Value.{Value}
use Rattle.block_forms.specs.Forms.{Goto, Ssa}
use Rattle.block_forms.specs.Machines.{Stays, HeadsFew}
use Rattle.block_forms.specs.Runs.{
  Frame,
  goto_machine,
  first_slots,
  goto_runs,
  ssa_machine,
  first_values,
  ssa_runs,
}
use Rattle.block_forms.specs.MachineLaws.{run_stays, run_heads_few}

module _ (frame : Frame) where
  pub goto_stays : (g : Goto) (args : List Value) → Stays (goto_runs frame g args)
  goto_stays g args = run_stays (goto_machine frame g) (frame.goto.entry, first_slots frame args)

  pub ssa_stays : (z : Ssa) (args : List Value) → Stays (ssa_runs frame z args)
  ssa_stays z args = run_stays (ssa_machine frame z) (frame.goto.entry, first_values frame args)

  pub goto_heads : (g : Goto) (args : List Value) → HeadsFew (goto_runs frame g args)
  goto_heads g args = run_heads_few (goto_machine frame g) (frame.goto.entry, first_slots frame args)

  pub ssa_heads : (z : Ssa) (args : List Value) → HeadsFew (ssa_runs frame z args)
  ssa_heads z args = run_heads_few (ssa_machine frame z) (frame.goto.entry, first_values frame args)
