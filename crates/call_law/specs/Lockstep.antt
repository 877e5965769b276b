-- What Called promises of runs: a normal form runs in lockstep with its SSA form.
use Rattle.std.specs.Prelude.{◌≡◌, ℕ, List}
use Rattle.away_values.specs.declared.values.Value.{Value}
use Rattle.block_forms.specs.declared.forms.Ssa.{Ssa}
use Rattle.block_forms.specs.Runs.{Frame, ssa_runs}
use Rattle.call_forms.specs.declared.forms.Anf.{Anf}
use Rattle.call_forms.specs.Called.{Called}
use Rattle.call_forms.specs.NormalRuns.{anf_runs}

-- k visits come to one answer and one count of heads in both forms, at any arguments
abbrev pub Lockstep : Frame → Ssa → Anf → Type 0
Lockstep frame ssa anf = (args : List Value) (k : ℕ) → ssa_runs frame ssa args k ≡ anf_runs frame anf args k

abbrev pub CalledRunsInLockstep : Type 0
CalledRunsInLockstep = (frame : Frame) (ssa : Ssa) (anf : Anf) → Called frame.goto ssa anf → Lockstep frame ssa anf
