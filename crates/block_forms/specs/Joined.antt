-- Two bounds in a row.
use Rattle.std.specs.Prelude.{◌≡◌, ℕ}
use Rattle.std.proofs.Common.{subst, arith}
use Rattle.block_forms.specs.Frames.{Setting, IsFrameOf}
use Rattle.block_forms.specs.Machines.{Ran, Bounds}
use Rattle.block_forms.specs.Runs.{Frame}

pub bounds_join : {xs ys zs : ℕ → Ran} → Bounds xs ys → Bounds ys zs → Bounds xs zs
bounds_join p q = record {
  answer = λ k a over e. q.answer k a over (p.answer k a over e);
  heads = λ k. omega (arith, p.heads k, q.heads k);
}

pub frame_of_same : (frame : Frame) {s t : Setting} → s ≡ t → IsFrameOf frame s → IsFrameOf frame t
frame_of_same frame e f = subst (IsFrameOf frame) e f
