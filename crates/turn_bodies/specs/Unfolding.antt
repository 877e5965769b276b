-- The tail form of a query of turns: its labels are the heads of loops, and behind them the entry;
-- or, where the trees of their bodies are large, blocks with several callers are labels too.
use Rattle.std.specs.Prelude.{
  ◌≡◌,
  ℕ,
  ◌++◌,
  false,
  [],
  ◌∷◌,
  List,
  length,
  take,
  slice_get,
  Some,
}
use Rattle.away_types.specs.declared.slots.Slot.{Slot}
use Rattle.block_forms.specs.declared.forms.Goto.{Goto}
use Rattle.block_forms.specs.declared.forms.Ssa.{Ssa}
use Rattle.block_forms.specs.Runs.{is_head}
use Rattle.call_forms.specs.Bodies.{body_of}
use Rattle.call_forms.specs.Columned.{Columned}
use Rattle.call_forms.specs.declared.forms.Anf.{Anf}
use Rattle.turn_bodies.specs.declared.unfolding.Unfolded.{Unfolded as Made}
use Rattle.turn_template.specs.Unfolded.{Unfolded, CallsAmong}

-- The labels that are called, and the entry behind them, which is no head. Each body is a finite
-- tree, and calls the first labels alone.
pub record IsUnfolded (slots : List Slot) (g : Goto) (z : Ssa) (a : Anf) (x : Made) : Type 0 where
  pub called : List ℕ
  pub as_many : length called ≡ x.heads
  pub first_labels : called ≡ take x.heads x.tail.labels
  pub labels : x.tail.labels ≡ called ++ g.entry ∷ []
  pub unfolded : Unfolded g a x.tail
  pub columned : Columned slots z a x.tail
  pub inner : (i b : ℕ) → slice_get x.tail.labels i ≡ Some b
      → CallsAmong called x.tail.labels (body_of a x.tail b)
  pub entry_no_head : is_head (slice_get g.blocks g.entry) ≡ false
