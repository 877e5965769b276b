-- The relation between a normal form and labels of which the others are unfolded, however many
-- calls they have.
use Rattle.std.specs.Prelude.{◌≡◌, ℕ, ◌<◌, Bool, true, false, length, slice_get, None, List}
use Rattle.block_forms.specs.declared.forms.Goto.{Goto}
use Rattle.block_forms.specs.Places.{Each, Distinct}
use Rattle.block_forms.specs.Runs.{is_head}
use Rattle.call_forms.specs.declared.forms.Anf.{Anf}
use Rattle.call_forms.specs.declared.forms.Tail.{Tail}
use Rattle.call_forms.specs.Bodies.{
  Body,
  sets,
  enters,
  picks,
  returns,
  fails,
  calls,
  endless,
  Ends,
  body_of,
}
use Rattle.call_forms.specs.Called.{itself, Among}
use Rattle.call_forms.specs.Forms.{label_of}
use Rattle.call_forms.specs.Merged.{AtCalls}

-- The labels are distinct blocks, the entry and each head among them. Each call is of a block. The
-- body of each label is finite.
pub record Unfolded (g : Goto) (a : Anf) (r : Tail) : Type 0 where
  pub labels_differ : Distinct itself r.labels
  pub labels_are_blocks : Each (λ b. b < length a.blocks) r.labels
  pub entry : Among r.labels g.entry
  pub heads : (b : ℕ) → b < length a.blocks → label_of r b ≡ None → is_head (slice_get g.blocks b) ≡ false
  pub calls : Each (λ x. AtCalls (λ b. b < length a.blocks) x.end) a.blocks
  pub finite : Each (λ b. Ends (body_of a r b)) r.labels

-- each call of the body is of a head
abbrev pub CallsHeads : (ℕ → Bool) → Body → Type 0
CallsHeads head (sets n t x) = CallsHeads head x
CallsHeads head (enters params args x) = CallsHeads head x
CallsHeads head (picks t x y) = CallsHeads head x × CallsHeads head y
CallsHeads head (returns t) = Unit {0}
CallsHeads head (fails c) = Unit {0}
CallsHeads head (calls label places args) = head label ≡ true
CallsHeads head endless = Unit {0}

-- each call of the body is of a label that is among the first ones
abbrev pub CallsAmong : List ℕ → List ℕ → Body → Type 0
CallsAmong heads labels (sets n t x) = CallsAmong heads labels x
CallsAmong heads labels (enters params args x) = CallsAmong heads labels x
CallsAmong heads labels (picks t x y) = CallsAmong heads labels x × CallsAmong heads labels y
CallsAmong heads labels (returns t) = Unit {0}
CallsAmong heads labels (fails c) = Unit {0}
CallsAmong heads labels (calls label places args) =
    (label < length heads) × (slice_get heads label ≡ slice_get labels label)
CallsAmong heads labels endless = Unit {0}
