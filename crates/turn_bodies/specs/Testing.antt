-- What is tested of labels and of the bodies behind them.
use Rattle.std.specs.Prelude.{
  ◌≡◌,
  ℕ,
  ◌++◌,
  ◌<◌,
  Bool,
  true,
  false,
  ◌&&◌,
  nat_lt,
  List,
  [],
  ◌∷◌,
  length,
  slice_get,
  None,
}
use Rattle.block_forms.specs.declared.forms.Goto.{Goto}
use Rattle.block_forms.specs.Places.{Each, Distinct}
use Rattle.block_forms.specs.Runs.{is_head}
use Rattle.call_forms.specs.Bodies.{
  Body,
  sets,
  enters,
  picks,
  returns,
  fails,
  calls,
  endless,
  body_of,
}
use Rattle.call_forms.specs.Called.{itself}
use Rattle.call_forms.specs.declared.forms.Anf.{Anf}
use Rattle.call_forms.specs.declared.forms.Tail.{Tail}
use Rattle.call_forms.specs.Forms.{label_of}
use Rattle.call_forms.specs.Merged.{AtCalls}

-- whether the tree is finite, and each call is of a label below the bound
abbrev pub closed : ℕ → Body → Bool
closed bound (sets n t x) = closed bound x
closed bound (enters params args x) = closed bound x
closed bound (picks t x y) = closed bound x && closed bound y
closed bound (returns t) = true
closed bound (fails c) = true
closed bound (calls label places args) = nat_lt label bound
closed bound endless = false

-- the entry stands behind all other labels
pub record EndsIn (entry : ℕ) (labels : List ℕ) : Type 0 where
  pub before : List ℕ
  pub whole : labels ≡ before ++ entry ∷ []

-- each head is a label
pub record HeadsAreLabels (g : Goto) (a : Anf) (r : Tail) : Type 0 where
  pub each : (b : ℕ) → b < length a.blocks → label_of r b ≡ None
      → is_head (slice_get g.blocks b) ≡ false

-- what is tested of a tail form, of which so many labels are called
pub record Passes (g : Goto) (a : Anf) (r : Tail) (bound : ℕ) : Type 0 where
  pub labels_differ : Distinct itself r.labels
  pub heads : HeadsAreLabels g a r
  pub calls : Each (λ x. AtCalls (λ b. b < length a.blocks) x.end) a.blocks
  pub entry_no_head : is_head (slice_get g.blocks g.entry) ≡ false
  pub bodies : Each (λ b. closed bound (body_of a r b) ≡ true) r.labels
