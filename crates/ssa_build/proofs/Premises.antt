-- What makes the full form a named one: a closed table of live slots, and names of their own for φs and assignments.
use Rattle.std.specs.Prelude.{◌≡◌, ◌≢◌, ℕ, ◌<◌, ◌≤◌, Bool, true, List, slice_get, Some}
use Rattle.ssa_build.specs.Forms.{Block, Term}
use Rattle.block_forms.specs.Live.{LiveIn}
use Rattle.ssa_build.proofs.Naming.{Edge}

-- a table of live slots that has with what is live next what is live before
pub record Closed (slots params entry : ℕ) (g : List Block) (live : ℕ → ℕ → Bool) : Type 0 where
  pub bounded : (b s : ℕ) → live b s ≡ true → s < slots
  pub step : (b : ℕ) (x : Block) (s : ℕ) → slice_get g b ≡ Some x → LiveIn (Some x) (λ c. live c s ≡ true) s → live b s ≡ true
  pub entry_only : (s : ℕ) → live entry s ≡ true → s < params
  pub no_way_back : (b : ℕ) → Edge g b entry → ⊥

-- each φ and each assignment has a name of its own that belongs to its slot
pub record Numbering (slots params entry : ℕ) (g : List Block) (live : ℕ → ℕ → Bool) (phi_name : ℕ → ℕ → ℕ) (set_name : ℕ → ℕ) (names : List ℕ) : Type 0 where
  pub parameter : (i : ℕ) → i < params → slice_get names i ≡ Some i
  pub of_slots : (n s : ℕ) → slice_get names n ≡ Some s → s < slots
  pub of_phi : (b : ℕ) (x : Block) (s : ℕ) → slice_get g b ≡ Some x → live b s ≡ true → b ≢ entry → (slice_get names (phi_name b s) ≡ Some s) × (params ≤ phi_name b s)
  pub of_set : (b : ℕ) (x : Block) (a : ℕ × Term) → slice_get g b ≡ Some x → x.set ≡ Some a → (slice_get names (set_name b) ≡ Some a.0) × (params ≤ set_name b)
  pub phi_apart : (b c : ℕ) (x y : Block) (s t : ℕ) → slice_get g b ≡ Some x → slice_get g c ≡ Some y → live b s ≡ true → live c t ≡ true → b ≢ entry → c ≢ entry → phi_name b s ≡ phi_name c t → b ≡ c
  pub set_apart : (b c : ℕ) (x y : Block) (p q : ℕ × Term) → slice_get g b ≡ Some x → slice_get g c ≡ Some y → x.set ≡ Some p → y.set ≡ Some q → set_name b ≡ set_name c → b ≡ c
  pub phi_set_apart : (b c : ℕ) (x y : Block) (s : ℕ) (p : ℕ × Term) → slice_get g b ≡ Some x → slice_get g c ≡ Some y → live b s ≡ true → b ≢ entry → y.set ≡ Some p → phi_name b s ≡ set_name c → ⊥

-- each assignment is to one of so many slots
abbrev pub SetsBelow : ℕ → List Block → Type 0
SetsBelow slots g = (b : ℕ) (x : Block) (a : ℕ × Term) → slice_get g b ≡ Some x → x.set ≡ Some a → a.0 < slots
