-- A map of names that merges φs into what they stand for.
use Rattle.std.specs.Prelude.{◌≡◌, ◌≢◌, ◌⊎◌, ℕ, ◌<◌, ◌≤◌, Bool, true, false, List, map, slice_get, Option, Some, None}
use Rattle.std.specs.List.{filter}
use Rattle.ssa_build.specs.Blocks.{term}
use Rattle.ssa_build.specs.Forms.{Branch, End, Fail, Jump, Phi, Return, Ssa, SsaBlock, Term}
use Rattle.block_forms.specs.Places.{In}
use Rattle.ssa_build.proofs.Naming.{Assigns, IsPhi}

-- ---- names replaced everywhere, and φs dropped

module _ (into : ℕ → ℕ) (stays : ℕ → Bool) where
  abbrev pub replaced_in : ℕ × ℕ → ℕ × ℕ
  replaced_in p = (p.0, into p.1)

  abbrev pub replaced_term : Term → Term
  replaced_term t = term t.expr (map into t.names)

  abbrev pub replaced_end : End → End
  replaced_end (Jump b) = Jump b
  replaced_end (Branch t y n) = Branch (replaced_term t) y n
  replaced_end (Return t) = Return (replaced_term t)
  replaced_end (Fail k) = Fail k

  abbrev pub replaced_set : Option (ℕ × Term) → Option (ℕ × Term)
  replaced_set None = None
  replaced_set (Some a) = Some (into a.0, replaced_term a.1)

  abbrev pub replaced_phi : Phi → Phi
  replaced_phi φ = record { name = into φ.name; operands = map replaced_in φ.operands }

  abbrev pub replaced_block : SsaBlock → SsaBlock
  replaced_block x = record { map = map replaced_in x.map; phis = map replaced_phi (filter (λ φ. stays φ.name) x.phis); set = replaced_set x.set; end = replaced_end x.end }

  abbrev pub replaced : List ℕ → Ssa → Ssa
  replaced names z = record { names = names; blocks = map replaced_block z.blocks }

abbrev pub SetsStaying : (ℕ → Bool) → SsaBlock → ℕ → Type 0
SetsStaying stays x n = (IsPhi x n × (stays n ≡ true)) ⊎ Assigns x.set n

-- New names for old ones. Names that are set stay apart, and a φ that doesn't stay has the new name of all its operands.
pub record Renames (slots params : ℕ) (z : Ssa) (names : List ℕ) (into : ℕ → ℕ) (stays : ℕ → Bool) : Type 0 where
  pub of_slots : (n s : ℕ) → slice_get names n ≡ Some s → s < slots
  pub parameter : (i : ℕ) → i < params → (slice_get names i ≡ Some i) × (into i ≡ i)
  pub slot_kept : (n s : ℕ) → slice_get z.names n ≡ Some s → slice_get names (into n) ≡ Some s
  pub above : (b : ℕ) (x : SsaBlock) (n : ℕ) → slice_get z.blocks b ≡ Some x → SetsStaying stays x n → params ≤ into n
  pub apart : (b c : ℕ) (x y : SsaBlock) (n m : ℕ) → slice_get z.blocks b ≡ Some x → slice_get z.blocks c ≡ Some y → SetsStaying stays x n → SetsStaying stays y m → into n ≡ into m → n ≡ m
  pub joined : (b : ℕ) (x : SsaBlock) (φ : Phi) (o : ℕ × ℕ) → slice_get z.blocks b ≡ Some x → In x.phis φ → stays φ.name ≡ false → In φ.operands o → into o.1 ≡ into φ.name

-- Each φ that is merged into another name has, as far as names are merged, that name alone as its operand.
pub record Merges (params : ℕ) (z : Ssa) (into : ℕ → ℕ) : Type 0 where
  pub settled : (n : ℕ) → into (into n) ≡ into n
  pub slot_kept : (n : ℕ) → slice_get z.names (into n) ≡ slice_get z.names n
  pub parameter_kept : (n : ℕ) → n < params → into n ≡ n
  pub assigned_kept : (b : ℕ) (x : SsaBlock) (n : ℕ) → slice_get z.blocks b ≡ Some x → Assigns x.set n → into n ≡ n
  pub joined : (b : ℕ) (x : SsaBlock) (φ : Phi) (o : ℕ × ℕ) → slice_get z.blocks b ≡ Some x → In x.phis φ → into φ.name ≢ φ.name → In φ.operands o → into o.1 ≡ into φ.name

-- as far as names are merged, the operands other than the φ itself are at most m
abbrev pub JoinsOnly : (ℕ → ℕ) → Phi → ℕ → Type 0
JoinsOnly into φ m = (o : ℕ × ℕ) → In φ.operands o → (into o.1 ≡ φ.name) ⊎ (into o.1 ≡ m)

-- new numbers for the names that are merged into no other, parameters first
pub record Renumbers (slots params : ℕ) (old new : List ℕ) (into number : ℕ → ℕ) : Type 0 where
  pub of_slots : (n s : ℕ) → slice_get new n ≡ Some s → s < slots
  pub parameter : (i : ℕ) → i < params → (slice_get new i ≡ Some i) × (number i ≡ i)
  pub slot_kept : (n s : ℕ) → into n ≡ n → slice_get old n ≡ Some s → slice_get new (number n) ≡ Some s
  pub above : (n s : ℕ) → into n ≡ n → slice_get old n ≡ Some s → params ≤ n → params ≤ number n
  pub apart : (n m s t : ℕ) → into n ≡ n → into m ≡ m → slice_get old n ≡ Some s → slice_get old m ≡ Some t → number n ≡ number m → n ≡ m
