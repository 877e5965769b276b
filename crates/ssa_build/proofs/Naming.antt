-- Forms that are named, by membership and by edges; proofs/ByPlaces leads from here to the relation of the forms.
use Rattle.std.specs.Prelude.{◌≡◌, ◌⊎◌, ℕ, ◌<◌, ◌≤◌, Bool, false, if◌then◌else◌, List, [], ◌∷◌, map, length, slice_get, Option, Some, None, nat_eq}
use Rattle.block_forms.specs.Forms.{at_key}
use Rattle.block_forms.specs.Places.{first_of}
use Rattle.ssa_build.specs.Forms.{Block, Branch, End, Fail, Jump, Phi, Return, Ssa, SsaBlock, Term}
use Rattle.block_forms.specs.Places.{In}

-- no element is equal to a later one
abbrev pub Differ : {X : Type 0} → List X → Type 0
Differ [] = Unit {0}
Differ (x ∷ xs) = (In xs x → ⊥) × Differ xs

abbrev pub Leads : End → ℕ → Type 0
Leads (Jump b) c = b ≡ c
Leads (Branch t y n) c = (y ≡ c) ⊎ (n ≡ c)
Leads (Return t) c = ⊥
Leads (Fail k) c = ⊥

-- the block b leads to the block c
abbrev pub Edge : List Block → ℕ → ℕ → Type 0
Edge g b c = (x : Block) × (slice_get g b ≡ Some x) × Leads x.end c

abbrev pub Assigns : Option (ℕ × Term) → ℕ → Type 0
Assigns None n = ⊥
Assigns (Some a) n = a.0 ≡ n

abbrev pub is_slot : Option ℕ → ℕ → Bool
is_slot None s = false
is_slot (Some t) s = nat_eq t s

-- the name of a slot after an assignment, the map being one from slots to names
abbrev pub renewed : List ℕ → Option (ℕ × Term) → (ℕ → Option ℕ) → ℕ → Option ℕ
renewed names None before s = before s
renewed names (Some a) before s = if is_slot (slice_get names a.0) s then Some a.0 else before s

abbrev pub exit_name : List ℕ → SsaBlock → ℕ → Option ℕ
exit_name names x s = renewed names x.set (at_key x.map) s

abbrev pub Spelled : (ℕ → Option ℕ) → List ℕ → List ℕ → Type 0
Spelled name [] [] = Unit {0}
Spelled name [] (n ∷ ns) = ⊥
Spelled name (s ∷ ss) [] = ⊥
Spelled name (s ∷ ss) (n ∷ ns) = (name s ≡ Some n) × Spelled name ss ns

-- the same expression, each slot under its name
abbrev pub SameTerm : (ℕ → Option ℕ) → Term → Term → Type 0
SameTerm name t u = (u.expr ≡ t.expr) × Spelled name t.names u.names

abbrev pub SameEnd : (ℕ → Option ℕ) → End → End → Type 0
SameEnd name (Jump b) (Jump c) = c ≡ b
SameEnd name (Jump b) _ = ⊥
SameEnd name (Branch t y n) (Branch u v w) = SameTerm name t u × (v ≡ y) × (w ≡ n)
SameEnd name (Branch t y n) _ = ⊥
SameEnd name (Return t) (Return u) = SameTerm name t u
SameEnd name (Return t) _ = ⊥
SameEnd name (Fail k) (Fail l) = l ≡ k
SameEnd name (Fail k) _ = ⊥

-- the same assignment: the assigned name belongs to the assigned slot
abbrev pub SameSet : List ℕ → (ℕ → Option ℕ) → Option (ℕ × Term) → Option (ℕ × Term) → Type 0
SameSet names name None None = Unit {0}
SameSet names name None (Some b) = ⊥
SameSet names name (Some a) None = ⊥
SameSet names name (Some a) (Some b) = (slice_get names b.0 ≡ Some a.0) × SameTerm name a.1 b.1

abbrev pub IsPhi : SsaBlock → ℕ → Type 0
IsPhi x n = (φ : Phi) × In x.phis φ × (φ.name ≡ n)

abbrev pub Sets : SsaBlock → ℕ → Type 0
Sets x n = IsPhi x n ⊎ Assigns x.set n

-- what an edge brings to a slot that has the name n in its target: the φ's operand, or the name itself
pub record Flows (x : SsaBlock) (b n e : ℕ) : Type 0 where
  pub joined : (φ : Phi) → In x.phis φ → φ.name ≡ n → at_key φ.operands b ≡ Some e
  pub passed : ((φ : Phi) → In x.phis φ → φ.name ≡ n → ⊥) → e ≡ n

pub record IsNamed (slots params entry : ℕ) (g : List Block) (z : Ssa) : Type 0 where
  pub as_many : length z.blocks ≡ length g
  pub of_slots : (n s : ℕ) → slice_get z.names n ≡ Some s → s < slots
  pub parameters : (i : ℕ) → i < params → slice_get z.names i ≡ Some i
  pub unset : (b : ℕ) (x : SsaBlock) (n : ℕ) → slice_get z.blocks b ≡ Some x → Sets x n → params ≤ n
  pub once : (b c : ℕ) (x y : SsaBlock) (n : ℕ) → slice_get z.blocks b ≡ Some x → slice_get z.blocks c ≡ Some y → Sets x n → Sets y n → b ≡ c
  pub apart : (b : ℕ) (x : SsaBlock) (n : ℕ) → slice_get z.blocks b ≡ Some x → IsPhi x n → Assigns x.set n → ⊥
  pub map_slots : (b : ℕ) (x : SsaBlock) → slice_get z.blocks b ≡ Some x → Differ (map first_of x.map)
  pub map_names : (b : ℕ) (x : SsaBlock) (p : ℕ × ℕ) → slice_get z.blocks b ≡ Some x → In x.map p → slice_get z.names p.1 ≡ Some p.0
  pub phi_slots : (b : ℕ) (x : SsaBlock) → slice_get z.blocks b ≡ Some x → Differ (map (λ φ. slice_get z.names φ.name) x.phis)
  pub phi_map : (b : ℕ) (x : SsaBlock) (φ : Phi) → slice_get z.blocks b ≡ Some x → In x.phis φ → (s : ℕ) × (slice_get z.names φ.name ≡ Some s) × (at_key x.map s ≡ Some φ.name)
  pub entry_phis : (x : SsaBlock) → slice_get z.blocks entry ≡ Some x → x.phis ≡ []
  pub entry_map : (x : SsaBlock) (p : ℕ × ℕ) → slice_get z.blocks entry ≡ Some x → In x.map p → (p.0 < params) × (p.1 ≡ p.0)
  pub same_set : (b : ℕ) (y : Block) (x : SsaBlock) → slice_get g b ≡ Some y → slice_get z.blocks b ≡ Some x → SameSet z.names (at_key x.map) y.set x.set
  pub same_end : (b : ℕ) (y : Block) (x : SsaBlock) → slice_get g b ≡ Some y → slice_get z.blocks b ≡ Some x → SameEnd (exit_name z.names x) y.end x.end
  pub operand_blocks : (b : ℕ) (x : SsaBlock) (φ : Phi) → slice_get z.blocks b ≡ Some x → In x.phis φ → Differ (map first_of φ.operands)
  pub operand_edges : (b : ℕ) (x : SsaBlock) (φ : Phi) (o : ℕ × ℕ) → slice_get z.blocks b ≡ Some x → In x.phis φ → In φ.operands o → Edge g o.0 b
  pub flows : (b c : ℕ) (x y : SsaBlock) (s n : ℕ) → slice_get z.blocks b ≡ Some x → slice_get z.blocks c ≡ Some y → Edge g b c → at_key y.map s ≡ Some n → (e : ℕ) × (exit_name z.names x s ≡ Some e) × Flows y b n e
