-- The relation between a goto form and its SSA form. It is local to blocks and edges: it speaks of
-- no order of visits and of no dominators.
use Rattle.std.specs.Prelude.{
  ◌≡◌,
  ℕ,
  ◌+◌,
  ◌<◌,
  ◌≤◌,
  Bool,
  true,
  false,
  List,
  [],
  ◌∷◌,
  length,
  slice_get,
  Option,
  Some,
  None,
  nat_eq,
}
use Rattle.std.specs.List.{count_by}
use Rattle.block_forms.specs.Forms.{
  Term,
  End,
  Jump,
  Branch,
  Return,
  Fail,
  Assignment,
  Block,
  Goto,
  Pairs,
  Phi,
  SsaBlock,
  Ssa,
  at_key,
  source,
  AtTargets,
}
use Rattle.block_forms.specs.Lowered.{one_of, end_leads}
use Rattle.block_forms.specs.Places.{Each, EachAt, EachPair, Distinct, first_of, IsThere}

-- ---- names

abbrev pub assigns_to : Assignment → ℕ → ℕ
assigns_to None n = 0
assigns_to (Some a) n = one_of (nat_eq a.0 n)

abbrev pub phis_with_name : List Phi → ℕ → ℕ
phis_with_name fs n = count_by (λ (f : Phi). nat_eq f.name n) fs

-- at how many places a name is set
abbrev pub places_that_set : List SsaBlock → ℕ → ℕ
places_that_set [] n = 0
places_that_set (y ∷ ys) n = (phis_with_name y.phis n + assigns_to y.set n) + places_that_set ys n

-- Each name belongs to a slot. The first names are the parameters in order, and are set nowhere.
-- Every other name is set at one place at most.
pub record NamesOfSlots (slots params : ℕ) (z : Ssa) : Type 0 where
  pub of_slots : Each (λ s. s < slots) z.names
  pub parameters : (k : ℕ) → k < params → slice_get z.names k ≡ Some k
  pub parameters_unset : (k : ℕ) → k < params → places_that_set z.blocks k ≡ 0
  pub set_once : (n : ℕ) → n < length z.names → places_that_set z.blocks n ≤ 1

-- ---- maps

-- the map has the slot, with this name
abbrev pub Maps : Pairs → Option ℕ → ℕ → Type 0
Maps m None n = ⊥
Maps m (Some s) n = at_key m s ≡ Some n

-- The slots of the map are distinct, and each of its names belongs to its slot. The φs belong to
-- distinct slots, and the map has each of these slots with its φ's name.
pub record MapOfSlots (names : List ℕ) (y : SsaBlock) : Type 0 where
  pub slots_differ : Distinct first_of y.map
  pub own_slots : Each (λ p. slice_get names p.1 ≡ Some p.0) y.map
  pub phi_slots_differ : Distinct (λ f. slice_get names f.name) y.phis
  pub phis_mapped : Each (λ f. Maps y.map (slice_get names f.name) f.name) y.phis

-- the entry has no φ, and its map has only parameters, each under its own name
pub record MapOfParameters (params : ℕ) (y : SsaBlock) : Type 0 where
  pub no_phi : y.phis ≡ []
  pub parameters : Each (λ p. (p.0 ≡ p.1) × (p.1 < params)) y.map

abbrev pub EntryHas : (SsaBlock → Type 0) → Option SsaBlock → Type 0
EntryHas P None = ⊥
EntryHas P (Some y) = P y

-- ---- what is read, renamed

-- each slot replaced by its name in the map
pub record Renamed (m : Pairs) (slots names : List ℕ) : Type 0 where
  pub as_many : length slots ≡ length names
  pub each : EachPair (λ i s n. at_key m s ≡ Some n) slots names

-- the same expression, each slot replaced by its name in the map
pub record TermRenamed (m : Pairs) (t u : Term) : Type 0 where
  pub expr : t.expr ≡ u.expr
  pub names : Renamed m t.names u.names

-- the assigned name belongs to the assigned slot
abbrev pub AssignmentRenamed : List ℕ → Pairs → Assignment → Assignment → Type 0
AssignmentRenamed names m None None = Unit {0}
AssignmentRenamed names m None (Some b) = ⊥
AssignmentRenamed names m (Some a) None = ⊥
AssignmentRenamed names m (Some a) (Some b) = (slice_get names b.0 ≡ Some a.0) × TermRenamed m a.1 b.1

abbrev pub EndRenamed : Pairs → End → End → Type 0
EndRenamed m (Jump c) (Jump d) = c ≡ d
EndRenamed m (Branch t c d) (Branch u c' d') = TermRenamed m t u × (c ≡ c') × (d ≡ d')
EndRenamed m (Return t) (Return u) = TermRenamed m t u
EndRenamed m (Fail c) (Fail d) = c ≡ d
EndRenamed m _ _ = ⊥

-- the assigned slot, with its new name
abbrev pub renewal : Assignment → Assignment → Option (ℕ × ℕ)
renewal (Some a) (Some b) = Some (a.0, b.0)
renewal None b = None
renewal (Some a) None = None

-- a pair before all others, so that it counts
abbrev pub with_pair : Option (ℕ × ℕ) → Pairs → Pairs
with_pair None m = m
with_pair (Some p) m = p ∷ m

-- the map with the assigned slot renewed
abbrev pub exit_map : Block → SsaBlock → Pairs
exit_map x y = with_pair (renewal x.set y.set) y.map

pub record BlockRenamed (names : List ℕ) (x : Block) (y : SsaBlock) : Type 0 where
  pub set : AssignmentRenamed names y.map x.set y.set
  pub end : EndRenamed (exit_map x y) x.end y.end

-- ---- φs and edges

abbrev pub leads : Option Block → ℕ → Bool
leads None d = false
leads (Some x) d = end_leads x.end d

-- exactly one operand for each predecessor of block c, and no others
pub record OperandsOfPredecessors (blocks : List Block) (c : ℕ) (f : Phi) : Type 0 where
  pub blocks_differ : Distinct first_of f.operands
  pub of_predecessors : Each (λ p. leads (slice_get blocks p.0) c ≡ true) f.operands
  pub of_each : EachAt (λ b x. end_leads x.end c ≡ true → IsThere (at_key f.operands b)) blocks

abbrev pub Gives : Option ℕ → Option ℕ → Type 0
Gives None o = ⊥
Gives (Some m) o = o ≡ Some m

-- From block b, with this exit map, each slot of the next block's map has the exit name that its
-- own name takes: a φ by its operand, another name as it is.
abbrev pub Feeds : ℕ → Pairs → Option SsaBlock → Type 0
Feeds b exits None = ⊥
Feeds b exits (Some y) = Each (λ p. Gives (at_key exits p.0) (source y.phis b p.1)) y.map

pub record PhisOfPredecessors (blocks : List Block) (c : ℕ) (y : SsaBlock) : Type 0 where
  pub each : Each (OperandsOfPredecessors blocks c) y.phis

pub record EdgesFed (blocks : List SsaBlock) (b : ℕ) (x : Block) (y : SsaBlock) : Type 0 where
  pub each : AtTargets (λ c. Feeds b (exit_map x y) (slice_get blocks c)) x.end

pub record Named (slots params : ℕ) (g : Goto) (z : Ssa) : Type 0 where
  pub as_many_blocks : length z.blocks ≡ length g.blocks
  pub names : NamesOfSlots slots params z
  pub maps : Each (MapOfSlots z.names) z.blocks
  pub entry : EntryHas (MapOfParameters params) (slice_get z.blocks g.entry)
  pub blocks : EachPair (λ b. BlockRenamed z.names) g.blocks z.blocks
  pub operands : EachAt (PhisOfPredecessors g.blocks) z.blocks
  pub edges : EachPair (EdgesFed z.blocks) g.blocks z.blocks
