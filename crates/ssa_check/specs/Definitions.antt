-- What makes a form SSA: each name has one definition, which on every path from the entry comes
-- before each use.
use Rattle.std.specs.Prelude.{
  ◌≡◌,
  ℕ,
  ◌<◌,
  ◌≤◌,
  Bool,
  true,
  false,
  List,
  [],
  ◌∷◌,
  slice_get,
  Option,
  Some,
  None,
  nat_eq,
  option_map,
}
use Rattle.std.specs.List.{count_by}
use Rattle.block_forms.specs.declared.forms.Term.{Term}
use Rattle.block_forms.specs.declared.forms.End.{End}
use Rattle.block_forms.specs.declared.forms.End.TheVariants.{Jump, Branch, Return, Fail}
use Rattle.block_forms.specs.declared.forms.Goto.{Goto}
use Rattle.block_forms.specs.declared.forms.Phi.{Phi}
use Rattle.block_forms.specs.declared.forms.SsaBlock.{SsaBlock}
use Rattle.block_forms.specs.declared.forms.Ssa.{Ssa}
use Rattle.block_forms.specs.Forms.{Assignment, Pairs, at_key}
use Rattle.block_forms.specs.Lowered.{one_of, end_leads}
use Rattle.block_forms.specs.Named.{Named}
use Rattle.block_forms.specs.Places.{Each, EachAt}

-- ---- definitions

-- a part of a block that sets a name: one of its φs, by its place, or its assignment
pub data Part : Type 0 where
  phi : ℕ → Part
  assignment : Part

-- a place of a form that sets a name
pub record Definition : Type 0 where
  pub block : ℕ
  pub part : Part

abbrev pub definition : ℕ → Part → Definition
definition b p = record { block = b; part = p }

-- the name that a part of a block sets
abbrev pub set_by : Option SsaBlock → Part → Option ℕ
set_by None p = None
set_by (Some y) (phi i) = option_map (λ (f : Phi). f.name) (slice_get y.phis i)
set_by (Some y) assignment = option_map (λ (a : ℕ × Term). a.0) y.set

abbrev pub Sets : List SsaBlock → Definition → ℕ → Type 0
Sets ys d n = set_by (slice_get ys d.block) d.part ≡ Some n

abbrev pub HasOneDefinition : Ssa → ℕ → Type 0
HasOneDefinition z n = (d e : Definition) → Sets z.blocks d n → Sets z.blocks e n → d ≡ e

-- ---- uses

abbrev pub read_by : Assignment → List ℕ
read_by None = []
read_by (Some a) = a.1.names

abbrev pub read_at_end : End → List ℕ
read_at_end (Jump c) = []
read_at_end (Branch t c d) = t.names
read_at_end (Return t) = t.names
read_at_end (Fail c) = []

-- the map gives the name to a slot
pub record IsMapped (m : Pairs) (n : ℕ) : Type 0 where
  pub slot : ℕ
  pub named : at_key m slot ≡ Some n

-- what is in sight as a block ends
pub data IsInSight (y : SsaBlock) (n : ℕ) : Type 0 where
  mapped : IsMapped y.map n → IsInSight y n
  assigned : option_map (λ (a : ℕ × Term). a.0) y.set ≡ Some n → IsInSight y n

-- each name that a block reads is in its map, or is the name that it assigns, for its end
pub record ReadsInSight (y : SsaBlock) : Type 0 where
  pub assignment : Each (IsMapped y.map) (read_by y.set)
  pub end : Each (IsInSight y) (read_at_end y.end)

-- ---- paths

abbrev pub goes_to : Option SsaBlock → ℕ → Bool
goes_to None c = false
goes_to (Some y) c = end_leads y.end c

-- from the entry through the blocks before, the latest of them first, to block c
abbrev pub IsPath : Ssa → ℕ → List ℕ → ℕ → Type 0
IsPath z entry [] c = c ≡ entry
IsPath z entry (b ∷ before) c = (goes_to (slice_get z.blocks b) c ≡ true) × IsPath z entry before b

-- a block of the path sets the name
pub record IsSetOn (z : Ssa) (path : List ℕ) (n : ℕ) : Type 0 where
  pub definition : Definition
  pub sets : Sets z.blocks definition n
  pub place : ℕ
  pub on_path : slice_get path place ≡ Some definition.block

-- what has its value once the blocks of a path are done
pub data IsSetAfter (params : ℕ) (z : Ssa) (path : List ℕ) (n : ℕ) : Type 0 where
  parameter : n < params → IsSetAfter params z path n
  set_on : IsSetOn z path n → IsSetAfter params z path n

-- what has its value in block b with its φs, once the blocks before are done
pub data IsSetIn (params : ℕ) (z : Ssa) (before : List ℕ) (b n : ℕ) : Type 0 where
  earlier : IsSetAfter params z before n → IsSetIn params z before b n
  by_phi : (i : ℕ) → Sets z.blocks (definition b (phi i)) n → IsSetIn params z before b n

-- Along a path each name has its value before it is read: for the assignment of a block, for its
-- end, and for the φs of a block that it leads to.
pub record ReadsWhatIsSet (params : ℕ) (z : Ssa) (before : List ℕ) (b : ℕ) (y : SsaBlock) : Type 0 where
  pub assignment : Each (IsSetIn params z before b) (read_by y.set)
  pub end : Each (IsSetAfter params z (b ∷ before)) (read_at_end y.end)
  pub phis : (c : ℕ) (x : SsaBlock) → slice_get z.blocks c ≡ Some x
      → Each (λ (f : Phi). (m : ℕ) → at_key f.operands b ≡ Some m → end_leads y.end c ≡ true → IsSetAfter params z (b ∷ before) m) x.phis

-- ---- φs

-- the φ of block c has one operand for each block that leads there, and none for another
abbrev pub HasOneForEach : Ssa → ℕ → Phi → Type 0
HasOneForEach z c f = (b : ℕ) → count_by (λ (p : ℕ × ℕ). nat_eq p.0 b) f.operands ≡ one_of (goes_to (slice_get z.blocks b) c)

pub record PhisHaveOneForEach (z : Ssa) (c : ℕ) (y : SsaBlock) : Type 0 where
  pub each : Each (HasOneForEach z c) y.phis

-- ---- of all named forms

abbrev pub OfNamed : (ℕ → Goto → Ssa → Type 0) → Type 0
OfNamed P = (slots params : ℕ) (g : Goto) (z : Ssa) → Named slots params g z → P params g z

-- a name is set at one place at most
abbrev pub NamesHaveOneDefinition : Type 0
NamesHaveOneDefinition = OfNamed (λ params g z. (n : ℕ) → HasOneDefinition z n)

-- a parameter is set nowhere
abbrev pub ParametersAreUnset : Type 0
ParametersAreUnset = OfNamed (λ params g z. (d : Definition) (n : ℕ) → Sets z.blocks d n → params ≤ n)

abbrev pub NamesAreReadInSight : Type 0
NamesAreReadInSight = OfNamed (λ params g z. Each ReadsInSight z.blocks)

-- on every path from the entry each definition comes before the use
abbrev pub DefinitionsComeFirst : Type 0
DefinitionsComeFirst =
    OfNamed
    (λ params g z. (before : List ℕ) (b : ℕ) (y : SsaBlock) → IsPath z g.entry before b
    → slice_get z.blocks b ≡ Some y → ReadsWhatIsSet params z before b y)

abbrev pub HasNoPhi : Option SsaBlock → Type 0
HasNoPhi None = ⊥
HasNoPhi (Some y) = y.phis ≡ []

-- the entry is a block, and has no φ
abbrev pub EntryHasNoPhi : Type 0
EntryHasNoPhi = OfNamed (λ params g z. HasNoPhi (slice_get z.blocks g.entry))

abbrev pub OperandsArePredecessors : Type 0
OperandsArePredecessors = OfNamed (λ params g z. EachAt (PhisHaveOneForEach z) z.blocks)
