-- Tight tail forms: no more columns than one label needs, few tests in a label's body, and no label
-- without a reason.
use Rattle.std.specs.Prelude.{
  ◌≡◌,
  ◌⊎◌,
  ℕ,
  zero,
  suc,
  ◌<◌,
  ◌≤◌,
  Bool,
  true,
  false,
  not,
  List,
  slice_get,
  Option,
  Some,
  None,
  nat_eq,
}
use Rattle.std.specs.List.{count_by, filter}
use Rattle.away_types.specs.declared.slots.Slot.{Slot}
use Rattle.away_typing.specs.Kinds.{same}
use Rattle.away_values.specs.declared.types.Ty.{Ty}
use Rattle.block_forms.specs.declared.forms.Goto.{Goto}
use Rattle.block_forms.specs.declared.forms.Ssa.{Ssa}
use Rattle.block_forms.specs.Places.{Each}
use Rattle.block_forms.specs.Runs.{is_head}
use Rattle.call_forms.specs.Called.{Among}
use Rattle.call_forms.specs.Columned.{type_of_name}
use Rattle.call_forms.specs.Forms.{CallEnd, Go, Pick, Return, Fail, AnfBlock, Anf, Tail, params_of}
use Rattle.call_forms.specs.Merged.{calls_to}

-- ---- columns

abbrev pub is_type : Ty → Option Ty → Bool
is_type t None = false
is_type t (Some u) = same t u

-- how many parameters of a type a block has
abbrev pub parameters_of_type : List Slot → Ssa → Anf → Ty → ℕ → ℕ
parameters_of_type slots ssa anf t b = count_by (λ p. is_type t (type_of_name slots ssa.names p)) (params_of (slice_get anf.blocks b))

-- a label with as many parameters of the type as there are columns of it
pub record NeedsAll (slots : List Slot) (ssa : Ssa) (anf : Anf) (tail : Tail) (t : Ty) : Type 0 where
  pub label : ℕ
  pub is_label : Among tail.labels label
  pub needs : parameters_of_type slots ssa anf t label ≡ count_by (same t) tail.columns

-- the columns of a type are as many as the most parameters of that type that one label has
pub record ColumnsOfType (slots : List Slot) (ssa : Ssa) (anf : Anf) (tail : Tail) (t : Ty) : Type 0 where
  pub enough : Each (λ b. parameters_of_type slots ssa anf t b ≤ count_by (same t) tail.columns) tail.labels
  pub none_spare : (count_by (same t) tail.columns ≡ 0) ⊎ NeedsAll slots ssa anf tail t

-- ---- depths

-- the depth of b where its caller has a depth and this end: one more where the call is an arm of a
-- test
abbrev pub DepthAfter : CallEnd → ℕ → ℕ → ℕ → Type 0
DepthAfter (Go c) b above d = (c.target ≡ b) × (d ≡ above)
DepthAfter (Pick t x y) b above d = ((x.target ≡ b) ⊎ (y.target ≡ b)) × (d ≡ suc above)
DepthAfter (Return t) b above d = ⊥
DepthAfter (Fail c) b above d = ⊥

-- a block that is no label, called by one with a depth
pub record CalledAtDepth (HasDepth : ℕ → ℕ → Type 0) (anf : Anf) (labels : List ℕ) (b d : ℕ) : Type 0 where
  pub no_label : Among labels b → ⊥
  pub caller : ℕ
  pub block : AnfBlock
  pub there : slice_get anf.blocks caller ≡ Some block
  pub above : ℕ
  pub of_caller : HasDepth caller above
  pub after : DepthAfter block.end b above d

-- the depth of a block that so many calls lead to from a label: 0 for the label itself
abbrev pub DepthWithin : Anf → List ℕ → ℕ → ℕ → ℕ → Type 0
DepthWithin anf labels zero b d = Among labels b × (d ≡ 0)
DepthWithin anf labels (suc k) b d = CalledAtDepth (DepthWithin anf labels k) anf labels b d

pub record HasDepth (anf : Anf) (labels : List ℕ) (b d : ℕ) : Type 0 where
  pub calls : ℕ
  pub within : DepthWithin anf labels calls b d

-- ---- reasons

abbrev pub without : ℕ → List ℕ → List ℕ
without b labels = filter (λ l. not (nat_eq l b)) labels

-- why a block is a label; `deep` is the depth that it would have if it were none
pub data Reason (goto : Goto) (anf : Anf) (tail : Tail) (b : ℕ) : Type 0 where
  entry : b ≡ goto.entry → Reason goto anf tail b
  head : is_head (slice_get goto.blocks b) ≡ true → Reason goto anf tail b
  calls : 2 ≤ calls_to b anf.blocks → Reason goto anf tail b
  deep : HasDepth anf (without b tail.labels) b 16 → Reason goto anf tail b

-- ---- the whole

pub record Tight (slots : List Slot) (goto : Goto) (ssa : Ssa) (anf : Anf) (tail : Tail) : Type 0 where
  pub columns : (t : Ty) → ColumnsOfType slots ssa anf tail t
  pub depths : (b d : ℕ) → HasDepth anf tail.labels b d → d < 16
  pub reasons : Each (Reason goto anf tail) tail.labels
