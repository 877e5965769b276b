-- Names that are merged, each entry leading to the next: joins of names are φs without their
-- blocks.
use Rattle.std.specs.Prelude.{
  ◌≡◌,
  ◌≢◌,
  ◌⊎◌,
  ℕ,
  zero,
  suc,
  ◌+◌,
  ◌<◌,
  ◌≤◌,
  Bool,
  true,
  false,
  List,
  [],
  ◌∷◌,
  length,
  get_or,
  slice_get,
  Some,
  nat_eq,
}
use Rattle.ssa_build.specs.declared.joins.Found.{Found}
use Rattle.ssa_build.specs.declared.joins.Found.TheVariants.{Several, One, Itself}

-- a name that joins others; the spare name stands for it where it joins itself alone
pub record Join : Type 0 where
  pub name : ℕ
  pub spare : ℕ
  pub operands : List ℕ

-- from a name along its entries
abbrev pub walk : List ℕ → ℕ → ℕ → ℕ
walk into zero n = n
walk into (suc k) n = get_or into (walk into k n) 0

abbrev pub IsWithin : List ℕ → Type 0
IsWithin into = (n : ℕ) → n < length into → get_or into n 0 < length into

abbrev pub IsRoot : List ℕ → ℕ → Type 0
IsRoot into n = get_or into n 0 ≡ n

-- each operand is a name of the join's slot; the spare name is one that no join has
pub record WellFormed (slots : List ℕ) (joins : List Join) : Type 0 where
  pub name : (i : ℕ) (j : Join) → slice_get joins i ≡ Some j → j.name < length slots
  pub spare : (i : ℕ) (j : Join) → slice_get joins i ≡ Some j → (j.spare < length slots) × (get_or slots j.spare 0 ≡ get_or slots j.name 0)
  pub operand : (i : ℕ) (j : Join) (k : ℕ) → slice_get joins i ≡ Some j → k < length j.operands → (get_or j.operands k 0 < length slots) ×
      (get_or slots (get_or j.operands k 0) 0 ≡ get_or slots j.name 0)
  pub distinct : (a b : ℕ) (i j : Join) → slice_get joins a ≡ Some i → slice_get joins b ≡ Some j → i.name ≡ j.name → a ≡ b
  pub spare_free : (a b : ℕ) (i j : Join) → slice_get joins a ≡ Some i → slice_get joins b ≡ Some j → i.spare ≡ j.name → ⊥

-- some names are merged, in so many steps: each join that is no root has one operand as far as
-- names are merged
pub record Merging (slots : List ℕ) (joins : List Join) (into : List ℕ) (merges : ℕ) : Type 0 where
  pub sized : length into ≡ length slots
  pub within : IsWithin into
  pub rooted : (n : ℕ) → n < length into → IsRoot into (walk into merges n)
  pub slot : (n : ℕ) → n < length into → get_or slots (walk into merges n) 0 ≡ get_or slots n 0
  pub kept : (n : ℕ) → n < length into → ((i : ℕ) (j : Join) → slice_get joins i ≡ Some j → j.name ≢ n) → IsRoot into n
  pub joined : (i : ℕ) (j : Join) (k : ℕ) → slice_get joins i ≡ Some j → (IsRoot into j.name → ⊥) → k < length j.operands →
      walk into merges (get_or j.operands k 0) ≡ walk into merges j.name

-- the operands other than the join itself are at most m
abbrev pub JoinsAtMost : List ℕ → ℕ → Join → ℕ → Type 0
JoinsAtMost into merges j m = (k : ℕ) → k < length j.operands →
    (walk into merges (get_or j.operands k 0) ≡ j.name) ⊎ (walk into merges (get_or j.operands k 0) ≡ m)

-- what is found among the operands
abbrev pub Tells : List ℕ → ℕ → Join → Found → Type 0
Tells into merges j Several = (m : ℕ) → JoinsAtMost into merges j m → ⊥
Tells into merges j (One m) = (m ≢ j.name) × (m < length into) × IsRoot into m × JoinsAtMost into merges j m × (k : ℕ) ×
    (k < length j.operands) × (walk into merges (get_or j.operands k 0) ≡ m)
Tells into merges j Itself = JoinsAtMost into merges j j.name

-- how many entries from the place i on lead to themselves
abbrev pub one_if : Bool → ℕ
one_if true = 1
one_if false = 0

abbrev pub roots : List ℕ → ℕ → ℕ
roots [] i = 0
roots (n ∷ ns) i = one_if (nat_eq n i) + roots ns (suc i)

-- each join is no root, or has several operands
abbrev pub IsReduced : List ℕ → ℕ → Join → Type 0
IsReduced into merges j = IsRoot into j.name → (m : ℕ) → JoinsAtMost into merges j m → ⊥

-- what one try at a join does
abbrev pub Settled : List ℕ → List Join → ℕ → List ℕ → List ℕ → ℕ → Bool → Type 0
Settled slots joins at old new merges false = (new ≡ old) × ((j : Join) → slice_get joins at ≡ Some j → IsReduced old merges j)
Settled slots joins at old new merges true = Merging slots joins new (suc merges) × (suc (roots new 0) ≡ roots old 0)

-- what a try at each join does
pub record Swept (slots : List ℕ) (joins : List Join) (old new : List ℕ) (merges after : ℕ) : Type 0 where
  pub merging : Merging slots joins new after
  pub counted : roots new 0 + after ≡ roots old 0 + merges
  pub more : merges ≤ after
  pub reduced : after ≡ merges → (i : ℕ) (j : Join) → slice_get joins i ≡ Some j → IsReduced new merges j

-- each name leads to the name that it is merged into, and no join that is left joins one name only
pub record Merged (slots : List ℕ) (joins : List Join) (into : List ℕ) : Type 0 where
  pub sized : length into ≡ length slots
  pub settled : (n : ℕ) → n < length into → (get_or into n 0 < length into) × IsRoot into (get_or into n 0)
  pub slot : (n : ℕ) → n < length into → get_or slots (get_or into n 0) 0 ≡ get_or slots n 0
  pub kept : (n : ℕ) → n < length into → ((i : ℕ) (j : Join) → slice_get joins i ≡ Some j → j.name ≢ n) → IsRoot into n
  pub joined : (i : ℕ) (j : Join) (k : ℕ) → slice_get joins i ≡ Some j → (IsRoot into j.name → ⊥) → k < length j.operands →
      get_or into (get_or j.operands k 0) 0 ≡ get_or into j.name 0
  pub reduced : (i : ℕ) (j : Join) (m : ℕ) → slice_get joins i ≡ Some j → IsRoot into j.name →
      ((k : ℕ) → k < length j.operands → (get_or into (get_or j.operands k 0) 0 ≡ j.name) ⊎ (get_or into (get_or j.operands k 0) 0 ≡ m)) → ⊥
