-- Steppers that take turns together: at its turn a state goes on, ends with an answer, stops
-- without one or faults.
use Rattle.std.specs.Prelude.{
  ◌≡◌,
  ◌⊎◌,
  ℕ,
  zero,
  suc,
  ◌<◌,
  ◌≤◌,
  Bool,
  List,
  [],
  ◌∷◌,
  ◌++◌,
  map,
  filter,
  length,
  Option,
  Some,
  None,
  Ok,
  Err,
}
use Rattle.away_values.specs.declared.values.Class.{Class}
use Rattle.away_values.specs.Results.{Or}
use Rattle.together.specs.Tables.{together}

-- what a state comes to at its turn
pub data Turn (S A : Type 0) : Type 0 where
  goes : S → Turn S A
  ends : A → Turn S A
  stops : Turn S A
  faults : Class → Turn S A

-- a row of a table: a state, or the answer of one that has just ended
pub data Row (S A : Type 0) : Type 0 where
  on : S → Row S A
  ended : A → Row S A

-- the rows that a turn leaves
abbrev pub left_by : {S A : Type 0} → Turn S A → Or (List (Row S A))
left_by (goes s) = Ok (on s ∷ [])
left_by (ends a) = Ok (ended a ∷ [])
left_by stops = Ok []
left_by (faults c) = Err c

-- a row that has ended leaves nothing
abbrev pub leaves : {S A : Type 0} → (S → Turn S A) → Row S A → Or (List (Row S A))
leaves step (on s) = left_by (step s)
leaves step (ended a) = Ok []

-- where a start stands alone at a table: at a state, at its end, behind it, nowhere once it has
-- stopped, or at a class
pub data Where (S A : Type 0) : Type 0 where
  going : S → Where S A
  ending : A → Where S A
  past : A → Where S A
  stopped : Where S A
  failed : Class → Where S A

-- where a start stands after its first turn, with i more tables behind the one that the turn leaves
abbrev pub after : {S A : Type 0} → ℕ → (S → Where S A) → Turn S A → Where S A
after i next (goes s) = next s
after zero next (ends a) = ending a
after (suc i) next (ends a) = past a
after i next stops = stopped
after i next (faults c) = failed c

-- where a start stands at the i-th table
abbrev pub stands : {S A : Type 0} → (S → Turn S A) → ℕ → S → Where S A
stands step zero s = going s
stands step (suc i) s = after i (stands step i) (step s)

-- it has not faulted
abbrev pub IsSound : {S A : Type 0} → Where S A → Type 0
IsSound (failed c) = ⊥
IsSound w = Unit {0}

-- it has left a row in the table
abbrev pub GoesOn : {S A : Type 0} → Where S A → Type 0
GoesOn (going s) = Unit {0}
GoesOn (ending a) = Unit {0}
GoesOn w = ⊥

-- it has left no row, and has not faulted
abbrev pub IsPast : {S A : Type 0} → Where S A → Type 0
IsPast (past a) = Unit {0}
IsPast stopped = Unit {0}
IsPast w = ⊥

-- the answers of rows that have ended, in their order
abbrev pub answers : {S A : Type 0} → List (Row S A) → List A
answers [] = []
answers (on s ∷ rows) = answers rows
answers (ended a ∷ rows) = a ∷ answers rows

-- the answer of a start that is at its end, before others
abbrev pub with_end : {S A : Type 0} → Where S A → List A → List A
with_end (ending a) more = a ∷ more
with_end w more = more

-- the answer of a start that is past its end
abbrev pub end_list : {S A : Type 0} → Where S A → List A
end_list (past a) = a ∷ []
end_list w = []

module _ {S A : Type 0} (step : S → Turn S A) where
  -- no start has faulted by the i-th table
  abbrev pub AllSound : ℕ → List S → Type 0
  AllSound i [] = Unit {0}
  AllSound i (s ∷ ss) = IsSound (stands step i s) × AllSound i ss

  -- c is the class of the first start, in their order, that has faulted by the i-th table
  abbrev pub FailsFirst : ℕ → Class → List S → Type 0
  FailsFirst i c [] = ⊥
  FailsFirst i c (s ∷ ss) = (stands step i s ≡ failed c)
      ⊎ (IsSound (stands step i s) × FailsFirst i c ss)

  -- some start has a row in the i-th table
  abbrev pub SomeGoesOn : ℕ → List S → Type 0
  SomeGoesOn i [] = ⊥
  SomeGoesOn i (s ∷ ss) = GoesOn (stands step i s) ⊎ SomeGoesOn i ss

  -- each start is past its end at the i-th table, or has stopped
  abbrev pub ArePast : ℕ → List S → Type 0
  ArePast i [] = Unit {0}
  ArePast i (s ∷ ss) = IsPast (stands step i s) × ArePast i ss

  -- the answers of the starts that end in the i-th table, in row order
  abbrev pub ends_in : ℕ → List S → List A
  ends_in i [] = []
  ends_in i (s ∷ ss) = with_end (stands step i s) (ends_in i ss)

  -- the answers of all that end before the k-th table: table by table, and in row order in each
  abbrev pub ends_before : ℕ → List S → List A
  ends_before zero ss = []
  ends_before (suc k) ss = ends_before k ss ++ ends_in k ss

  -- the answers of the starts that are past their ends at the k-th table, in row order
  abbrev pub past_ends : ℕ → List S → List A
  past_ends k [] = []
  past_ends k (s ∷ ss) = end_list (stands step k s) ++ past_ends k ss

  -- the answers table by table are those of the starts past their ends, each as often
  abbrev pub EndsOfEach : ℕ → List S → Type 0
  EndsOfEach k ss = (test : A → Bool) → length (filter test (ends_before k ss))
      ≡ length (filter test (past_ends k ss))

  -- their tables up to the first empty one, one after the other
  abbrev pub run_together : ℕ → List S → Option (Or (List (Row S A)))
  run_together k ss = together (leaves step) k (map on ss)

  -- rows with these answers
  pub record Answering (found : Option (Or (List (Row S A)))) (wanted : List A) : Type 0 where
    pub rows : List (Row S A)
    pub is : found ≡ Some (Ok rows)
    pub answers : answers rows ≡ wanted

  -- The least table by which some start has faulted alone gives the class, of the first such start
  -- in row order. Where none has by the k-th and some start isn't past its end, the bound k doesn't
  -- suffice. Where all are past their ends, the answers stand in the order of the table in which
  -- the start ended, and then in row order.
  pub record StepsTogether (k : ℕ) (ss : List S) : Type 0 where
    pub faults : (j : ℕ) (c : Class) → j ≤ k → ((i : ℕ) → i < j → AllSound i ss) → FailsFirst j c ss
        → run_together k ss ≡ Some (Err c)
    pub goes_on : AllSound k ss → SomeGoesOn k ss → run_together k ss ≡ None
    pub ends : ArePast k ss → Answering (run_together k ss) (ends_before k ss)

-- ---- starts with values that each row carries

-- what a state comes to, with the values that it carries
abbrev pub carry : {X S A : Type 0} → X → Turn S A → Turn (X × S) (X × A)
carry x (goes s) = goes (x, s)
carry x (ends a) = ends (x, a)
carry x stops = stops
carry x (faults c) = faults c

-- a step of states that carry values, which it leaves as they are
abbrev pub carrying : {X S A : Type 0} → (S → Turn S A) → X × S → Turn (X × S) (X × A)
carrying step p = carry p.0 (step p.1)

-- where a start with carried values stands
abbrev pub with_carried : {X S A : Type 0} → X → Where S A → Where (X × S) (X × A)
with_carried x (going s) = going (x, s)
with_carried x (ending a) = ending (x, a)
with_carried x (past a) = past (x, a)
with_carried x stopped = stopped
with_carried x (failed c) = failed c
