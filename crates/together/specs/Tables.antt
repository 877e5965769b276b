-- Rows that take turns together: each row leaves rows or a class, and a table has what all rows of
-- the table before it left, in their order.
use Rattle.std.specs.Prelude.{
  ◌≡◌,
  ◌⊎◌,
  ℕ,
  zero,
  suc,
  ◌<◌,
  ◌≤◌,
  List,
  [],
  ◌∷◌,
  ◌++◌,
  Option,
  Some,
  None,
  Ok,
  Err,
}
use Rattle.away_values.specs.declared.values.Class.{Class}
use Rattle.away_values.specs.Results.{Or, and_then, mapped, each_joined}

-- One table after another up to the first empty one, as in a recursive query: `done` has the rows
-- of the tables before `now`, and k more tables may follow it.
abbrev pub tables : {R : Type 0} → (List R → Or (List R)) → ℕ → List R → Or (List R)
    → Option (Or (List R))
tables turn k done (Err c) = Some (Err c)
tables turn k done (Ok []) = Some (Ok done)
tables turn zero done (Ok (row ∷ more)) = None
tables turn (suc k) done (Ok (row ∷ more)) = tables turn k (done ++ row ∷ more) (turn (row ∷ more))

-- one list behind the other, where the first class is the result
abbrev pub joined : {A : Type 0} → Or (List A) → Or (List A) → Or (List A)
joined x y = and_then x (λ xs. mapped (λ ys. xs ++ ys) y)

-- there is no fault
abbrev pub IsFine : {A : Type 0} → Or A → Type 0
IsFine (Ok a) = Unit {0}
IsFine (Err c) = ⊥

-- there is a row
abbrev pub IsFilled : {A : Type 0} → Or (List A) → Type 0
IsFilled (Ok []) = ⊥
IsFilled (Ok (x ∷ xs)) = Unit {0}
IsFilled (Err c) = ⊥

module _ {R : Type 0} (leaves : R → Or (List R)) where
  -- what a table's rows leave, in their order: the first class, or all rows
  abbrev pub turn : List R → Or (List R)
  turn = each_joined leaves

  -- the table after i turns, where a class stays
  abbrev pub table_at : ℕ → List R → Or (List R)
  table_at zero rows = Ok rows
  table_at (suc i) rows = and_then (turn rows) (table_at i)

  -- the table of one row alone
  abbrev pub own : ℕ → R → Or (List R)
  own i r = table_at i (r ∷ [])

  -- the tables up to the first empty one, one after the other
  abbrev pub together : ℕ → List R → Option (Or (List R))
  together k rows = tables turn k [] (Ok rows)

  -- what each row has alone in the tables before the k-th: table by table, and in row order in each
  abbrev pub before : ℕ → List R → Or (List R)
  before zero rows = Ok []
  before (suc k) rows = joined (before k rows) (each_joined (own k) rows)

  -- ---- what rows come to alone

  -- no row faults alone up to the i-th table
  abbrev pub AllFine : ℕ → List R → Type 0
  AllFine i [] = Unit {0}
  AllFine i (r ∷ rs) = IsFine (own i r) × AllFine i rs

  -- c is the class of the first row, in their order, that faults up to the i-th table
  abbrev pub FaultsFirst : ℕ → Class → List R → Type 0
  FaultsFirst i c [] = ⊥
  FaultsFirst i c (r ∷ rs) = (own i r ≡ Err c) ⊎ (IsFine (own i r) × FaultsFirst i c rs)

  -- some row has left something in the i-th table
  abbrev pub SomeGoesOn : ℕ → List R → Type 0
  SomeGoesOn i [] = ⊥
  SomeGoesOn i (r ∷ rs) = IsFilled (own i r) ⊎ SomeGoesOn i rs

  -- no row has left anything in the i-th table
  abbrev pub AllOver : ℕ → List R → Type 0
  AllOver i [] = Unit {0}
  AllOver i (r ∷ rs) = (own i r ≡ Ok []) × AllOver i rs

  -- ---- the law

  -- The least table in which some row faults alone gives the class, of the first such row in their
  -- order. Where none faults up to the k-th and some row has left something in it, the bound k
  -- doesn't suffice. Where all have left nothing, the rows are those that each has alone, table by
  -- table.
  pub record IsTogether (k : ℕ) (rows : List R) : Type 0 where
    pub faults : (j : ℕ) (c : Class) → j ≤ k → ((i : ℕ) → i < j → AllFine i rows)
        → FaultsFirst j c rows → together k rows ≡ Some (Err c)
    pub goes_on : AllFine k rows → SomeGoesOn k rows → together k rows ≡ None
    pub ends : AllOver k rows → together k rows ≡ Some (before k rows)

  -- While no row has faulted before it, the i-th table is what each row has alone, in row order.
  abbrev pub IsJoined : ℕ → List R → Type 0
  IsJoined i rows = ((j : ℕ) → j < i → AllFine j rows) → table_at i rows ≡ each_joined (own i) rows

  -- one of the three is the case
  pub data Case (k : ℕ) (rows : List R) : Type 0 where
    fault : (j : ℕ) (c : Class) → j ≤ k → ((i : ℕ) → i < j → AllFine i rows) → FaultsFirst j c rows
        → Case k rows
    going : AllFine k rows → SomeGoesOn k rows → Case k rows
    over : AllOver k rows → Case k rows
