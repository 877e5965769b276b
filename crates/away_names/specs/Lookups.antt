-- What a name at a place stands for: a variable, a column of a FROM item of an enclosing select, a
-- table.
use Rattle.std.specs.Prelude.{
  ℕ,
  ◌+◌,
  Bool,
  false,
  ◌||◌,
  if◌then◌else◌,
  List,
  [],
  ◌∷◌,
  fold,
  Option,
  Some,
  None,
  option_map,
  bytes_eq,
  nat_eq,
  codes,
}
use Rattle.std.specs.List.{list_any, starts_with, position_from}
use Rattle.away_names.specs.declared.scope.Seen.{Seen}
use Rattle.away_names.specs.declared.scope.Variable.{Variable}
use Rattle.away_names.specs.declared.scope.Listed.{Listed}
use Rattle.away_names.specs.declared.scope.Working.{Working}
use Rattle.away_names.specs.declared.scope.Hit.{Hit}

abbrev pub Name : Type 0
Name = List ℕ

-- the items of a select's FROM that are visible
abbrev pub Level : Type 0
Level = List Seen

-- What the names of tables stand for; the columns of FROM, where the innermost select comes first;
-- and the variables, the innermost last.
pub record Scope : Type 0 where
  pub table : Name → Option Listed
  pub levels : List Level
  pub variables : List Variable
  pub in_function : Bool

abbrev pub inside : Level → Scope → Scope
inside level s = record s { levels = level ∷ s.levels }

abbrev pub or_else : {A : Type 0} → Option A → Option A → Option A
or_else (Some x) other = Some x
or_else None other = other

-- ---- columns

abbrev pub is_named : Name → Option Name → Bool
is_named n None = false
is_named n (Some m) = bytes_eq m n

unfoldable pub place_of : Name → List (Option Name) → Option ℕ
place_of n = position_from (is_named n) 0

unfoldable pub offers : Name → Seen → Bool
offers n o = list_any (is_named n) o.columns

abbrev pub hit_at : ℕ → ℕ → Bool → ℕ → Hit
hit_at depth item many column = record { column = record { level = depth; item = item; column = column }; many = many }

-- the first item that has the column
abbrev pub in_level : Name → ℕ → ℕ → Level → Option Hit
in_level n depth i [] = None
in_level n depth i (o ∷ os) = or_else (option_map (hit_at depth i (list_any (offers n) os)) (place_of n o.columns)) (in_level n depth (i + 1) os)

abbrev pub in_item : Name → Name → ℕ → ℕ → Level → Option Hit
in_item a n depth i [] = None
in_item a n depth i (o ∷ os) =
    or_else (if bytes_eq o.alias a then option_map (hit_at depth i false) (place_of n o.columns) else None) (in_item a n depth (i + 1) os)

-- the nearest select that has it
abbrev pub nearest : (ℕ → Level → Option Hit) → ℕ → List Level → Option Hit
nearest has depth [] = None
nearest has depth (l ∷ ls) = or_else (has depth l) (nearest has (depth + 1) ls)

unfoldable pub column_named : Name → List Level → Option Hit
column_named n = nearest (λ depth level. in_level n depth 0 level) 0

unfoldable pub column_qualified : Name → Name → List Level → Option Hit
column_qualified a n = nearest (λ depth level. in_item a n depth 0 level) 0

-- ---- variables and tables

-- the last of the name, behind one that was found before
abbrev pub variable_after : Name → Option Variable → List Variable → Option Variable
variable_after n = fold (λ found v. if bytes_eq v.name n then Some v else found)

unfoldable pub variable_named : Name → List Variable → Option Variable
variable_named n = variable_after n None

-- the recursive table hides one of its name in the schema
abbrev pub table_before : Option Working → (Name → Option Listed) → Name → Option Listed
table_before None tables n = tables n
table_before (Some w) tables n = if bytes_eq n w.name then Some w.table else tables n

-- ---- lists of names

abbrev pub is_among : Name → List Name → Bool
is_among n = list_any (λ m. bytes_eq m n)

abbrev pub doubled : List Name → Bool
doubled [] = false
doubled (n ∷ ns) = is_among n ns || doubled ns

unfoldable pub has_double : List Name → Bool
has_double = doubled

-- a name that is kept for the query's own
unfoldable pub is_kept : Name → Bool
is_kept name = starts_with nat_eq name (codes "away_")
