-- New names: x1, x2 and so on, without those that stand in a file.
use Rattle.std.specs.Prelude.{
  ◌≡◌,
  ℕ,
  zero,
  suc,
  Bool,
  if◌then◌else◌,
  List,
  [],
  ◌∷◌,
  ◌++◌,
  codes,
  decimal,
}
use Rattle.away_trees.specs.declared.schemas.Schema.{Schema}
use Rattle.away_trees.specs.declared.statements.Function.{Function}
use Rattle.away_names.specs.Lookups.{Name}
use Rattle.moved_names.specs.Words.{in_files}

abbrev pub numbered : ℕ → Name
numbered k = codes "x" ++ decimal k

-- the name, where it stands in no file
abbrev pub unless_used : Bool → Name → List Name
unless_used used n = if used then [] else n ∷ []

-- those of x1 to xk that stand in no file
abbrev pub free_to : Schema → List Function → ℕ → List Name
free_to s fs zero = []
free_to s fs (suc k) =
    free_to s fs k ++ unless_used (in_files (numbered (suc k)) s fs) (numbered (suc k))

-- the first that stand in no file
pub record AreFresh (s : Schema) (fs : List Function) (names : List Name) : Type 0 where
  pub last : ℕ
  pub are : names ≡ free_to s fs last
