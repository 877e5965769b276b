-- What holds of places and of the list of a function's nodes.
use Rattle.std.specs.Prelude.{◌≡◌, ℕ, List, length, count_by}
use Rattle.away_trees.specs.declared.statements.Function.{Function}
use Rattle.away_trees.specs.Count.{nodes}
use Rattle.away_trees.specs.Limits.{loops, variables}
use Rattle.away_lex.specs.declared.refusals.LimitKind.{LimitKind}
use Rattle.function_places.specs.declared.stuck_places.Stuck.{Stuck}
use Rattle.function_places.specs.LimitPlaces.{IsLimitPlace, is_for, is_variable, kinds}
use Rattle.function_places.specs.NodePlaces.{IsNodePlace}
use Rattle.function_places.specs.StuckPlaces.{IsStuckPlace}
use Rattle.function_places.specs.TokenPlaces.{IsNamePlace, IsToken, IsWordPlace}

-- The list has one entry for each node, and its counts are those that the limits are on.
pub record KindsAreCounted : Type 0 where
  pub nodes : (f : Function) → length (kinds f) ≡ nodes f
  pub variables : (f : Function) → count_by is_variable (kinds f) ≡ variables f
  pub loops : (f : Function) → count_by is_for (kinds f) ≡ loops f

-- Each place is that of a token of the file.
pub record PlacesAreTokens : Type 0 where
  pub word : (bytes : List ℕ) (offset : ℕ) → IsWordPlace bytes offset → IsToken bytes offset
  pub name : (bytes : List ℕ) (offset : ℕ) → IsNamePlace bytes offset → IsToken bytes offset
  pub node : (bytes : List ℕ) (node offset : ℕ) → IsNodePlace bytes node offset → IsToken bytes offset
  pub limit : (bytes : List ℕ) (which : LimitKind) (offset : ℕ) → IsLimitPlace bytes which offset → IsToken bytes offset
  pub stuck : (bytes : List ℕ) (stuck : Stuck) → IsStuckPlace bytes stuck → IsToken bytes stuck.offset
