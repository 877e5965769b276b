-- Which functions of a program reach which by calls.
use Rattle.std.specs.Prelude.{
  ◌≡◌,
  ◌<◌,
  ◌↔◌,
  ℕ,
  Bool,
  true,
  false,
  not,
  ◌&&◌,
  ◌||◌,
  List,
  [],
  ◌∷◌,
  get_or,
  length,
  map,
}
use Rattle.away_trees.specs.declared.statements.Function.{Function}
use Rattle.away_names.specs.Lookups.{Name}
use Rattle.moved_names.specs.Finding.{in_expr}
use Rattle.moved_names.specs.Words.{Looking, calls_of, in_stmt}
use Rattle.call_expand.specs.Expanding.{function_at}
use Rattle.program_check.specs.Firsts.{Nowhere}

-- calls of a function, wherever they stand
abbrev pub anywhere : Name → Looking
anywhere n = record {
  sought = calls_of (n ∷ []);
  assigned = in_expr (calls_of (n ∷ []));
  returned = in_expr (calls_of (n ∷ []));
}

-- a call of g stands in f
abbrev pub calls : Function → Function → Bool
calls f g = in_stmt (anywhere g.name) f.body

-- by their numbers
abbrev pub Calls : List Function → ℕ → ℕ → Type 0
Calls fs i g = calls (function_at fs i) (function_at fs g) ≡ true

-- by one call or by several, each from the function that the one before it calls
pub data Reaches (fs : List Function) : ℕ → ℕ → Type 0 where
  by_call : {i g : ℕ} → g < length fs → Calls fs i g → Reaches fs i g
  by_way : {i g h : ℕ} → Reaches fs i g → h < length fs → Calls fs g h → Reaches fs i h

abbrev pub Recurs : List Function → ℕ → Type 0
Recurs fs k = Reaches fs k k

abbrev pub TellsRecursion : List Function → ℕ → Bool → Type 0
TellsRecursion fs k told = (told ≡ true) ↔ Recurs fs k

-- ---- marks

abbrev pub marked : List Bool → ℕ → Bool
marked marks g = get_or marks g false

-- whom a function calls, and the same of each
abbrev pub call_row : List Function → Function → List Bool
call_row fs f = map (calls f) fs

abbrev pub call_table : List Function → List (List Bool)
call_table fs = map (call_row fs) fs

-- one of the marked functions calls function g
abbrev pub is_called : List (List Bool) → List Bool → ℕ → Bool
is_called [] marks g = false
is_called (row ∷ rows) [] g = false
is_called (row ∷ rows) (mark ∷ marks) g = (mark && marked row g) || is_called rows marks g

-- it isn't marked, though one of them calls it
abbrev pub is_due : List (List Bool) → List Bool → ℕ → Bool
is_due table marks g = not (marked marks g) && is_called table marks g

abbrev pub Due : List (List Bool) → List Bool → ℕ → Type 0
Due table marks g = is_due table marks g ≡ true

-- a function that was marked, or that one of these calls
pub data Follows (table : List (List Bool)) (old : List Bool) : ℕ → Type 0 where
  was : {g : ℕ} → marked old g ≡ true → Follows table old g
  called : {g h : ℕ} → Follows table old g → h < length old
      → marked (get_or table g []) h ≡ true → Follows table old h

-- Those are marked that were, and those that a marked one calls; none is due.
pub record IsSpread (table : List (List Bool)) (old new : List Bool) : Type 0 where
  pub as_many : length new ≡ length old
  pub kept : (g : ℕ) → marked old g ≡ true → marked new g ≡ true
  pub only : (g : ℕ) → marked new g ≡ true → Follows table old g
  pub closed : Nowhere (Due table new) (length new)
