-- What the code counts of an expanded function, by what it knows of the bodies of called functions.
use Rattle.std.specs.Prelude.{
  ◌≡◌,
  ◌≤◌,
  ◌<◌,
  ◌+◌,
  ◌^◌,
  ℕ,
  true,
  List,
  length,
  get_or,
  sum_by,
  Option,
  Some,
  None,
}
use Rattle.away_trees.specs.declared.queries.Expr.{Expr}
use Rattle.away_trees.specs.declared.statements.Arm.{Arm}
use Rattle.away_trees.specs.declared.statements.Function.{Function}
use Rattle.away_trees.specs.declared.statements.Stmt.{Stmt}
use Rattle.away_trees.specs.StatementAlgebra.{StatementAlgebra, branch_of, stmt_of}
use Rattle.call_meaning.specs.Calls.{Called}
use Rattle.call_expand.specs.Expanding.{call_place, function_at, names_of}
use Rattle.expanded_sizes.specs.Sizes.{expanded_weight, of_call, of_place, of_return, weighing}
use Rattle.expanded_sizes.specs.declared.weights.Weighing.{Weighing}
use Rattle.expanded_sizes.specs.declared.weights.Weights.{Weights}

-- a number, where it fits into 64 bits
abbrev pub IsCount : ℕ → Option ℕ → Type 0
IsCount n None = 2 ^ 64 ≤ n
IsCount n (Some m) = m ≡ n

-- the weights of all bodies, as those of called functions in which calls nest less than so deep
pub record AreWeights (w : Weights) (fs : List Function) (depth : ℕ) (counts : List (Option ℕ))
    : Type 0 where
  pub as_many : length counts ≡ length fs
  pub each : (i : ℕ) → i < length fs
      → IsCount (expanded_weight w fs depth true i) (get_or counts i None)

abbrev pub KnowsCallees : Weighing → Type 0
KnowsCallees g = AreWeights g.weights g.fs.now g.depth g.callees.now

abbrev pub deeper : Weighing → ℕ → ℕ
deeper g = expanded_weight g.weights g.fs.now g.depth true

-- the block of a call, without what goes on behind it
abbrev pub at_call : Weighing → Called → ℕ
at_call g c = of_call g.weights (function_at g.fs.now c.part) c.args (deeper g c.part) 0

-- a place by what goes on with its value
abbrev pub at_place : Weighing → ℕ → Expr → ℕ
at_place g tail e =
    of_place g.weights g.fs.now (deeper g) tail (call_place (names_of g.fs.now) e)

abbrev pub weighed : Weighing → StatementAlgebra
weighed g = weighing g.weights (at_place g g.weights.statement)
    (at_place g (of_return g.weights g.inside))

unfoldable pub weight_of : Weighing → Stmt → ℕ
weight_of g s = stmt_of (weighed g) s

unfoldable pub weight_of_arm : Weighing → Arm → ℕ
weight_of_arm g a = branch_of (weighed g) a

-- an ELSE by its statements
unfoldable pub weight_of_else : Weighing → Option (List Stmt) → ℕ
weight_of_else g None = 0
weight_of_else g (Some body) = g.weights.arm + sum_by (weight_of g) body
