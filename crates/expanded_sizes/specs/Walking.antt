-- What the code finds of the depth of an expanded function, by what it knows of the bodies of
-- called functions.
use Rattle.std.specs.Prelude.{
  ◌≡◌,
  ◌<◌,
  ◌-◌,
  ◌^◌,
  ℕ,
  min,
  true,
  List,
  length,
  get_or,
  Option,
  Some,
  None,
}
use Rattle.away_trees.specs.declared.queries.Expr.{Expr}
use Rattle.away_trees.specs.declared.statements.Arm.{Arm}
use Rattle.away_trees.specs.declared.statements.Function.{Function}
use Rattle.away_trees.specs.declared.statements.Stmt.{Stmt}
use Rattle.away_trees.specs.StatementAlgebra.{StatementAlgebra, branch_of, stmt_of}
use Rattle.call_meaning.specs.Calls.{Called}
use Rattle.call_expand.specs.Expanding.{call_place, function_at, names_of}
use Rattle.expanded_sizes.specs.Depths as d
use Rattle.expanded_sizes.specs.Depths.{
  around_return,
  expanded_depth,
  most_by,
  nesting,
  place_depth,
}
use Rattle.expanded_sizes.specs.declared.depths.Walk.{Walk}

-- what is told of a number: itself, or the greatest of 64 bits
abbrev pub told : ℕ → ℕ
told n = min n (2 ^ 64 - 1)

-- the depths of all bodies, as those of called functions in which calls nest less than so deep
pub record AreDepths (fs : List Function) (calls : ℕ) (depths : List ℕ) : Type 0 where
  pub as_many : length depths ≡ length fs
  pub each : (i : ℕ) → i < length fs
      → get_or depths i 0 ≡ told (expanded_depth fs calls true i)

abbrev pub KnowsDepths : Walk → Type 0
KnowsDepths g = AreDepths g.fs.now g.calls g.depths.now

abbrev pub deeper : Walk → ℕ → ℕ
deeper g = expanded_depth g.fs.now g.calls true

abbrev pub at_place : Walk → ℕ → Expr → ℕ
at_place g tail e = place_depth g.fs.now (deeper g) tail e (call_place (names_of g.fs.now) e)

abbrev pub at_call : Walk → Called → ℕ → ℕ
at_call g c tail = d.call_depth (function_at g.fs.now c.part) c.args (deeper g c.part) tail

abbrev pub walked : Walk → StatementAlgebra
walked g = nesting (at_place g 0) (at_place g (around_return g.inside))

unfoldable pub depth_of : Walk → Stmt → ℕ
depth_of g s = stmt_of (walked g) s

unfoldable pub depth_of_arm : Walk → Arm → ℕ
depth_of_arm g a = branch_of (walked g) a

-- an ELSE by its statements
abbrev pub depth_of_else : Walk → Option (List Stmt) → ℕ
depth_of_else g None = 0
depth_of_else g (Some body) = most_by (depth_of g) body
