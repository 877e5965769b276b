-- The limits of a function: its nodes, its variables and its FOR loops. (The limits are our own.)
use Rattle.std.specs.Prelude.{ℕ, ◌+◌, ◌≤◌, List, length, sum, Option, Some, None}
use Rattle.away_trees.specs.declared.statements.Arm.{Arm}
use Rattle.away_trees.specs.declared.statements.Function.{Function}
use Rattle.away_trees.specs.declared.statements.LoopKind.{LoopKind}
use Rattle.away_trees.specs.declared.statements.LoopKind.TheVariants as k
use Rattle.away_trees.specs.declared.statements.Stmt.{Stmt}
use Rattle.away_trees.specs.declared.statements.Stmt.TheOpen.{Stmt-F, Arm-F}
use Rattle.away_trees.specs.declared.statements.Stmt.TheOpen as st
use Rattle.away_trees.specs.StatementAlgebra.{StatementAlgebra, stmt_of, branch_of}
use Rattle.away_trees.specs.Count.{nodes}

-- ---- sums over the parts of a statement

abbrev in_else : Option (List ℕ) → ℕ
in_else None = 0
in_else (Some body) = sum body

abbrev in_parts : Stmt-F ℕ ℕ → ℕ
in_parts (st.Block _ _ body _) = sum body
in_parts (st.If arms other) = sum arms + in_else other
in_parts (st.Cases arms other) = sum arms + in_else other
in_parts (st.Loop _ _ body _) = sum body
in_parts _ = 0

abbrev in_arm : Arm-F ℕ ℕ → ℕ
in_arm a = sum a.body

-- ---- variables

-- the declarations of a block, beside those of its parts
abbrev variables_in : Stmt-F ℕ ℕ → ℕ
variables_in (st.Block _ decls body _) = length decls + sum body
variables_in other = in_parts other

abbrev pub counting_variables : StatementAlgebra
counting_variables = record { AStmt = ℕ; AnArm = ℕ; stmt = variables_in; arm = in_arm }

-- of a statement with what stands in it
unfoldable pub variables_of : Stmt → ℕ
variables_of s = stmt_of counting_variables s

-- of an arm with its statements
unfoldable pub variables_of_arm : Arm → ℕ
variables_of_arm a = branch_of counting_variables a

-- the parameters, and the declarations of all blocks
unfoldable pub variables : Function → ℕ
variables f = length f.params + variables_of f.body

-- ---- loops

abbrev pub for_loops : LoopKind → ℕ
for_loops (k.Count _ _ _ _ _) = 1
for_loops _ = 0

-- a FOR loop is one, beside those of its parts
abbrev loops_in : Stmt-F ℕ ℕ → ℕ
loops_in (st.Loop _ how body _) = for_loops how + sum body
loops_in other = in_parts other

abbrev pub counting_loops : StatementAlgebra
counting_loops = record { AStmt = ℕ; AnArm = ℕ; stmt = loops_in; arm = in_arm }

-- of a statement with what stands in it
unfoldable pub loops_of : Stmt → ℕ
loops_of s = stmt_of counting_loops s

-- of an arm with its statements
unfoldable pub loops_of_arm : Arm → ℕ
loops_of_arm a = branch_of counting_loops a

-- the FOR loops
unfoldable pub loops : Function → ℕ
loops f = loops_of f.body

-- ---- limits

abbrev pub most_nodes : ℕ
most_nodes = 500

abbrev pub most_variables : ℕ
most_variables = 64

abbrev pub most_loops : ℕ
most_loops = 64

-- No count of the function exceeds its limit.
pub record KeepsLimits (f : Function) : Type 0 where
  pub few_nodes : nodes f ≤ most_nodes
  pub few_variables : variables f ≤ most_variables
  pub few_loops : loops f ≤ most_loops
