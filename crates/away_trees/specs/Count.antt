-- How many nodes a function has. A node is a statement (a block is one), an arm, a declaration, a
-- parameter or a target of INTO. An arm is each condition of IF, ELSIF or CASE with its statements,
-- and each ELSE.
use Rattle.std.specs.Prelude.{ℕ, ◌+◌, ◌*◌, List, length, sum, sum_by, Option, Some, None}
use Rattle.away_trees.specs.declared.statements.Arm.{Arm}
use Rattle.away_trees.specs.declared.statements.Function.{Function}
use Rattle.away_trees.specs.declared.statements.Stmt.{Stmt}
use Rattle.away_trees.specs.declared.statements.Stmt.TheOpen.{Stmt-F, Arm-F}
use Rattle.away_trees.specs.declared.statements.Stmt.TheOpen as st
use Rattle.away_trees.specs.StatementAlgebra.{StatementAlgebra, stmt_of, branch_of}

-- an ELSE is a node
abbrev of_else : Option (List ℕ) → ℕ
of_else None = 0
of_else (Some body) = 1 + sum body

-- a statement is a node, and so is each declaration and each target
abbrev of_statement : Stmt-F ℕ ℕ → ℕ
of_statement (st.Block _ decls body _) = 1 + length decls + sum body
of_statement (st.Assign _ _ _) = 1
of_statement (st.If arms other) = 1 + sum arms + of_else other
of_statement (st.Cases arms other) = 1 + sum arms + of_else other
of_statement (st.Loop _ _ body _) = 1 + sum body
of_statement (st.Exit _ _) = 1
of_statement (st.Continue _ _) = 1
of_statement (st.Return _) = 1
of_statement (st.Raise _) = 1
of_statement (st.Into _ targets _) = 1 + length targets
of_statement st.Nothing = 1

-- a condition with its statements is a node
abbrev of_branch : Arm-F ℕ ℕ → ℕ
of_branch a = 1 + sum a.body

abbrev pub counting : StatementAlgebra
counting = record { AStmt = ℕ; AnArm = ℕ; stmt = of_statement; arm = of_branch }

-- of a statement with what stands in it
unfoldable pub nodes_of : Stmt → ℕ
nodes_of s = stmt_of counting s

-- of an arm with its statements
unfoldable pub nodes_of_arm : Arm → ℕ
nodes_of_arm a = branch_of counting a

-- of what stands behind an ELSE, the ELSE included
unfoldable pub nodes_of_else : Option (List Stmt) → ℕ
nodes_of_else None = 0
nodes_of_else (Some body) = 1 + sum_by nodes_of body

-- a parameter is a node
unfoldable pub nodes : Function → ℕ
nodes f = length f.params + nodes_of f.body

-- sixteen for each node, and sixteen more
unfoldable pub weight : Function → ℕ
weight f = 16 * (nodes f + 1)
