-- How many slots a statement takes: one for each declaration and each FOR variable in it.
use Rattle.std.specs.Prelude.{ℕ, ◌+◌, List, length, sum, sum_by, Option, Some, None}
use Rattle.away_trees.specs.declared.statements.Stmt.{Stmt}
use Rattle.away_trees.specs.declared.statements.Arm.{Arm}
use Rattle.away_trees.specs.declared.statements.Stmt.TheOpen.{Stmt-F, Arm-F}
use Rattle.away_trees.specs.declared.statements.Stmt.TheOpen as st
use Rattle.away_trees.specs.StatementAlgebra.{StatementAlgebra, stmt_of, branch_of}
use Rattle.plsql_meaning.specs.Statements.{kind_vars}

abbrev pub else_slots : Option (List ℕ) → ℕ
else_slots None = 0
else_slots (Some body) = sum body

abbrev statement_slots : Stmt-F ℕ ℕ → ℕ
statement_slots (st.Block _ decls body _) = length decls + sum body
statement_slots (st.Assign _ _ _) = 0
statement_slots (st.If arms other) = sum arms + else_slots other
statement_slots (st.Cases arms other) = sum arms + else_slots other
statement_slots (st.Loop _ k body _) = kind_vars k + sum body
statement_slots (st.Exit _ _) = 0
statement_slots (st.Continue _ _) = 0
statement_slots (st.Return _) = 0
statement_slots (st.Raise _) = 0
statement_slots (st.Into _ _ _) = 0
statement_slots st.Nothing = 0

abbrev pub slot_counting : StatementAlgebra
slot_counting = record { AStmt = ℕ; AnArm = ℕ; stmt = statement_slots; arm = λ a. sum a.body }

unfoldable pub slots_of : Stmt → ℕ
slots_of s = stmt_of slot_counting s

unfoldable pub slots_of_arm : Arm → ℕ
slots_of_arm a = branch_of slot_counting a

unfoldable pub slots_of_else : Option (List Stmt) → ℕ
slots_of_else None = 0
slots_of_else (Some body) = sum_by slots_of body
