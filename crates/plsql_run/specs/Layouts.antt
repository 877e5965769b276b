-- How many slots statements take, beside the same of what stands in them.
use Rattle.std.specs.Prelude.{ℕ, ◌+◌, List, [], length, map, sum_by, Option, Some, None}
use Rattle.away_trees.specs.declared.statements.Arm.{Arm}
use Rattle.away_trees.specs.declared.statements.Stmt.{Stmt}
use Rattle.away_trees.specs.declared.statements.Stmt.TheOpen.{Stmt-F, Arm-F}
use Rattle.away_trees.specs.declared.statements.Stmt.TheOpen as st
use Rattle.away_trees.specs.StatementAlgebra.{StatementAlgebra, stmt_of, branch_of}
use Rattle.plsql_meaning.specs.Statements.{kind_vars}
use Rattle.plsql_run.specs.declared.layout.Layout.{Layout}
use Rattle.plsql_run.specs.declared.layout.Layout.TheViews.{out-Layout, roll-Layout}

-- the slots that a layout tells
abbrev pub slots : Layout → ℕ
slots l = (out-Layout l).slots

-- so many slots, and those of the parts
abbrev pub laid : ℕ → List Layout → List Layout → Layout
laid own inside other = roll-Layout (record { slots = own + (sum_by slots inside + sum_by slots other); inside = inside; other = other })

abbrev pub or_none : Option (List Layout) → List Layout
or_none None = []
or_none (Some body) = body

abbrev pub statement_layout : Stmt-F Layout Layout → Layout
statement_layout (st.Block _ decls body _) = laid (length decls) body []
statement_layout (st.If arms other) = laid 0 arms (or_none other)
statement_layout (st.Cases arms other) = laid 0 arms (or_none other)
statement_layout (st.Loop _ k body _) = laid (kind_vars k) body []
statement_layout (st.Assign _ _ _) = laid 0 [] []
statement_layout (st.Exit _ _) = laid 0 [] []
statement_layout (st.Continue _ _) = laid 0 [] []
statement_layout (st.Return _) = laid 0 [] []
statement_layout (st.Raise _) = laid 0 [] []
statement_layout (st.Into _ _ _) = laid 0 [] []
statement_layout st.Nothing = laid 0 [] []

abbrev pub laying : StatementAlgebra
laying = record { AStmt = Layout; AnArm = Layout; stmt = statement_layout; arm = λ a. laid 0 a.body [] }

unfoldable pub layout_of : Stmt → Layout
layout_of s = stmt_of laying s

unfoldable pub arm_layout : Arm → Layout
arm_layout x = branch_of laying x

abbrev pub layouts_of : List Stmt → List Layout
layouts_of ss = map layout_of ss

abbrev pub arm_layouts : List Arm → List Layout
arm_layouts xs = map arm_layout xs

abbrev pub layouts_of_else : Option (List Stmt) → List Layout
layouts_of_else None = []
layouts_of_else (Some body) = layouts_of body
