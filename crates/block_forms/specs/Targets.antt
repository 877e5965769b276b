-- The slots that assignments and SELECT INTO set, in the order of the text.
use Rattle.std.specs.Prelude.{ℕ, List, [], ◌∷◌, ◌++◌, Option, Some, None}
use Rattle.away_trees.specs.declared.statements.Stmt.{Stmt}
use Rattle.away_trees.specs.declared.statements.Stmt.TheOpen.{Stmt-F, Arm-F}
use Rattle.away_trees.specs.declared.statements.Stmt.TheOpen as st
use Rattle.away_trees.specs.StatementAlgebra.{StatementAlgebra, stmt_of}
use Rattle.select_into.specs.Entries.{Target}

abbrev pub Targets : Type 0
Targets = List ℕ

abbrev pub one_target : Option ℕ → Targets
one_target None = []
one_target (Some slot) = slot ∷ []

abbrev pub row_targets : List Targets → Targets
row_targets [] = []
row_targets (x ∷ xs) = x ++ row_targets xs

abbrev pub else_targets : Option (List Targets) → Targets
else_targets None = []
else_targets (Some body) = row_targets body

abbrev pub named_targets : List Target → Targets
named_targets [] = []
named_targets (t ∷ ts) = one_target t.1 ++ named_targets ts

abbrev of_statement : Stmt-F Targets Targets → Targets
of_statement (st.Block _ _ body _) = row_targets body
of_statement (st.Assign _ slot _) = one_target slot
of_statement (st.If arms other) = row_targets arms ++ else_targets other
of_statement (st.Cases arms other) = row_targets arms ++ else_targets other
of_statement (st.Loop _ _ body _) = row_targets body
of_statement (st.Exit _ _) = []
of_statement (st.Continue _ _) = []
of_statement (st.Return _) = []
of_statement (st.Raise _) = []
of_statement (st.Into _ targets _) = named_targets targets
of_statement st.Nothing = []

abbrev pub targeting : StatementAlgebra
targeting = record { AStmt = Targets; AnArm = Targets; stmt = of_statement; arm = λ a. row_targets a.body }

unfoldable pub targets : Stmt → Targets
targets s = stmt_of targeting s
