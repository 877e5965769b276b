-- The SELECT INTOs of a statement, in the order of the text.
use Rattle.std.specs.Prelude.{List, [], ◌∷◌, ◌++◌, flat_map, Option, Some, None}
use Rattle.away_trees.specs.declared.queries.Select.{Select}
use Rattle.away_trees.specs.declared.statements.Stmt.{Stmt}
use Rattle.away_trees.specs.declared.statements.Stmt.TheOpen.{Stmt-F, Arm-F}
use Rattle.away_trees.specs.declared.statements.Stmt.TheOpen as st
use Rattle.away_trees.specs.StatementAlgebra.{StatementAlgebra, stmt_of}
use Rattle.select_into.specs.Entries.{Target}

pub record Into : Type 0 where
  pub targets : List Target
  pub query : Select

abbrev pub row_intos : List (List Into) → List Into
row_intos [] = []
row_intos (x ∷ xs) = x ++ row_intos xs

abbrev pub else_intos : Option (List (List Into)) → List Into
else_intos None = []
else_intos (Some body) = row_intos body

abbrev of_statement : Stmt-F (List Into) (List Into) → List Into
of_statement (st.Block _ _ body _) = row_intos body
of_statement (st.Assign _ _ _) = []
of_statement (st.If arms other) = row_intos arms ++ else_intos other
of_statement (st.Cases arms other) = row_intos arms ++ else_intos other
of_statement (st.Loop _ _ body _) = row_intos body
of_statement (st.Exit _ _) = []
of_statement (st.Continue _ _) = []
of_statement (st.Return _) = []
of_statement (st.Raise _) = []
of_statement (st.Into _ targets query) = record { targets = targets; query = query } ∷ []
of_statement st.Nothing = []

abbrev pub selecting : StatementAlgebra
selecting = record {
  AStmt = List Into;
  AnArm = List Into;
  stmt = of_statement;
  arm = λ a. row_intos a.body;
}

unfoldable pub intos : Stmt → List Into
intos s = stmt_of selecting s

-- their targets
abbrev pub into_targets : Stmt → List Target
into_targets s = flat_map (λ (i : Into). i.targets) (intos s)
