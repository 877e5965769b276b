-- The blocks of every statement fit what it does.
use Rattle.away_trees.specs.declared.statements.Stmt.{Stmt}
use Rattle.away_trees.specs.declared.statements.Stmt.TheBlock as b
use Rattle.away_trees.specs.StatementAlgebra.{StatementAlgebra, stmt_of, stmts_of, branches_of, else_of}
use Rattle.plsql_meaning.specs.Statements.{running}
use Rattle.block_forms.specs.Expressions.{sourcing}
use Rattle.select_into.specs.Entries.{into_entries}
use Rattle.block_forms.specs.Intos.{selecting}
use Rattle.block_forms.specs.Laid.{laying}
use Rattle.block_forms.specs.Targets.{targeting}
use Rattle.goto_law.proofs.BlockFits.{block_fits, if_fits, cases_fit}
use Rattle.goto_law.proofs.Fits.{Fits, RowFits, ArmsFit, ElseFits, no_row, more_row, no_arms, more_arms, no_else, some_else}
use Rattle.goto_law.proofs.Known.{Sides}
use Rattle.goto_law.proofs.LeafFits.{nothing_fits, assign_fits, exit_fits, continue_fits, return_fits, raise_fits, into_fits}
use Rattle.goto_law.proofs.LoopFits.{loop_fits}

module _ (s : Sides) where
  -- the expressions of a text
  abbrev expressing : StatementAlgebra
  expressing = sourcing (into_entries s.types)

  mutual
    pub statement_fits : (x : Stmt) → Fits s (stmt_of laying x) (stmt_of (running s.set) x) (stmt_of expressing x) (stmt_of targeting x)
        (stmt_of selecting x)
    statement_fits (b.Block' label decls _ body closing) =
        block_fits s label decls (stmts_of laying body) (stmts_of (running s.set) body) (stmts_of expressing body) (stmts_of targeting body)
        (stmts_of selecting body) (row_fits body) closing
    statement_fits (b.Assign name slot e) = assign_fits s name slot e
    statement_fits (b.If' _ arms other) =
        if_fits s (branches_of laying arms) (branches_of (running s.set) arms) (branches_of expressing arms) (branches_of targeting arms)
        (else_of laying other) (else_of (running s.set) other) (else_of expressing other) (else_of targeting other)
        (branches_of selecting arms) (else_of selecting other) (arms_fit arms) (else_fits other)
    statement_fits (b.Cases' _ arms other) =
        cases_fit s (branches_of laying arms) (branches_of (running s.set) arms) (branches_of expressing arms) (branches_of targeting arms)
        (else_of laying other) (else_of (running s.set) other) (else_of expressing other) (else_of targeting other)
        (branches_of selecting arms) (else_of selecting other) (arms_fit arms) (else_fits other)
    statement_fits (b.Loop' label kind _ body closing) =
        loop_fits s label (stmts_of laying body) (stmts_of (running s.set) body) (stmts_of expressing body) (stmts_of targeting body)
        (stmts_of selecting body) (row_fits body) kind closing
    statement_fits (b.Exit label when) = exit_fits s label when
    statement_fits (b.Continue label when) = continue_fits s label when
    statement_fits (b.Return e) = return_fits s e
    statement_fits (b.Raise raised) = raise_fits s raised
    statement_fits (b.Into strict targets query) = into_fits s strict targets query
    statement_fits b.Nothing = nothing_fits s

    row_fits : {m : _} → (r : b.Row_of-Stmt m) → RowFits s (stmts_of laying r) (stmts_of (running s.set) r) (stmts_of expressing r)
        (stmts_of targeting r) (stmts_of selecting r)
    row_fits b.end_of-Stmt = no_row s
    row_fits (b.more_of-Stmt x rest) =
        more_row s (stmt_of laying x) (stmt_of (running s.set) x) (stmt_of expressing x) (stmt_of targeting x)
        (stmts_of laying rest) (stmts_of (running s.set) rest) (stmts_of expressing rest) (stmts_of targeting rest)
        (stmt_of selecting x) (stmts_of selecting rest) (statement_fits x) (row_fits rest)

    arms_fit : {m : _} → (r : b.Row_of-Arm m) → ArmsFit s (branches_of laying r) (branches_of (running s.set) r) (branches_of expressing r)
        (branches_of targeting r) (branches_of selecting r)
    arms_fit b.end_of-Arm = no_arms s
    arms_fit (b.more_of-Arm test _ body rest) =
        more_arms s test (stmts_of laying body) (stmts_of (running s.set) body) (stmts_of expressing body) (stmts_of targeting body)
        (branches_of laying rest) (branches_of (running s.set) rest) (branches_of expressing rest) (branches_of targeting rest)
        (stmts_of selecting body) (branches_of selecting rest) (row_fits body)
        (arms_fit rest)

    else_fits : (r : b.Held-Stmt-If-1) → ElseFits s (else_of laying r) (else_of (running s.set) r) (else_of expressing r) (else_of targeting r)
        (else_of selecting r)
    else_fits b.None' = no_else s
    else_fits (b.Some' _ body) =
        some_else s (stmts_of laying body) (stmts_of (running s.set) body) (stmts_of expressing body) (stmts_of targeting body)
        (stmts_of selecting body) (row_fits body)
