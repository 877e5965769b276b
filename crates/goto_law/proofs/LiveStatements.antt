-- Only visible slots are live where any statement begins.
use Rattle.away_trees.specs.declared.statements.Stmt.{Stmt}
use Rattle.away_trees.specs.declared.statements.Stmt.TheBlock as b
use Rattle.away_trees.specs.StatementAlgebra.{stmt_of, stmts_of, branches_of, else_of}
use Rattle.function_facts.specs.Sight.{walking}
use Rattle.block_forms.specs.Laid.{Setting, laying}
use Rattle.goto_law.proofs.LiveBlocks.{block_safe, if_safe, cases_safe}
use Rattle.goto_law.proofs.LiveIntos.{into_safe}
use Rattle.goto_law.proofs.LiveLeaves.{nothing_safe, assign_safe, exit_safe, continue_safe, return_safe, raise_safe}
use Rattle.goto_law.proofs.Loops.{loop_safe}
use Rattle.goto_law.proofs.Rows.{SafeStatement, SafeRow, SafeArms, SafeElse, no_row, more_row, no_arms, more_arms, no_else, some_else}

module _ (s : Setting) where
  mutual
    pub statement_safe : (x : Stmt) → SafeStatement s (stmt_of laying x) (stmt_of walking x)
    statement_safe (b.Block' label decls _ body closing) =
        block_safe s label decls (stmts_of laying body) (stmts_of walking body) (row_safe body) closing
    statement_safe (b.Assign name slot e) = assign_safe s name slot e
    statement_safe (b.If' _ arms other) =
        if_safe s (branches_of laying arms) (branches_of walking arms) (else_of laying other) (else_of walking other) (arms_safe arms)
        (else_safe other)
    statement_safe (b.Cases' _ arms other) =
        cases_safe s (branches_of laying arms) (branches_of walking arms) (else_of laying other) (else_of walking other) (arms_safe arms)
        (else_safe other)
    statement_safe (b.Loop' label kind _ body closing) =
        loop_safe s label (stmts_of laying body) (stmts_of walking body) (row_safe body) kind closing
    statement_safe (b.Exit label when) = exit_safe s label when
    statement_safe (b.Continue label when) = continue_safe s label when
    statement_safe (b.Return e) = return_safe s e
    statement_safe (b.Raise raised) = raise_safe s raised
    statement_safe (b.Into strict targets query) = into_safe s strict targets query
    statement_safe b.Nothing = nothing_safe s

    row_safe : {m : _} → (r : b.Row_of-Stmt m) → SafeRow s (stmts_of laying r) (stmts_of walking r)
    row_safe b.end_of-Stmt = no_row s
    row_safe (b.more_of-Stmt x rest) =
        more_row s (stmt_of laying x) (stmt_of walking x) (stmts_of laying rest) (stmts_of walking rest) (statement_safe x) (row_safe rest)

    arms_safe : {m : _} → (r : b.Row_of-Arm m) → SafeArms s (branches_of laying r) (branches_of walking r)
    arms_safe b.end_of-Arm = no_arms s
    arms_safe (b.more_of-Arm test _ body rest) =
        more_arms s test (stmts_of laying body) (stmts_of walking body) (branches_of laying rest) (branches_of walking rest) (row_safe body)
        (arms_safe rest)

    else_safe : (r : b.Held-Stmt-If-1) → SafeElse s (else_of laying r) (else_of walking r)
    else_safe b.None' = no_else s
    else_safe (b.Some' _ body) = some_else s (stmts_of laying body) (stmts_of walking body) (row_safe body)
