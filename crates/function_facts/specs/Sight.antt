-- The expressions of a function whose names are resolved, each with the slots that are in sight
-- where it stands. Parameters, declarations and FOR variables take the slots in the order of the
-- text.
use Rattle.std.specs.Prelude.{ℕ, ◌+◌, List, [], ◌∷◌, ◌++◌, fold, length, Option, Some, None}
use Rattle.std.specs.List.{range_with_len}
use Rattle.away_trees.specs.declared.queries.Expr.{Expr}
use Rattle.away_trees.specs.declared.statements.Decl.{Decl}
use Rattle.away_trees.specs.declared.statements.Function.{Function}
use Rattle.away_trees.specs.declared.statements.LoopKind.{LoopKind}
use Rattle.away_trees.specs.declared.statements.LoopKind.TheVariants as kind
use Rattle.away_trees.specs.declared.statements.Stmt.TheOpen.{Stmt-F, Arm-F}
use Rattle.away_trees.specs.declared.statements.Stmt.TheOpen as st
use Rattle.away_trees.specs.StatementAlgebra.{StatementAlgebra, stmt_of}
use Rattle.away_trees.specs.StatementEquations.{statement_algebra}
pub use Rattle.plsql_meaning.specs.Sight.{query_of}

pub record Sighted : Type 0 where
  pub expr : Expr
  pub sight : List ℕ

-- the expressions of a piece of text, and the first slot that no text up to its end has taken
pub record Walked : Type 0 where
  pub exprs : List Sighted
  pub next : ℕ

-- by the first slot that no text before it has taken, and the slots in sight
abbrev pub Walk : Type 0
Walk = ℕ → List ℕ → Walked

-- ---- expressions of one place

abbrev pub no_expr : Walk
no_expr next sight = record { exprs = []; next = next }

abbrev pub one_expr : Expr → Walk
one_expr e next sight = record { exprs = record { expr = e; sight = sight } ∷ []; next = next }

abbrev pub maybe_expr : Option Expr → Walk
maybe_expr None = no_expr
maybe_expr (Some e) = one_expr e

-- ---- pieces one behind the other, which see the same slots

abbrev pub behind : Walked → Walked → Walked
behind a b = record { exprs = a.exprs ++ b.exprs; next = b.next }

abbrev pub and_walk : Walk → Walk → Walk
and_walk v w next sight = behind (v next sight) (w (v next sight).next sight)

abbrev pub all_walks : List Walk → Walk
all_walks ws next sight = fold (λ a w. behind a (w a.next sight)) (no_expr next sight) ws

abbrev pub maybe_walk : Option (List Walk) → Walk
maybe_walk None = no_expr
maybe_walk (Some ws) = all_walks ws

-- ---- declarations

-- a declaration's default sees the declarations before it
pub record Declared : Type 0 where
  pub walked : Walked
  pub sight : List ℕ

abbrev pub with_decl : Declared → Decl → Declared
with_decl a d = record {
  walked = record { exprs = a.walked.exprs ++ (maybe_expr d.default a.walked.next a.sight).exprs; next = a.walked.next + 1 };
  sight = a.sight ++ a.walked.next ∷ [];
}

abbrev pub declared : List Decl → ℕ → List ℕ → Declared
declared ds next sight = fold with_decl (record { walked = no_expr next sight; sight = sight }) ds

-- ---- statements

-- the body of a loop, which sees the variable of its FOR; the bounds and the step don't
abbrev pub of_loop : LoopKind → List Walk → Walk
of_loop kind.Plain body next sight = all_walks body next sight
of_loop (kind.While e) body next sight = and_walk (one_expr e) (all_walks body) next sight
of_loop (kind.Count var reverse first last step) body next sight =
    behind (and_walk (one_expr first) (and_walk (one_expr last) (maybe_expr step)) next sight) (all_walks body (next + 1) (sight ++ next ∷ []))

abbrev pub statement : Stmt-F Walk Walk → Walk
statement (st.Block label decls body closing) next sight =
    let ds = declared decls next sight in
    behind ds.walked (all_walks body ds.walked.next ds.sight)
statement (st.Assign name slot e) next sight = one_expr e next sight
statement (st.If arms other) next sight = and_walk (all_walks arms) (maybe_walk other) next sight
statement (st.Cases arms other) next sight = and_walk (all_walks arms) (maybe_walk other) next sight
statement (st.Loop label k body closing) next sight = of_loop k body next sight
statement (st.Exit label when) next sight = maybe_expr when next sight
statement (st.Continue label when) next sight = maybe_expr when next sight
statement (st.Return e) next sight = one_expr e next sight
statement (st.Raise raised) next sight = no_expr next sight
statement (st.Into strict targets query) next sight = one_expr (query_of query) next sight
statement st.Nothing next sight = no_expr next sight

abbrev pub walking : StatementAlgebra
walking = statement_algebra (record { stmt = statement; arm = λ a. and_walk (one_expr a.test) (all_walks a.body) })

-- all expressions of a function; its parameters have the first slots and are in sight everywhere
abbrev pub sighted : Function → List Sighted
sighted f = (stmt_of walking f.body (length f.params) (range_with_len 0 (length f.params))).exprs
