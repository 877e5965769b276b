-- Whether a name is found in a statement, a function, a schema; and where it stands as a word in
-- files. The expressions of assignments and of RETURNs are looked at as is given.
use Rattle.std.specs.Prelude.{
  ℕ,
  Bool,
  false,
  ◌||◌,
  if◌then◌else◌,
  List,
  [],
  ◌∷◌,
  Option,
  Some,
  None,
  bytes_eq,
}
use Rattle.std.specs.List.{list_any}
use Rattle.away_values.specs.declared.types.Ty.{Ty}
use Rattle.away_trees.specs.declared.queries.Expr.{Expr}
use Rattle.away_trees.specs.declared.queries.Expr.TheBlock as b
use Rattle.away_trees.specs.declared.statements.Arm.{Arm}
use Rattle.away_trees.specs.declared.statements.Decl.{Decl}
use Rattle.away_trees.specs.declared.statements.Function.{Function}
use Rattle.away_trees.specs.declared.statements.LoopKind.{LoopKind}
use Rattle.away_trees.specs.declared.statements.LoopKind.TheVariants as kind
use Rattle.away_trees.specs.declared.statements.Stmt.{Stmt}
use Rattle.away_trees.specs.declared.statements.Stmt.TheOpen.{Stmt-F, Arm-F}
use Rattle.away_trees.specs.declared.statements.Stmt.TheOpen as st
use Rattle.away_trees.specs.declared.schemas.ColumnSchema.{ColumnSchema}
use Rattle.away_trees.specs.declared.schemas.TableSchema.{TableSchema}
use Rattle.away_trees.specs.declared.schemas.Schema.{Schema}
use Rattle.away_trees.specs.StatementAlgebra.{StatementAlgebra, stmt_of, branch_of}
use Rattle.away_names.specs.Lookups.{Name, is_among, is_kept}
use Rattle.moved_names.specs.Finding.{Sought, any, holds, in_expr, in_select}

-- what is looked for, and how in the expression of an assignment and of a RETURN
pub record Looking : Type 0 where
  pub sought : Sought
  pub assigned : Expr → Bool
  pub returned : Expr → Bool

abbrev pub exprs_in : {m : _} → b.Row_of-Expr m → List Expr
exprs_in b.end_of-Expr = []
exprs_in (b.more_of-Expr e rest) = e ∷ exprs_in rest

-- the name and the arguments of an expression that is a call as a whole
abbrev pub whole_call : Expr → Option (Name × List Expr)
whole_call (b.Call' name s es) = Some (name, exprs_in es)
whole_call _ = None

module _ (s : Sought) where
  abbrev pub in_decl : Decl → Bool
  in_decl d = s.word d.name || holds (in_expr s) d.default

  abbrev pub in_kind : LoopKind → Bool
  in_kind kind.Plain = false
  in_kind (kind.While e) = in_expr s e
  in_kind (kind.Count var reverse first last step) =
      s.word var || (in_expr s first || (in_expr s last || holds (in_expr s) step))

  abbrev pub in_target : Name × Option ℕ → Bool
  in_target t = s.word t.0

  -- A call as a whole of one of these functions is looked at by its arguments alone.
  abbrev pub beside_call : List Name → Option (Name × List Expr) → Expr → Bool
  beside_call fs None e = in_expr s e
  beside_call fs (Some c) e = if is_among c.0 fs then list_any (in_expr s) c.1 else in_expr s e

  unfoldable pub beside : List Name → Expr → Bool
  beside fs e = beside_call fs (whole_call e) e

module _ (l : Looking) where
  abbrev pub statement : Stmt-F Bool Bool → Bool
  statement (st.Block label decls body closing) = holds l.sought.word label
      || (list_any (in_decl l.sought) decls || (any body || holds l.sought.word closing))
  statement (st.Assign m slot e) = l.sought.word m || l.assigned e
  statement (st.If arms other) = any arms || holds any other
  statement (st.Cases arms other) = any arms || holds any other
  statement (st.Loop label k body closing) = holds l.sought.word label
      || (in_kind l.sought k || (any body || holds l.sought.word closing))
  statement (st.Exit label when) = holds l.sought.word label || holds (in_expr l.sought) when
  statement (st.Continue label when) = holds l.sought.word label || holds (in_expr l.sought) when
  statement (st.Return e) = l.returned e
  statement (st.Raise raised) = false
  statement (st.Into strict targets query) =
      list_any (in_target l.sought) targets || in_select l.sought query
  statement st.Nothing = false

  abbrev pub branch : Arm-F Bool Bool → Bool
  branch a = in_expr l.sought a.test || any a.body

  abbrev pub looking : StatementAlgebra
  looking = record { AStmt = Bool; AnArm = Bool; stmt = statement; arm = branch }

  unfoldable pub in_stmt : Stmt → Bool
  in_stmt s = stmt_of looking s

  unfoldable pub in_branch : Arm → Bool
  in_branch a = branch_of looking a

-- ---- a word in files

abbrev pub is : Name → Name → Bool
is n m = bytes_eq m n

abbrev pub as_word : Name → Sought
as_word n = record { word = is n; called = is n }

-- calls of these functions, wherever they stand
abbrev pub calls_of : List Name → Sought
calls_of names = record { word = λ m. false; called = λ m. is_among m names }

-- names that are kept for the queries that are written
abbrev pub kept_words : Sought
kept_words = record { word = is_kept; called = is_kept }

abbrev pub by_word : Name → Looking
by_word n = record {
  sought = as_word n;
  assigned = in_expr (as_word n);
  returned = in_expr (as_word n);
}

module _ (n : Name) where
  abbrev pub in_param : Name × Ty → Bool
  in_param p = is n p.0

  abbrev pub in_function : Function → Bool
  in_function f = is n f.name || (list_any in_param f.params || in_stmt (by_word n) f.body)

  abbrev pub in_column : ColumnSchema → Bool
  in_column c = is n c.name

  abbrev pub in_table : TableSchema → Bool
  in_table t = is n t.name || list_any in_column t.columns

  abbrev pub in_schema : Schema → Bool
  in_schema s = list_any in_table s.tables

  -- in the schema, or in one of the functions
  unfoldable pub in_files : Schema → List Function → Bool
  in_files s fs = in_schema s || list_any in_function fs
