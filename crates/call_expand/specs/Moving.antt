-- A body with new names. Parameters, variables and labels have the names of a list, in the order of
-- the text; what an assignment and a RETURN become is given.
use Rattle.std.specs.Prelude.{
  ℕ,
  suc,
  false,
  List,
  [],
  ◌∷◌,
  ◌++◌,
  fold,
  map,
  Option,
  Some,
  None,
  option_map,
}
use Rattle.away_values.specs.declared.types.Ty.{Ty}
use Rattle.away_trees.specs.declared.queries.Expr.{Expr}
use Rattle.away_trees.specs.declared.statements.Arm.{Arm}
use Rattle.away_trees.specs.declared.statements.Decl.{Decl}
use Rattle.away_trees.specs.declared.statements.LoopKind.{LoopKind}
use Rattle.away_trees.specs.declared.statements.LoopKind.TheVariants as kind
use Rattle.away_trees.specs.declared.statements.Stmt.{Stmt}
use Rattle.away_trees.specs.declared.statements.Stmt.TheVariants as stmt
use Rattle.away_trees.specs.declared.statements.Stmt.TheOpen.{Stmt-F, Arm-F}
use Rattle.away_trees.specs.declared.statements.Stmt.TheOpen as st
use Rattle.away_trees.specs.StatementAlgebra.{StatementAlgebra}
use Rattle.away_trees.specs.StatementEquations.{statement_algebra}
use Rattle.away_names.specs.declared.scope.Variable.{Variable}
use Rattle.away_names.specs.Lookups.{Name}
use Rattle.call_expand.specs.declared.made.Made.{Made}
use Rattle.call_expand.specs.declared.made.Seen.{Seen}
use Rattle.call_expand.specs.declared.made.Declared.{Declared}
use Rattle.moved_names.specs.Renamed.{
  name_at,
  moved,
  maybe_moved,
  renamed_expr,
  renamed_select,
}

abbrev pub made : {A : Type 0} → A → ℕ → Made A
made x k = record { it = x; next = k }

abbrev pub By : Type 0 → Type 0
By A = Seen → ℕ → Made A

abbrev pub with_made : {A : Type 0} → Made (List A) → Made A → Made (List A)
with_made a x = record { it = a.it ++ x.it ∷ []; next = x.next }

abbrev pub each_made : {A : Type 0} → List (By A) → By (List A)
each_made fs seen k = fold (λ a f. with_made a (f seen a.next)) (made [] k) fs

abbrev pub maybe_made : {A : Type 0} → Option (By A) → By (Option A)
maybe_made None seen k = made None k
maybe_made (Some f) seen k = let x = f seen k in record { it = Some x.it; next = x.next }

abbrev pub other_by : Option (List (By Stmt)) → Option (By (List Stmt))
other_by None = None
other_by (Some body) = Some (each_made body)

-- ---- names in sight

abbrev pub with_name : Name → ℕ → List Variable → List Variable
with_name n k seen = seen ++ record { name = n; slot = k; constant = false } ∷ []

-- names one behind the other, from a place on
abbrev pub with_names : List Name → ℕ → List Variable → List Variable
with_names [] k seen = seen
with_names (n ∷ ns) k seen = with_names ns (suc k) (with_name n k seen)

abbrev pub with_label : Option Name → ℕ → Seen → Seen
with_label None k seen = seen
with_label (Some l) k seen = record seen { labels = with_name l k seen.labels }

-- behind a label
abbrev pub past_label : Option Name → ℕ → ℕ
past_label None k = k
past_label (Some l) k = suc k

abbrev pub seeing : List Variable → Seen → Seen
seeing variables seen = record seen { variables = variables }

-- what the body of a loop sees, whose variable has the name at a place
abbrev pub in_loop : LoopKind → Seen → ℕ → Seen
in_loop kind.Plain seen k = seen
in_loop (kind.While e) seen k = seen
in_loop (kind.Count var reverse first last step) seen k =
    record seen { variables = with_name var k seen.variables }

abbrev pub past_head : LoopKind → ℕ → ℕ
past_head kind.Plain k = k
past_head (kind.While e) k = k
past_head (kind.Count var reverse first last step) k = suc k

module _ (names : List Name) where
  abbrev pub moved_expr : List Variable → Expr → Expr
  moved_expr variables e = renamed_expr (moved names variables) e

  abbrev pub maybe_expr : List Variable → Option Expr → Option Expr
  maybe_expr variables = option_map (moved_expr variables)

  -- ---- declarations and heads

  -- a default sees the declarations before it
  abbrev pub moved_decl : List Variable → ℕ → Decl → Decl
  moved_decl variables k d = record {
    name = name_at names k;
    ty = d.ty;
    constant = d.constant;
    not_null = d.not_null;
    default = maybe_expr variables d.default;
  }

  abbrev pub with_decl : Declared → Decl → Declared
  with_decl a d = record {
    it = a.it ++ moved_decl a.variables a.next d ∷ [];
    variables = with_name d.name a.next a.variables;
    next = suc a.next;
  }

  abbrev pub moved_decls : List Decl → List Variable → ℕ → Declared
  moved_decls ds variables k =
      fold with_decl (record { it = []; variables = variables; next = k }) ds

  -- the head of a loop, whose variable has the name at a place
  abbrev pub moved_head : LoopKind → Seen → ℕ → LoopKind
  moved_head kind.Plain seen k = kind.Plain
  moved_head (kind.While e) seen k = kind.While (moved_expr seen.variables e)
  moved_head (kind.Count var reverse first last step) seen k =
      kind.Count (name_at names k) reverse (moved_expr seen.variables first)
      (moved_expr seen.variables last) (maybe_expr seen.variables step)

  -- ---- statements

  -- the new name of a label, where there is one
  abbrev pub new_label : Option Name → ℕ → Option Name
  new_label None k = None
  new_label (Some l) k = Some (name_at names k)

  abbrev pub block_with : Option Name → Option Name → ℕ → Seen → Declared → Made (List Stmt)
      → Made Stmt
  block_with label closing k seen ds body = record {
    it = stmt.Block (new_label label k) ds.it body.it
        (maybe_moved names (with_label label k seen).labels closing);
    next = body.next;
  }

  abbrev pub loop_with : Option Name → Option Name → ℕ → Seen → LoopKind → Made (List Stmt)
      → Made Stmt
  loop_with label closing k seen head body = record {
    it = stmt.Loop (new_label label k) head body.it
        (maybe_moved names (with_label label k seen).labels closing);
    next = body.next;
  }

  abbrev pub branching : (List Arm → Option (List Stmt) → Stmt) → List (By Arm)
      → Option (List (By Stmt)) → By Stmt
  branching form arms other seen k =
      let xs = each_made arms seen k in
      let y = maybe_made (other_by other) seen xs.next in
      record { it = form xs.it y.it; next = y.next }

  abbrev pub moved_target : List Variable → Name × Option ℕ → Name × Option ℕ
  moved_target variables t = (moved names variables t.0, None)

  module _ (assigned : Name → Expr → By Stmt) (returned : Expr → By Stmt) where
    abbrev pub statement : Stmt-F (By Stmt) (By Arm) → By Stmt
    statement (st.Block label decls body closing) seen k =
        let inner = with_label label k seen in
        let ds = moved_decls decls inner.variables (past_label label k) in
        block_with label closing k seen ds (each_made body (seeing ds.variables inner) ds.next)
    statement (st.Assign name slot e) seen k = assigned name e seen k
    statement (st.If arms other) seen k = branching
        (λ arms other. stmt.If arms other) arms other seen k
    statement (st.Cases arms other) seen k = branching
        (λ arms other. stmt.Cases arms other) arms other seen k
    statement (st.Loop label head body closing) seen k =
        let inner = with_label label k seen in
        let at = past_label label k in
        loop_with label closing k seen (moved_head head seen at)
        (each_made body (in_loop head inner at) (past_head head at))
    statement (st.Exit label when) seen k =
        made (stmt.Exit (maybe_moved names seen.labels label) (maybe_expr seen.variables when)) k
    statement (st.Continue label when) seen k =
        made (stmt.Continue (maybe_moved names seen.labels label)
        (maybe_expr seen.variables when)) k
    statement (st.Return e) seen k = returned e seen k
    statement (st.Raise r) seen k = made (stmt.Raise r) k
    statement (st.Into strict targets query) seen k =
        made (stmt.Into strict (map (moved_target seen.variables) targets)
        (renamed_select (moved names seen.variables) query)) k
    statement st.Nothing seen k = made stmt.Nothing k

    abbrev pub arm : Arm-F (By Stmt) (By Arm) → By Arm
    arm a seen k =
        let xs = each_made a.body seen k in
        record {
          it = record { test = moved_expr seen.variables a.test; body = xs.it };
          next = xs.next;
        }

    abbrev pub moving : StatementAlgebra
    moving = statement_algebra (record { stmt = statement; arm = arm })

-- ---- parameters

abbrev pub moved_params : List Name → ℕ → List (Name × Ty) → List (Name × Ty)
moved_params names k [] = []
moved_params names k (p ∷ ps) = (name_at names k, p.1) ∷ moved_params names (suc k) ps

-- what a body sees where its parameters have the names from a place on
abbrev pub seeing_params : ℕ → List (Name × Ty) → Seen
seeing_params k params = record {
  variables = with_names (map (λ p. p.0) params) k [];
  labels = [];
}
