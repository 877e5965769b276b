-- What conversion leaves of statements. One induction serves every recursion over them: what two of them give of a statement and of the
-- converted one is related where each step keeps the relation.
use Rattle.std.proofs.Common.{sym, subst, ℕ, Bool, List, [], ◌∷◌, map, Option, Some, None, option_map}
use Rattle.away_trees.specs.declared.queries.Expr.{Expr}
use Rattle.away_trees.specs.declared.queries.Select.{Select}
use Rattle.away_trees.specs.declared.statements.Arm.{Arm}
use Rattle.away_trees.specs.declared.statements.Decl.{Decl}
use Rattle.away_trees.specs.declared.statements.LoopKind.{LoopKind}
use Rattle.away_trees.specs.declared.statements.Raised.{Raised}
use Rattle.away_trees.specs.declared.statements.Stmt.{Stmt}
use Rattle.away_trees.specs.declared.statements.Stmt.TheOpen as st
use Rattle.away_trees.specs.declared.statements.Stmt.TheBlock as b
use Rattle.away_trees.specs.StatementAlgebra.{StatementAlgebra, stmt_of, stmts_of, branches_of, else_of, branch_of}
use Rattle.away_trees.proofs.StatementEquations as eq
use Rattle.elaboration.specs.Converting.{Around, Target, all_by, converted, converted_to, converting, decls_converted, for_slot, into_converted, kind_converted, marked, maybe_marked, slot_type}

-- ---- item by item

-- as many, and each related to the one at its place
abbrev pub Beside : {A B : Type 0} → (A → B → Type 0) → List A → List B → Type 0
Beside R [] [] = Unit {0}
Beside R (x ∷ xs) (y ∷ ys) = R x y × Beside R xs ys
Beside R _ _ = ⊥

abbrev pub BesideOption : {A B : Type 0} → (A → B → Type 0) → Option A → Option B → Type 0
BesideOption R None None = Unit {0}
BesideOption R (Some x) (Some y) = R x y
BesideOption R _ _ = ⊥

abbrev Label : Type 0
Label = Option (List ℕ)

-- ---- that the steps keep a relation

pub record KeepsConverted (a : Around) (f g : StatementAlgebra) (R : f.AStmt → g.AStmt → Type 0) (S : f.AnArm → g.AnArm → Type 0) : Type 0 where
  pub block : (label : Label) (decls : List Decl) (xs : List f.AStmt) (ys : List g.AStmt) (closing : Label) → Beside R xs ys
      → R (f.stmt (st.Block label decls xs closing)) (g.stmt (st.Block label (decls_converted a decls) ys closing))
  pub assign : (name : List ℕ) (slot : Option ℕ) (e : Expr)
      → R (f.stmt (st.Assign name slot e)) (g.stmt (st.Assign name slot (for_slot (slot_type a slot) a.places e)))
  pub if_ : (xs : List f.AnArm) (ys : List g.AnArm) (o : Option (List f.AStmt)) (p : Option (List g.AStmt)) → Beside S xs ys → BesideOption (Beside R) o p
      → R (f.stmt (st.If xs o)) (g.stmt (st.If ys p))
  pub cases : (xs : List f.AnArm) (ys : List g.AnArm) (o : Option (List f.AStmt)) (p : Option (List g.AStmt)) → Beside S xs ys → BesideOption (Beside R) o p
      → R (f.stmt (st.Cases xs o)) (g.stmt (st.Cases ys p))
  pub loop : (label : Label) (k : LoopKind) (xs : List f.AStmt) (ys : List g.AStmt) (closing : Label) → Beside R xs ys
      → R (f.stmt (st.Loop label k xs closing)) (g.stmt (st.Loop label (kind_converted a k) ys closing))
  pub exit : (label : Label) (when : Option Expr) → R (f.stmt (st.Exit label when)) (g.stmt (st.Exit label (maybe_marked a.places when)))
  pub continue : (label : Label) (when : Option Expr) → R (f.stmt (st.Continue label when)) (g.stmt (st.Continue label (maybe_marked a.places when)))
  pub return : (e : Expr) → R (f.stmt (st.Return e)) (g.stmt (st.Return (converted_to a.result a.places e)))
  pub raise : (r : Raised) → R (f.stmt (st.Raise r)) (g.stmt (st.Raise r))
  pub into : (strict : Bool) (targets : List Target) (query : Select)
      → R (f.stmt (st.Into strict targets query)) (g.stmt (st.Into strict targets (into_converted a targets query)))
  pub nothing : R (f.stmt st.Nothing) (g.stmt st.Nothing)
  pub arm : (test : Expr) (xs : List f.AStmt) (ys : List g.AStmt) → Beside R xs ys
      → S (f.arm (record { test = test; body = xs })) (g.arm (record { test = marked a.places test; body = ys }))

module _ (a : Around) (f g : StatementAlgebra) (R : f.AStmt → g.AStmt → Type 0) (S : f.AnArm → g.AnArm → Type 0) (k : KeepsConverted a f g R S) where
  abbrev of_stmts : List Stmt → List g.AStmt
  of_stmts = map (λ x. stmt_of g x)

  abbrev of_arms : List Arm → List g.AnArm
  of_arms = map (λ x. branch_of g x)

  abbrev of_other : Option (List Stmt) → Option (List g.AStmt)
  of_other = option_map (λ body. of_stmts body)

  mutual
    stmt_kept : (x : Stmt) → R (stmt_of f x) (stmt_of g (stmt_of converting x a))
    stmt_kept (b.Block' label decls n body closing) =
        let ys = all_by a (stmts_of converting body) in
        subst (R (f.stmt (st.Block label decls (stmts_of f body) closing))) (sym (eq.of_block g label (decls_converted a decls) ys closing))
        (k.block label decls (stmts_of f body) (of_stmts ys) closing (stmts_kept body))
    stmt_kept (b.Assign name slot e) = k.assign name slot e
    stmt_kept (b.If' n arms o) =
        let ys = all_by a (branches_of converting arms) in
        let z = option_map (λ body. all_by a body) (else_of converting o) in
        subst (R (f.stmt (st.If (branches_of f arms) (else_of f o)))) (sym (eq.of_if g ys z))
        (k.if_ (branches_of f arms) (of_arms ys) (else_of f o) (of_other z) (branches_kept arms) (else_kept o))
    stmt_kept (b.Cases' n arms o) =
        let ys = all_by a (branches_of converting arms) in
        let z = option_map (λ body. all_by a body) (else_of converting o) in
        subst (R (f.stmt (st.Cases (branches_of f arms) (else_of f o)))) (sym (eq.of_cases g ys z))
        (k.cases (branches_of f arms) (of_arms ys) (else_of f o) (of_other z) (branches_kept arms) (else_kept o))
    stmt_kept (b.Loop' label l n body closing) =
        let ys = all_by a (stmts_of converting body) in
        subst (R (f.stmt (st.Loop label l (stmts_of f body) closing))) (sym (eq.of_loop g label (kind_converted a l) ys closing))
        (k.loop label l (stmts_of f body) (of_stmts ys) closing (stmts_kept body))
    stmt_kept (b.Exit label when) = k.exit label when
    stmt_kept (b.Continue label when) = k.continue label when
    stmt_kept (b.Return e) = k.return e
    stmt_kept (b.Raise raised) = k.raise raised
    stmt_kept (b.Into strict targets query) = k.into strict targets query
    stmt_kept b.Nothing = k.nothing

    stmts_kept : {m : _} (body : b.Row_of-Stmt m) → Beside R (stmts_of f body) (of_stmts (all_by a (stmts_of converting body)))
    stmts_kept b.end_of-Stmt = tt
    stmts_kept (b.more_of-Stmt x rest) = (stmt_kept x, stmts_kept rest)

    branches_kept : {m : _} (arms : b.Row_of-Arm m) → Beside S (branches_of f arms) (of_arms (all_by a (branches_of converting arms)))
    branches_kept b.end_of-Arm = tt
    branches_kept (b.more_of-Arm test n body rest) =
        (k.arm test (stmts_of f body) (of_stmts (all_by a (stmts_of converting body))) (stmts_kept body), branches_kept rest)

    else_kept : (o : b.Held-Stmt-If-1) → BesideOption (Beside R) (else_of f o) (of_other (option_map (λ body. all_by a body) (else_of converting o)))
    else_kept b.None' = tt
    else_kept (b.Some' n body) = stmts_kept body

  pub statement_kept : (x : Stmt) → R (stmt_of f x) (stmt_of g (converted a x))
  unfolding converted
  statement_kept x = stmt_kept x
