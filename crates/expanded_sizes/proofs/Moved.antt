-- What a recursion over statements that gives numbers gives for a body with new names: what another gives for the body as it was, where the steps of the
-- two agree.
use Rattle.std.proofs.Common.{◌≡◌, refl, sym, ap, ◌∙◌, ℕ, Bool, List, [], ◌∷◌, ◌++◌, fold, map, Option, Some, option_map}
use Rattle.std.proofs.lemmas.List.{append-nil}
use Rattle.away_trees.specs.declared.queries.Expr.{Expr}
use Rattle.away_trees.specs.declared.queries.Select.{Select}
use Rattle.away_trees.specs.declared.statements.Arm.{Arm}
use Rattle.away_trees.specs.declared.statements.Decl.{Decl}
use Rattle.away_trees.specs.declared.statements.LoopKind.{LoopKind}
use Rattle.away_trees.specs.declared.statements.Raised.{Raised}
use Rattle.away_trees.specs.declared.statements.Stmt.{Stmt}
use Rattle.away_trees.specs.declared.statements.Stmt.TheBlock as b
use Rattle.away_trees.specs.declared.statements.Stmt.TheOpen as st
use Rattle.away_trees.specs.StatementAlgebra.{StatementAlgebra, stmt_of, stmts_of, branch_of, branches_of, else_of}
use Rattle.away_trees.specs.StatementEquations.{StatementSteps, statement_algebra}
use Rattle.away_trees.proofs.StatementEquations.{of_block, of_loop, of_if, of_cases}
use Rattle.away_names.specs.declared.scope.Variable.{Variable}
use Rattle.away_names.specs.Lookups.{Name}
use Rattle.call_expand.specs.declared.made.Made.{Made}
use Rattle.call_expand.specs.declared.made.Seen.{Seen}
use Rattle.call_expand.specs.Moving as m
use Rattle.call_expand.specs.Moving.{By, moving}
use Rattle.moved_names.specs.Renamed.{maybe_moved, moved, renamed_select}

-- The steps agree: on the parts of a statement that are moved, and on what places become.
pub record Agree (names : List Name) (p q : StatementSteps ℕ ℕ) (assigned : Name → Expr → By Stmt) (returned : Expr → By Stmt) : Type 0 where
  pub block : (label l : Option Name) (decls : List Decl) (variables : List Variable) (k : ℕ) (xs : List ℕ) (closing c : Option Name)
      → p.stmt (st.Block l (m.moved_decls names decls variables k).it xs c) ≡ q.stmt (st.Block label decls xs closing)
  pub assign : (n : Name) (slot : Option ℕ) (e : Expr) (seen : Seen) (k : ℕ) → stmt_of (statement_algebra p) (assigned n e seen k).it ≡ q.stmt
      (st.Assign n slot e)
  pub if_ : (xs : List ℕ) (other : Option (List ℕ)) → p.stmt (st.If xs other) ≡ q.stmt (st.If xs other)
  pub cases : (xs : List ℕ) (other : Option (List ℕ)) → p.stmt (st.Cases xs other) ≡ q.stmt (st.Cases xs other)
  pub loop : (label l : Option Name) (kind : LoopKind) (seen : Seen) (k : ℕ) (xs : List ℕ) (closing c : Option Name)
      → p.stmt (st.Loop l (m.moved_head names kind seen k) xs c) ≡ q.stmt (st.Loop label kind xs closing)
  pub exit : (label l : Option Name) (variables : List Variable) (when : Option Expr) → p.stmt (st.Exit l (m.maybe_expr names variables when)) ≡ q.stmt
      (st.Exit label when)
  pub continue : (label l : Option Name) (variables : List Variable) (when : Option Expr)
      → p.stmt (st.Continue l (m.maybe_expr names variables when)) ≡ q.stmt (st.Continue label when)
  pub return : (e : Expr) (seen : Seen) (k : ℕ) → stmt_of (statement_algebra p) (returned e seen k).it ≡ q.stmt (st.Return e)
  pub raise : (r : Raised) → p.stmt (st.Raise r) ≡ q.stmt (st.Raise r)
  pub into : (strict : Bool) (targets : List (Name × Option ℕ)) (variables : List Variable) (query : Select)
      → p.stmt (st.Into strict (map (m.moved_target names variables) targets) (renamed_select (moved names variables) query)) ≡ q.stmt
      (st.Into strict targets query)
  pub nothing : p.stmt st.Nothing ≡ q.stmt st.Nothing
  pub arm : (test : Expr) (variables : List Variable) (xs : List ℕ)
      → p.arm (record { test = m.moved_expr names variables test; body = xs }) ≡ q.arm (record { test = test; body = xs })

behind : {A : Type 0} (f : A → ℕ) (xs : List A) (x : A) (n : ℕ) (ns : List ℕ) → f x ≡ n → map f (xs ++ x ∷ []) ++ ns ≡ map f xs ++ (n ∷ ns)
behind f [] x n ns e = ap (λ y. y ∷ ns) e
behind f (y ∷ ys) x n ns e = ap (λ zs. f y ∷ zs) (behind f ys x n ns e)

module _ (names : List Name) (p q : StatementSteps ℕ ℕ) (assigned : Name → Expr → By Stmt) (returned : Expr
    → By Stmt) (agree : Agree names p q assigned returned) where
  abbrev M : StatementAlgebra
  M = moving names assigned returned

  abbrev P : StatementAlgebra
  P = statement_algebra p

  abbrev Q : StatementAlgebra
  Q = statement_algebra q

  abbrev each_from : Made (List Stmt) → Seen → List (By Stmt) → Made (List Stmt)
  each_from a seen fs = fold (λ a f. m.with_made a (f seen a.next)) a fs

  abbrev arms_from : Made (List Arm) → Seen → List (By Arm) → Made (List Arm)
  arms_from a seen fs = fold (λ a f. m.with_made a (f seen a.next)) a fs

  mutual
    pub moved_same : (s : Stmt) (seen : Seen) (k : ℕ) → stmt_of P (stmt_of M s seen k).it ≡ stmt_of Q s
    moved_same (b.Block' label decls s body closing) seen k =
        let inner = m.with_label label k seen in
        let ds = m.moved_decls names decls inner.variables (m.past_label label k) in
        let xs = m.each_made (stmts_of M body) (m.seeing ds.variables inner) ds.next in
        let l = m.new_label names label k in
        let c = maybe_moved names inner.labels closing in
        of_block P l ds.it xs.it c
        ∙ (ap (λ ns. p.stmt (st.Block l ds.it ns c)) (rows_same body (m.seeing ds.variables inner) (m.made [] ds.next))
        ∙ agree.block label l decls inner.variables (m.past_label label k) (stmts_of Q body) closing c)
    moved_same (b.Assign name slot e) seen k = agree.assign name slot e seen k
    moved_same (b.If' s arms other) seen k =
        let xs = m.each_made (branches_of M arms) seen k in
        of_if P xs.it (m.maybe_made (m.other_by (else_of M other)) seen xs.next).it
        ∙ ((λ i. p.stmt (st.If (arms_same arms seen (m.made [] k) i) (else_same other seen xs.next i))) ∙ agree.if_ (branches_of Q arms) (else_of Q other))
    moved_same (b.Cases' s arms other) seen k =
        let xs = m.each_made (branches_of M arms) seen k in
        of_cases P xs.it (m.maybe_made (m.other_by (else_of M other)) seen xs.next).it
        ∙ ((λ i. p.stmt (st.Cases (arms_same arms seen (m.made [] k) i) (else_same other seen xs.next i))) ∙ agree.cases (branches_of Q arms) (else_of Q other))
    moved_same (b.Loop' label kind s body closing) seen k =
        let inner = m.with_label label k seen in
        let at = m.past_label label k in
        let head = m.moved_head names kind seen at in
        let xs = m.each_made (stmts_of M body) (m.in_loop kind inner at) (m.past_head kind at) in
        let l = m.new_label names label k in
        let c = maybe_moved names inner.labels closing in
        of_loop P l head xs.it c
        ∙ (ap (λ ns. p.stmt (st.Loop l head ns c)) (rows_same body (m.in_loop kind inner at) (m.made [] (m.past_head kind at)))
        ∙ agree.loop label l kind seen at (stmts_of Q body) closing c)
    moved_same (b.Exit label when) seen k = agree.exit label (maybe_moved names seen.labels label) seen.variables when
    moved_same (b.Continue label when) seen k = agree.continue label (maybe_moved names seen.labels label) seen.variables when
    moved_same (b.Return e) seen k = agree.return e seen k
    moved_same (b.Raise raised) seen k = agree.raise raised
    moved_same (b.Into strict targets query) seen k = agree.into strict targets seen.variables query
    moved_same b.Nothing seen k = agree.nothing

    rows_same : {n : _} → (r : b.Row_of-Stmt n) (seen : Seen) (a : Made (List Stmt)) → map (λ s. stmt_of P s) (each_from a seen (stmts_of M r)).it ≡ map
        (λ s. stmt_of P s) a.it ++ stmts_of Q r
    rows_same b.end_of-Stmt seen a = sym (append-nil (map (λ s. stmt_of P s) a.it))
    rows_same (b.more_of-Stmt s rest) seen a =
        rows_same rest seen (m.with_made a (stmt_of M s seen a.next))
        ∙ behind (λ s. stmt_of P s) a.it (stmt_of M s seen a.next).it (stmt_of Q s) (stmts_of Q rest) (moved_same s seen a.next)

    arms_same : {n : _} → (r : b.Row_of-Arm n) (seen : Seen) (a : Made (List Arm)) → map (λ x. branch_of P x) (arms_from a seen
        (branches_of M r)).it ≡ map (λ x. branch_of P x) a.it ++ branches_of Q r
    arms_same b.end_of-Arm seen a = sym (append-nil (map (λ x. branch_of P x) a.it))
    arms_same (b.more_of-Arm test s body rest) seen a =
        let x = M.arm (record { test = test; body = stmts_of M body }) seen a.next in
        arms_same rest seen (m.with_made a x)
        ∙ behind (λ x. branch_of P x) a.it x.it (q.arm (record { test = test; body = stmts_of Q body })) (branches_of Q rest)
        (ap (λ ns. p.arm (record { test = m.moved_expr names seen.variables test; body = ns })) (rows_same body seen (m.made [] a.next))
        ∙ agree.arm test seen.variables (stmts_of Q body))

    else_same : (r : b.Held-Stmt-If-1) (seen : Seen) (k : ℕ) → option_map (λ xs. map (λ s. stmt_of P s) xs) (m.maybe_made (m.other_by
        (else_of M r)) seen k).it ≡ else_of Q r
    else_same b.None' seen k = refl
    else_same (b.Some' s body) seen k = ap (λ ns. Some ns) (rows_same body seen (m.made [] k))
