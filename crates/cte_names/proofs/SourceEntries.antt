-- What holds of each expression of a text, where the select of a SELECT INTO has some expressions, holds of others where it has others.
use Rattle.std.proofs.Common.{Bool, List, [], ◌∷◌, ◌++◌}
use Rattle.away_trees.specs.declared.queries.Expr.{Expr}
use Rattle.away_trees.specs.declared.queries.Select.{Select}
use Rattle.away_trees.specs.declared.statements.Stmt.{Stmt}
use Rattle.away_trees.specs.declared.statements.Stmt.TheBlock as b
use Rattle.away_trees.specs.StatementAlgebra.{stmt_of, stmts_of, branches_of, else_of}
use Rattle.select_into.specs.Entries.{Target}
use Rattle.block_forms.specs.Expressions.{Sources, Entries, sourcing, in_turn, defaults, of_kind, of_else, if_there}
use Rattle.block_forms.specs.Intos.{Into, selecting, row_intos, else_intos}
use Rattle.type_soundness.specs.Sorts.{Every}
use Rattle.type_soundness.proofs.Lists.{every_append, every_left, every_right}

module _ (E F : Entries) (P Q : Expr → Type 0) (R : Into → Type 0) (one : (e : Expr) → P e → Q e)
    (into : (strict : Bool) (targets : List Target) (query : Select) → R (record { targets = targets; query = query }) → Every P (E strict targets query) → Every Q (F strict targets query)) where
  all : (es : Sources) → Every P es → Every Q es
  all [] h = tt
  all (e ∷ es) h = (one e h.0, all es h.1)

  -- expressions before a row of statements
  before : (es xs ys : Sources) → (Every P xs → Every Q ys) → Every P (es ++ xs) → Every Q (es ++ ys)
  before es xs ys go h = every_append Q es ys (all es (every_left P es xs h)) (go (every_right P es xs h))

  -- two pieces one behind the other
  two : (is js : List Into) (xs ys us vs : Sources) → (Every R is → Every P xs → Every Q us) → (Every R js → Every P ys → Every Q vs) → Every R (is ++ js) → Every P (xs ++ ys) → Every Q (us ++ vs)
  two is js xs ys us vs go more r h = every_append Q us vs (go (every_left R is js r) (every_left P xs ys h)) (more (every_right R is js r) (every_right P xs ys h))

  mutual
    pub stmt_goes : (x : Stmt) → Every R (stmt_of selecting x) → Every P (stmt_of (sourcing E) x) → Every Q (stmt_of (sourcing F) x)
    stmt_goes (b.Block' label decls m body closing) r h =
        before (defaults decls) (in_turn (stmts_of (sourcing E) body)) (in_turn (stmts_of (sourcing F) body)) (λ h. row_goes body r h) h
    stmt_goes (b.Assign name slot e) r h = all (e ∷ []) h
    stmt_goes (b.If' m arms o) r h =
        two (row_intos (branches_of selecting arms)) (else_intos (else_of selecting o)) (in_turn (branches_of (sourcing E) arms)) (of_else (else_of (sourcing E) o)) (in_turn (branches_of (sourcing F) arms)) (of_else (else_of (sourcing F) o))
        (λ r h. arms_go arms r h) (λ r h. else_goes o r h) r h
    stmt_goes (b.Cases' m arms o) r h =
        two (row_intos (branches_of selecting arms)) (else_intos (else_of selecting o)) (in_turn (branches_of (sourcing E) arms)) (of_else (else_of (sourcing E) o)) (in_turn (branches_of (sourcing F) arms)) (of_else (else_of (sourcing F) o))
        (λ r h. arms_go arms r h) (λ r h. else_goes o r h) r h
    stmt_goes (b.Loop' label k m body closing) r h =
        before (of_kind k) (in_turn (stmts_of (sourcing E) body)) (in_turn (stmts_of (sourcing F) body)) (λ h. row_goes body r h) h
    stmt_goes (b.Exit label when) r h = all (if_there when) h
    stmt_goes (b.Continue label when) r h = all (if_there when) h
    stmt_goes (b.Return e) r h = all (e ∷ []) h
    stmt_goes (b.Raise raised) r h = tt
    stmt_goes (b.Into strict targets query) r h = into strict targets query r.0 h
    stmt_goes b.Nothing r h = tt

    row_goes : {m : _} (body : b.Row_of-Stmt m) → Every R (row_intos (stmts_of selecting body)) → Every P (in_turn (stmts_of (sourcing E) body)) → Every Q (in_turn (stmts_of (sourcing F) body))
    row_goes b.end_of-Stmt r h = tt
    row_goes (b.more_of-Stmt x rest) r h =
        two (stmt_of selecting x) (row_intos (stmts_of selecting rest)) (stmt_of (sourcing E) x) (in_turn (stmts_of (sourcing E) rest)) (stmt_of (sourcing F) x) (in_turn (stmts_of (sourcing F) rest))
        (λ r h. stmt_goes x r h) (λ r h. row_goes rest r h) r h

    arms_go : {m : _} (arms : b.Row_of-Arm m) → Every R (row_intos (branches_of selecting arms)) → Every P (in_turn (branches_of (sourcing E) arms)) → Every Q (in_turn (branches_of (sourcing F) arms))
    arms_go b.end_of-Arm r h = tt
    arms_go (b.more_of-Arm test m body rest) r h = (
      one test h.0,
      two (row_intos (stmts_of selecting body)) (row_intos (branches_of selecting rest)) (in_turn (stmts_of (sourcing E) body)) (in_turn (branches_of (sourcing E) rest)) (in_turn (stmts_of (sourcing F) body)) (in_turn (branches_of (sourcing F) rest))
          (λ r h. row_goes body r h) (λ r h. arms_go rest r h) r h.1,
    )

    else_goes : (o : b.Held-Stmt-If-1) → Every R (else_intos (else_of selecting o)) → Every P (of_else (else_of (sourcing E) o)) → Every Q (of_else (else_of (sourcing F) o))
    else_goes b.None' r h = tt
    else_goes (b.Some' m body) r h = row_goes body r h
