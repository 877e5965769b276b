-- What holds of each expression of a resolved text holds of others of the converted one: each is marked, under a cast or none, and the select of a SELECT INTO
-- has other expressions.
use Rattle.std.proofs.Common.{◌≡◌, sym, subst, Bool, true, false, List, [], ◌∷◌, ◌++◌, map, Option, Some, None, option_map}
use Rattle.std.specs.Prelude.{if◌then◌else◌}
use Rattle.away_values.specs.declared.types.Ty.{Ty}
use Rattle.away_trees.specs.declared.queries.Expr.{Expr}
use Rattle.away_trees.specs.declared.queries.Expr.TheVariants as expr
use Rattle.away_trees.specs.declared.queries.Select.{Select}
use Rattle.away_trees.specs.declared.statements.Arm.{Arm}
use Rattle.away_trees.specs.declared.statements.Decl.{Decl}
use Rattle.away_trees.specs.declared.statements.LoopKind.{LoopKind}
use Rattle.away_trees.specs.declared.statements.LoopKind.TheVariants as kind
use Rattle.away_trees.specs.declared.statements.Stmt.{Stmt}
use Rattle.away_trees.specs.declared.statements.Stmt.TheBlock as b
use Rattle.away_trees.specs.StatementAlgebra.{stmt_of, stmts_of, branches_of, branch_of, else_of}
use Rattle.away_trees.proofs.StatementEquations as eq
use Rattle.elaboration.specs.Converting.{Around, all_by, converted, converted_to, converting, converts, decls_converted, for_slot, into_converted, kind_converted, marked, maybe_converted, maybe_marked, slot_type}
use Rattle.elaboration.specs.Elaborating.{elaborated}
use Rattle.select_into.specs.Entries.{Target}
use Rattle.block_forms.specs.Expressions.{Sources, Entries, sourcing, in_turn, defaults, of_kind, of_else, if_there}
use Rattle.block_forms.specs.Intos.{Into, selecting, row_intos, else_intos}
use Rattle.type_soundness.specs.Sorts.{Every}
use Rattle.type_soundness.proofs.Lists.{every_append, every_left, every_right}

module _ (E F : Entries) (P Q : Expr → Type 0) (R : Into → Type 0) (a : Around)
    (marked_goes : (e : Expr) → P e → Q (marked a.places e))
    (cast_goes : (t : Ty) (e : Expr) → P e → Q (expr.Cast (marked a.places e) t))
    (into_goes : (strict : Bool) (targets : List Target) (query : Select) → R (record { targets = targets; query = into_converted a targets query }) → Every P (E strict targets query)
    → Every Q (F strict targets (into_converted a targets query))) where
  -- ---- expressions

  cast_or_marked : (t : Ty) (e : Expr) → P e → (c : Bool) → Q (if c then expr.Cast (marked a.places e) t else marked a.places e)
  cast_or_marked t e h true = cast_goes t e h
  cast_or_marked t e h false = marked_goes e h

  to_goes : (t : Ty) (e : Expr) → P e → Q (converted_to t a.places e)
  unfolding converted_to
  to_goes t e h = cast_or_marked t e h (converts t (elaborated a.places e).kind)

  for_goes : (o : Option Ty) (e : Expr) → P e → Q (for_slot o a.places e)
  for_goes None e h = marked_goes e h
  for_goes (Some t) e h = to_goes t e h

  maybe_goes : (o : Option Expr) → Every P (if_there o) → Every Q (if_there (maybe_marked a.places o))
  maybe_goes None h = tt
  maybe_goes (Some e) h = (marked_goes e h.0, tt)

  maybe_to_goes : (t : Ty) (o : Option Expr) → Every P (if_there o) → Every Q (if_there (maybe_converted t a.places o))
  maybe_to_goes t None h = tt
  maybe_to_goes t (Some e) h = (to_goes t e h.0, tt)

  defaults_go : (ds : List Decl) → Every P (defaults ds) → Every Q (defaults (decls_converted a ds))
  defaults_go [] h = tt
  defaults_go (d ∷ ds) h =
      every_append Q (if_there (maybe_converted d.ty a.places d.default)) (defaults (decls_converted a ds)) (maybe_to_goes d.ty d.default (every_left P (if_there d.default) (defaults ds) h))
      (defaults_go ds (every_right P (if_there d.default) (defaults ds) h))

  kind_goes : (k : LoopKind) → Every P (of_kind k) → Every Q (of_kind (kind_converted a k))
  kind_goes kind.Plain h = tt
  kind_goes (kind.While e) h = (marked_goes e h.0, tt)
  kind_goes (kind.Count var reverse first last step) h = (to_goes a.counter first h.0, (to_goes a.counter last h.1.0, maybe_to_goes a.counter step h.1.1))

  -- ---- statements by their parts

  abbrev of_stmts : List Stmt → Sources
  of_stmts xs = in_turn (map (λ x. stmt_of (sourcing F) x) xs)

  abbrev of_arms : List Arm → Sources
  of_arms xs = in_turn (map (λ x. branch_of (sourcing F) x) xs)

  abbrev of_other : Option (List Stmt) → Sources
  of_other o = of_else (option_map (λ body. map (λ x. stmt_of (sourcing F) x) body) o)

  abbrev stmts_intos : List Stmt → List Into
  stmts_intos xs = row_intos (map (λ x. stmt_of selecting x) xs)

  abbrev arms_intos : List Arm → List Into
  arms_intos xs = row_intos (map (λ x. branch_of selecting x) xs)

  abbrev other_intos : Option (List Stmt) → List Into
  other_intos o = else_intos (option_map (λ body. map (λ x. stmt_of selecting x) body) o)

  by : (u v : Sources) → u ≡ v → Every Q v → Every Q u
  by u v e h = subst (Every Q) (sym e) h

  intos_by : (u v : List Into) → u ≡ v → Every R u → Every R v
  intos_by u v e r = subst (Every R) e r

  -- expressions before a row of statements
  before : (es fs xs ys : Sources) → (Every P es → Every Q fs) → (Every P xs → Every Q ys) → Every P (es ++ xs) → Every Q (fs ++ ys)
  before es fs xs ys first go h = every_append Q fs ys (first (every_left P es xs h)) (go (every_right P es xs h))

  -- two pieces one behind the other
  two : (is js : List Into) (xs ys us vs : Sources) → (Every R is → Every P xs → Every Q us) → (Every R js → Every P ys → Every Q vs) → Every R (is ++ js) → Every P (xs ++ ys) → Every Q (us ++ vs)
  two is js xs ys us vs go more r h = every_append Q us vs (go (every_left R is js r) (every_left P xs ys h)) (more (every_right R is js r) (every_right P xs ys h))

  mutual
    pub stmt_goes : (x : Stmt) → Every R (stmt_of selecting (stmt_of converting x a)) → Every P (stmt_of (sourcing E) x) → Every Q (stmt_of (sourcing F) (stmt_of converting x a))
    stmt_goes (b.Block' label decls m body closing) r h =
        let ys = all_by a (stmts_of converting body) in
        let ds = decls_converted a decls in
        by _ _ (eq.of_block (sourcing F) label ds ys closing)
        (before (defaults decls) (defaults ds) (in_turn (stmts_of (sourcing E) body)) (of_stmts ys) (λ h. defaults_go decls h) (λ h. row_goes body (intos_by _ _ (eq.of_block selecting label ds ys closing) r) h) h)
    stmt_goes (b.Assign name slot e) r h = (for_goes (slot_type a slot) e h.0, tt)
    stmt_goes (b.If' m arms o) r h =
        let ys = all_by a (branches_of converting arms) in
        let z = option_map (λ body. all_by a body) (else_of converting o) in
        by _ _ (eq.of_if (sourcing F) ys z)
        (two (arms_intos ys) (other_intos z) (in_turn (branches_of (sourcing E) arms)) (of_else (else_of (sourcing E) o)) (of_arms ys) (of_other z) (λ r h. arms_go arms r h) (λ r h. else_goes o r h) (intos_by _ _ (eq.of_if selecting ys z) r) h)
    stmt_goes (b.Cases' m arms o) r h =
        let ys = all_by a (branches_of converting arms) in
        let z = option_map (λ body. all_by a body) (else_of converting o) in
        by _ _ (eq.of_cases (sourcing F) ys z)
        (two (arms_intos ys) (other_intos z) (in_turn (branches_of (sourcing E) arms)) (of_else (else_of (sourcing E) o)) (of_arms ys) (of_other z) (λ r h. arms_go arms r h) (λ r h. else_goes o r h) (intos_by _ _ (eq.of_cases selecting ys z) r) h)
    stmt_goes (b.Loop' label k m body closing) r h =
        let ys = all_by a (stmts_of converting body) in
        let l = kind_converted a k in
        by _ _ (eq.of_loop (sourcing F) label l ys closing)
        (before (of_kind k) (of_kind l) (in_turn (stmts_of (sourcing E) body)) (of_stmts ys) (λ h. kind_goes k h) (λ h. row_goes body (intos_by _ _ (eq.of_loop selecting label l ys closing) r) h) h)
    stmt_goes (b.Exit label when) r h = maybe_goes when h
    stmt_goes (b.Continue label when) r h = maybe_goes when h
    stmt_goes (b.Return e) r h = (to_goes a.result e h.0, tt)
    stmt_goes (b.Raise raised) r h = tt
    stmt_goes (b.Into strict targets query) r h = into_goes strict targets query r.0 h
    stmt_goes b.Nothing r h = tt

    row_goes : {m : _} (body : b.Row_of-Stmt m) → Every R (stmts_intos (all_by a (stmts_of converting body))) → Every P (in_turn (stmts_of (sourcing E) body)) → Every Q (of_stmts (all_by a (stmts_of converting body)))
    row_goes b.end_of-Stmt r h = tt
    row_goes (b.more_of-Stmt x rest) r h =
        let y = stmt_of converting x a in
        let ys = all_by a (stmts_of converting rest) in
        two (stmt_of selecting y) (stmts_intos ys) (stmt_of (sourcing E) x) (in_turn (stmts_of (sourcing E) rest)) (stmt_of (sourcing F) y) (of_stmts ys) (λ r h. stmt_goes x r h) (λ r h. row_goes rest r h) r h

    arms_go : {m : _} (arms : b.Row_of-Arm m) → Every R (arms_intos (all_by a (branches_of converting arms))) → Every P (in_turn (branches_of (sourcing E) arms)) → Every Q (of_arms (all_by a (branches_of converting arms)))
    arms_go b.end_of-Arm r h = tt
    arms_go (b.more_of-Arm test m body rest) r h =
        let ys = all_by a (stmts_of converting body) in
        let zs = all_by a (branches_of converting rest) in (
          marked_goes test h.0,
          two (stmts_intos ys) (arms_intos zs) (in_turn (stmts_of (sourcing E) body)) (in_turn (branches_of (sourcing E) rest)) (of_stmts ys) (of_arms zs) (λ r h. row_goes body r h) (λ r h. arms_go rest r h) r h.1,
        )

    else_goes : (o : b.Held-Stmt-If-1) → Every R (other_intos (option_map (λ body. all_by a body) (else_of converting o))) → Every P (of_else (else_of (sourcing E) o))
        → Every Q (of_other (option_map (λ body. all_by a body) (else_of converting o)))
    else_goes b.None' r h = tt
    else_goes (b.Some' m body) r h = row_goes body r h

  pub converted_goes : (x : Stmt) → Every R (stmt_of selecting (converted a x)) → Every P (stmt_of (sourcing E) x) → Every Q (stmt_of (sourcing F) (converted a x))
  unfolding converted
  converted_goes x r h = stmt_goes x r h
