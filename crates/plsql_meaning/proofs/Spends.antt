-- No statement gives turns back, so the fuel of a loop never runs out before its turns do; and the equation of loops that follows.
use Rattle.std.proofs.Common.{◌≡◌, refl, pos, ℕ, zero, suc, ◌+◌, ◌<◌, ◌≤◌, Bool, true, false, ◌&&◌, List, [], ◌∷◌, length, map, Option, Some, None, Ok, Err, arith}
use Rattle.away_values.specs.declared.values.Value.{Value}
use Rattle.away_values.specs.declared.values.Value.TheVariants as val
use Rattle.away_trees.specs.declared.queries.Expr.{Expr}
use Rattle.away_trees.specs.declared.statements.Decl.{Decl}
use Rattle.away_trees.specs.declared.statements.LoopKind.{LoopKind}
use Rattle.away_trees.specs.declared.statements.LoopKind.TheVariants as kind
use Rattle.away_trees.specs.declared.statements.Stmt.{Stmt}
use Rattle.away_trees.specs.declared.statements.Stmt.TheBlock as b
use Rattle.away_trees.specs.StatementAlgebra.{stmt_of, stmts_of, branches_of, else_of}
use Rattle.away_values.specs.Operators.{is_true, is_null, compare}
use Rattle.away_values.specs.declared.operators.CmpOp.TheVariants as cmp
use Rattle.away_values.specs.Results.{Or}
use Rattle.sql_meaning.specs.Context.{Rows}
use Rattle.plsql_meaning.specs.Outcomes.{Env, Label, Outcome, normal, exits, continues, returns, faults, more, Done, done, Step, after, and_then, case_not_found}
use Rattle.plsql_meaning.specs.Loops.{Turning, started, Verdict, again, leave, verdict, moved, ended, finished, turns, turning, always, while, counts}
use Rattle.away_values.specs.declared.types.Ty.{Ty}
use Rattle.away_trees.specs.declared.queries.Expr.TheViews.{out-Select}
use Rattle.plsql_meaning.specs.Conversions.{conversions, converted_row}
use Rattle.plsql_meaning.specs.Statements.{Setting, is_not_null, stored, put, assign, initial, declare, pick, choose, jump, give, in_row, in_arms, in_else, bounded, with_bound, judged, with_step, loop, put_all, put_converted, put_row, head_or_null, rest_of, into_as, running}

abbrev pub Spends : Step → Type 0
Spends f = (env : Env) (n : ℕ) → (f env n).left ≤ n

stays : (o : Outcome) → Spends (done o)
stays o env n = omega arith

and_then_spends : (n : ℕ) (d : Done) (s : Step) → d.left ≤ n → Spends s → (and_then d s).left ≤ n
and_then_spends n d s le q = go d.outcome
  where
    go : (o : Outcome) → (after o d.env d.left s).left ≤ n
    go normal = omega (arith, q d.env d.left)
    go (exits l) = le
    go (continues l) = le
    go (returns v) = le
    go (faults c) = le
    go more = le

-- ---- loops

module _ {S : Type 0} where
  module _ (t : Turning S) (own : Label) (body : Step) (steady : Spends body) where
    finished_spends : (r : Or (Option S)) (rest : S → Step) (d : Done) (n : ℕ) → d.left ≤ n → ((z : S) (e : Env) (m : ℕ) → (rest z e m).left ≤ m) → (finished own r rest d).left ≤ n
    finished_spends r rest d n le p = go (verdict own d.outcome)
      where
        move : (r : Or (Option S)) → (moved r rest d.env d.left).left ≤ n
        move (Err c) = le
        move (Ok None) = le
        move (Ok (Some z)) = omega (arith, p z d.env d.left)

        go : (v : Verdict) → (ended v r rest d.env d.left).left ≤ n
        go again = move r
        go (leave o) = le

    turns_spend : (fuel : ℕ) (z : S) (env : Env) (n : ℕ) → (turns t own body fuel z env n).left ≤ n
    turns_spend zero z env n = omega arith
    turns_spend (suc fuel) z env n = start (λ z e m. turns_spend fuel z e m) (t.begin z env) n
      where
        start : ((z : S) (e : Env) (m : ℕ) → (turns t own body fuel z e m).left ≤ m) → (r : Or (Option Env)) (n : ℕ) → (started r env n (λ begun m. finished own (t.next z) (turns t own body fuel) (body begun m))).left ≤ n
        start p (Err c) n = omega arith
        start p (Ok None) n = omega arith
        start p (Ok (Some begun)) zero = omega arith
        start p (Ok (Some begun)) (suc n) = finished_spends (t.next z) (turns t own body fuel) (body begun n) (suc n) (omega (arith, steady begun n)) p

    -- what comes after a turn matters only at the turns that are left there
    finished_alike : (r : Or (Option S)) (rest rest' : S → Step) (d : Done) → ((z : S) (e : Env) → rest z e d.left ≡ rest' z e d.left) → finished own r rest d ≡ finished own r rest' d
    finished_alike r rest rest' d same = go (verdict own d.outcome)
      where
        move : (r : Or (Option S)) → moved r rest d.env d.left ≡ moved r rest' d.env d.left
        move (Err c) = refl
        move (Ok None) = refl
        move (Ok (Some z)) = same z d.env

        go : (v : Verdict) → ended v r rest d.env d.left ≡ ended v r rest' d.env d.left
        go again = move r
        go (leave o) = refl

    any_fuel : (fuel fuel' : ℕ) (z : S) (env : Env) (n : ℕ) → n < fuel → n < fuel' → turns t own body fuel z env n ≡ turns t own body fuel' z env n
    any_fuel zero fuel' z env n lt lt' = absurd (omega arith)
    any_fuel (suc fuel) zero z env n lt lt' = absurd (omega arith)
    any_fuel (suc fuel) (suc fuel') z env n lt lt' = start (λ z x m p q. any_fuel fuel fuel' z x m p q) (t.begin z env) n lt lt'
      where
        start : ((z : S) (x : Env) (m : ℕ) → m < fuel → m < fuel' → turns t own body fuel z x m ≡ turns t own body fuel' z x m) → (r : Or (Option Env)) (n : ℕ) → n < suc fuel → n < suc fuel' →
            started r env n (λ begun m. finished own (t.next z) (turns t own body fuel) (body begun m)) ≡ started r env n (λ begun m. finished own (t.next z) (turns t own body fuel') (body begun m))
        start q (Err c) n lt lt' = refl
        start q (Ok None) n lt lt' = refl
        start q (Ok (Some begun)) zero lt lt' = refl
        start q (Ok (Some begun)) (suc n) lt lt' =
            finished_alike (t.next z) (turns t own body fuel) (turns t own body fuel') (body begun n) (λ z x. q z x (body begun n).left (omega (arith, steady begun n)) (omega (arith, steady begun n)))

    -- The equation of loops: a turn begins, the body runs, and the loop goes on from the next state.
    pub a_turn : (z : S) (env : Env) (n : ℕ) → turning t own body z env n ≡ started (t.begin z env) env n (λ begun m. finished own (t.next z) (turning t own body) (body begun m))
    a_turn z env n = start (t.begin z env) n
      where
        start : (r : Or (Option Env)) (n : ℕ) → started r env n (λ begun m. finished own (t.next z) (turns t own body n) (body begun m)) ≡ started r env n (λ begun m. finished own (t.next z) (turning t own body) (body begun m))
        start (Err c) n = refl
        start (Ok None) n = refl
        start (Ok (Some begun)) zero = refl
        start (Ok (Some begun)) (suc n) =
            finished_alike (t.next z) (turns t own body (suc n)) (turning t own body) (body begun n) (λ z x. any_fuel (suc n) (suc (body begun n).left) z x (body begun n).left (omega (arith, steady begun n)) (omega arith))

    pub turning_spends : (z : S) → Spends (turning t own body z)
    turning_spends z env n = turns_spend (suc n) z env n

-- ---- statements

module _ (set : Setting) where
  stored_spends : (strict : Bool) (slot : ℕ) (v : Value) → Spends (stored strict slot v)
  stored_spends true slot v env n = omega arith
  stored_spends false slot v env n = omega arith

  put_spends : (slot : ℕ) (r : Or Value) → Spends (put set slot r)
  put_spends slot (Err c) env n = omega arith
  put_spends slot (Ok v) env n = stored_spends (is_not_null set slot && is_null v) slot v env n

  assign_spends : (slot : Option ℕ) (r : Or Value) → Spends (assign set slot r)
  assign_spends None r env n = omega arith
  assign_spends (Some slot) r env n = put_spends slot r env n

  declare_spends : (ds : List Decl) (at : ℕ) → Spends (declare set ds at)
  declare_spends [] at env n = omega arith
  declare_spends (d ∷ ds) at env n = and_then_spends n (put set at (initial set.value d.default env) env n) (declare set ds (suc at)) (put_spends at (initial set.value d.default env) env n) (declare_spends ds (suc at))

  choose_spends : (r : Or Value) (f g : Step) → Spends f → Spends g → Spends (choose r f g)
  choose_spends (Err c) f g p q env n = omega arith
  choose_spends (Ok v) f g p q env n = go (is_true v)
    where
      go : (b : Bool) → (pick b f g env n).left ≤ n
      go true = p env n
      go false = q env n

  jump_spends : (when : Option Expr) (o : Outcome) → Spends (jump set when o)
  jump_spends None o env n = omega arith
  jump_spends (Some e) o env n = choose_spends (set.value e env) (done o) (done normal) (stays o) (stays normal) env n

  give_spends : (r : Or Value) → Spends (give r)
  give_spends (Err c) env n = omega arith
  give_spends (Ok v) env n = omega arith

  bounded_spends : (missing : Bool) (v : Value) (go : Value → Step) → Spends (go v) → Spends (bounded missing v go)
  bounded_spends true v go p env n = omega arith
  bounded_spends false v go p env n = p env n

  bound_spends : (r : Or Value) (go : Value → Step) → ((v : Value) → Spends (go v)) → Spends (with_bound r go)
  bound_spends (Err c) go p env n = omega arith
  bound_spends (Ok v) go p env n = bounded_spends (is_null v) v go (p v) env n

  judged_spends : (wrong : Bool) (v : Value) (go : Value → Step) → Spends (go v) → Spends (judged wrong v go)
  judged_spends true v go p env n = omega arith
  judged_spends false v go p env n = p env n

  step_spends : (by : Option Expr) (go : Value → Step) → ((v : Value) → Spends (go v)) → Spends (with_step set by go)
  step_spends None go p env n = p _ env n
  step_spends (Some e) go p env n = bound_spends (set.value e env) _ (λ v. judged_spends (is_true (compare cmp.Le v (val.Int (pos 0)))) v go (p v)) env n

  loop_spends : (k : LoopKind) (own : Label) (at : ℕ) (body : Step) → Spends body → Spends (loop set k own at body)
  loop_spends kind.Plain own at body p env n = turning_spends always own body p tt env n
  loop_spends (kind.While e) own at body p env n = turning_spends (while (set.value e)) own body p tt env n
  loop_spends (kind.Count _ reverse first last by) own at body p env n =
      bound_spends (set.value first env) _ (λ a env n. bound_spends (set.value last env) _ (λ b. step_spends by _ (λ c. turning_spends (counts reverse b c at) own body p a)) env n) env n

  put_all_spends : (ts : List (List ℕ × Option ℕ)) (vs : List Value) → Spends (put_all set ts vs)
  put_all_spends [] vs env n = omega arith
  put_all_spends (t ∷ ts) vs env n = and_then_spends n (assign set t.1 (Ok (head_or_null vs)) env n) (put_all set ts (rest_of vs)) (assign_spends t.1 _ env n) (put_all_spends ts (rest_of vs))

  put_row_spends : (cs : List (Option Ty)) (ts : List (List ℕ × Option ℕ)) (vs : List Value) → Spends (put_row set cs ts vs)
  put_row_spends cs ts vs = by (converted_row cs vs)
    where
      by : (r : Or (List Value)) → Spends (put_converted set ts r)
      by (Err c) env n = omega arith
      by (Ok ws) env n = put_all_spends ts ws env n

  into_spends : (strict : Bool) (cs : List (Option Ty)) (ts : List (List ℕ × Option ℕ)) (r : Or Rows) → Spends (into_as set strict cs ts r)
  into_spends strict cs ts (Err c) env n = omega arith
  into_spends true cs ts (Ok []) env n = omega arith
  into_spends false cs ts (Ok []) env n = put_row_spends cs ts [] env n
  into_spends true cs ts (Ok (r ∷ [])) env n = put_row_spends cs ts r env n
  into_spends true cs ts (Ok (r ∷ s ∷ rs)) env n = omega arith
  into_spends false cs ts (Ok (r ∷ rs)) env n = put_row_spends cs ts r env n

  mutual
    pub statement_spends : (s : Stmt) (at : ℕ) → Spends ((stmt_of (running set) s).run at)
    statement_spends (b.Block' label decls _ body closing) at env n =
        and_then_spends n (declare set decls at env n) (in_row (stmts_of (running set) body) (at + length decls)) (declare_spends decls at env n) (row_spends body (at + length decls))
    statement_spends (b.Assign name slot e) at env n = assign_spends slot (set.value e env) env n
    statement_spends (b.If' _ arms other) at env n = arms_spend arms (in_else set (else_of (running set) other) normal) (else_spends other normal) at env n
    statement_spends (b.Cases' _ arms other) at env n = arms_spend arms (in_else set (else_of (running set) other) (faults case_not_found)) (else_spends other (faults case_not_found)) at env n
    statement_spends (b.Loop' label k _ body closing) at env n = loop_spends k label at _ (row_spends body _) env n
    statement_spends (b.Exit label when) at env n = jump_spends when (exits label) env n
    statement_spends (b.Continue label when) at env n = jump_spends when (continues label) env n
    statement_spends (b.Return e) at env n = give_spends (set.value e env) env n
    statement_spends (b.Raise raised) at env n = omega arith
    statement_spends (b.Into strict targets query) at env n = into_spends strict (conversions set.types targets (out-Select query).list) targets (set.rows query env) env n
    statement_spends b.Nothing at env n = omega arith

    pub row_spends : {m : _} → (r : b.Row_of-Stmt m) (at : ℕ) → Spends (in_row (stmts_of (running set) r) at)
    row_spends b.end_of-Stmt at env n = omega arith
    row_spends (b.more_of-Stmt s rest) at env n = and_then_spends n ((stmt_of (running set) s).run at env n) _ (statement_spends s at env n) (row_spends rest _)

    pub arms_spend : {m : _} → (r : b.Row_of-Arm m) (other : ℕ → Step) → ((at : ℕ) → Spends (other at)) → (at : ℕ) → Spends (in_arms set (branches_of (running set) r) other at)
    arms_spend b.end_of-Arm other p at env n = p at env n
    arms_spend (b.more_of-Arm test _ body rest) other p at env n = choose_spends (set.value test env) _ _ (row_spends body at) (arms_spend rest other p _) env n

    pub else_spends : (r : b.Held-Stmt-If-1) (o : Outcome) (at : ℕ) → Spends (in_else set (else_of (running set) r) o at)
    else_spends b.None' o at env n = omega arith
    else_spends (b.Some' _ body) o at env n = row_spends body at env n

  pub list_spends : (ss : List Stmt) (at : ℕ) → Spends (in_row (map (λ s. stmt_of (running set) s) ss) at)
  list_spends [] at env n = omega arith
  list_spends (s ∷ ss) at env n = and_then_spends n ((stmt_of (running set) s).run at env n) _ (statement_spends s at env n) (list_spends ss _)
