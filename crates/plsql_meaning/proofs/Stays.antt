-- An end other than for want of turns stays the same with more turns, and leaves as many more.
use Rattle.std.proofs.Common.{◌≡◌, ◌≢◌, refl, pos, ℕ, zero, suc, ◌+◌, ◌<◌, ◌≤◌, Bool, true, false, ◌&&◌, if◌then◌else◌, List, [], ◌∷◌, length, ap, ◌∙◌, Option, Some, None, Ok, Err, arith}
use Rattle.std.specs.List.{list_any}
use Rattle.away_values.specs.declared.values.Value.{Value}
use Rattle.away_values.specs.declared.values.Value.TheVariants as val
use Rattle.away_values.specs.declared.values.Answer.TheVariants as answer
use Rattle.away_trees.specs.declared.queries.Expr.{Expr}
use Rattle.away_trees.specs.declared.statements.Decl.{Decl}
use Rattle.away_trees.specs.declared.statements.LoopKind.{LoopKind}
use Rattle.away_trees.specs.declared.statements.LoopKind.TheVariants as kind
use Rattle.away_trees.specs.declared.statements.Function.{Function}
use Rattle.away_trees.specs.declared.statements.Stmt.{Stmt}
use Rattle.away_trees.specs.declared.statements.Stmt.TheBlock as b
use Rattle.away_trees.specs.StatementAlgebra.{stmt_of, stmts_of, branches_of, else_of}
use Rattle.away_values.specs.Operators.{is_true, is_null, compare}
use Rattle.away_values.specs.declared.operators.CmpOp.TheVariants as cmp
use Rattle.away_values.specs.Results.{Or}
use Rattle.sql_meaning.specs.Context.{Rows}
use Rattle.plsql_meaning.specs.Outcomes.{Env, Label, Outcome, normal, exits, continues, returns, faults, more, Done, done, Step, after, and_then, close, closed_as, case_not_found}
use Rattle.plsql_meaning.specs.Loops.{Turning, started, Verdict, again, leave, verdict, moved, ended, finished, turns, turning, always, while, counts}
use Rattle.plsql_meaning.specs.Functions.{answer_of, begun, function_answer}
use Rattle.away_values.specs.declared.types.Ty.{Ty}
use Rattle.away_trees.specs.declared.queries.Expr.TheViews.{out-Select}
use Rattle.plsql_meaning.specs.Conversions.{conversions, converted_row}
use Rattle.plsql_meaning.specs.Statements.{Setting, meaning, is_not_null, stored, put, assign, initial, declare, pick, choose, jump, give, in_row, in_arms, in_else, bounded, with_bound, judged, with_step, loop, put_all, put_converted, put_row, head_or_null, rest_of, into_as, running}
use Rattle.plsql_meaning.proofs.Spends.{Spends, row_spends}

abbrev pub Over : Outcome → Type 0
Over more = ⊥
Over normal = Unit {0}
Over (exits l) = Unit {0}
Over (continues l) = Unit {0}
Over (returns v) = Unit {0}
Over (faults c) = Unit {0}

abbrev pub Longer : ℕ → Done → Done → Type 0
Longer k d e = Over d.outcome → e ≡ done d.outcome d.env (d.left + k)

abbrev pub Lasts : Step → Type 0
Lasts f = (env : Env) (n k : ℕ) → Longer k (f env n) (f env (n + k))

at_rest : (o : Outcome) → Lasts (done o)
at_rest o env n k over = refl

and_then_lasts : (k : ℕ) (d e : Done) (s : Step) → Longer k d e → Lasts s → Longer k (and_then d s) (and_then e s)
and_then_lasts k d e s p q = go d.outcome p
  where
    go : (o : Outcome) → (Over o → e ≡ done o d.env (d.left + k)) → Longer k (after o d.env d.left s) (and_then e s)
    go normal p over = ap (λ x. and_then x s) (p tt) ∙ q d.env d.left k over
    go (exits l) p over = ap (λ x. and_then x s) (p tt)
    go (continues l) p over = ap (λ x. and_then x s) (p tt)
    go (returns v) p over = ap (λ x. and_then x s) (p tt)
    go (faults c) p over = ap (λ x. and_then x s) (p tt)
    go more p over = absurd over

close_lasts : (own : Label) (k : ℕ) (d e : Done) → Longer k d e → Longer k (close own d) (close own e)
close_lasts own k d e p = go d.outcome p
  where
    go : (o : Outcome) → (Over o → e ≡ done o d.env (d.left + k)) → Over (closed_as own o) → close own e ≡ done (closed_as own o) d.env (d.left + k)
    go normal p over = ap (close own) (p tt)
    go (exits l) p over = ap (close own) (p tt)
    go (continues l) p over = ap (close own) (p tt)
    go (returns v) p over = ap (close own) (p tt)
    go (faults c) p over = ap (close own) (p tt)
    go more p over = absurd over

module _ {S : Type 0} where
  module _ (t : Turning S) (own : Label) (body : Step) (spends : Spends body) (lasts : Lasts body) where
    finished_lasts : (k n : ℕ) (r : Or (Option S)) (rest rest' : S → Step) (d e : Done) → d.left ≤ n → Longer k d e → ((z : S) (x : Env) (m : ℕ) → m ≤ n → Longer k (rest z x m) (rest' z x (m + k))) → Longer k (finished own r rest d) (finished own r rest' e)
    finished_lasts k n r rest rest' d e le p q = go d.outcome p
      where
        move : (r : Or (Option S)) → Longer k (moved r rest d.env d.left) (moved r rest' d.env (d.left + k))
        move (Err c) over = refl
        move (Ok None) over = refl
        move (Ok (Some z)) over = q z d.env d.left le over

        decide : (v : Verdict) → Longer k (ended v r rest d.env d.left) (ended v r rest' d.env (d.left + k))
        decide again over = move r over
        decide (leave o) over = refl

        by_outcome : (o : Outcome) → e ≡ done o d.env (d.left + k) → Longer k (ended (verdict own o) r rest d.env d.left) (finished own r rest' e)
        by_outcome o same over = ap (finished own r rest') same ∙ decide (verdict own o) over

        go : (o : Outcome) → (Over o → e ≡ done o d.env (d.left + k)) → Longer k (ended (verdict own o) r rest d.env d.left) (finished own r rest' e)
        go normal p over = by_outcome normal (p tt) over
        go (exits l) p over = by_outcome (exits l) (p tt) over
        go (continues l) p over = by_outcome (continues l) (p tt) over
        go (returns v) p over = by_outcome (returns v) (p tt) over
        go (faults c) p over = by_outcome (faults c) (p tt) over
        go more p over = absurd over

    turns_last : (fuel fuel' k : ℕ) (z : S) (env : Env) (n : ℕ) → n < fuel → n + k < fuel' → Longer k (turns t own body fuel z env n) (turns t own body fuel' z env (n + k))
    turns_last zero fuel' k z env n lt lt' over = absurd over
    turns_last (suc fuel) zero k z env n lt lt' over = absurd (omega arith)
    turns_last (suc fuel) (suc fuel') k z env n lt lt' over = start (λ z x m a b. turns_last fuel fuel' k z x m a b) (t.begin z env) n lt lt' over
      where
        start : ((z : S) (x : Env) (m : ℕ) → m < fuel → m + k < fuel' → Longer k (turns t own body fuel z x m) (turns t own body fuel' z x (m + k))) → (r : Or (Option Env)) (n : ℕ) → n < suc fuel → n + k < suc fuel' → Longer k (started r env n (λ begun m. finished own (t.next z) (turns t own body fuel) (body begun m))) (started r env (n + k) (λ begun m. finished own (t.next z) (turns t own body fuel') (body begun m)))
        start q (Err c) n lt lt' over = refl
        start q (Ok None) n lt lt' over = refl
        start q (Ok (Some begun)) zero lt lt' over = absurd over
        start q (Ok (Some begun)) (suc n) lt lt' over =
            let e : suc n + k ≡ suc (n + k) = omega arith in
            ap (λ j. started (Ok (Some begun)) env j (λ begun m. finished own (t.next z) (turns t own body fuel') (body begun m))) e
            ∙ finished_lasts k n (t.next z) (turns t own body fuel) (turns t own body fuel') (body begun n) (body begun (n + k)) (spends begun n) (lasts begun n k) (λ z x m le. q z x m (omega arith) (omega arith)) over

    pub turning_lasts : (z : S) → Lasts (turning t own body z)
    turning_lasts z env n k = turns_last (suc n) (suc (n + k)) k z env n (omega arith) (omega arith)

module _ (set : Setting) where
  put_lasts : (slot : ℕ) (r : Or Value) → Lasts (put set slot r)
  put_lasts slot (Err c) env n k = λ over. refl
  put_lasts slot (Ok v) env n k = λ over. go (is_not_null set slot && is_null v)
    where
      go : (b : Bool) → stored b slot v env (n + k) ≡ done (stored b slot v env n).outcome (stored b slot v env n).env ((stored b slot v env n).left + k)
      go true = refl
      go false = refl

  assign_lasts : (slot : Option ℕ) (r : Or Value) → Lasts (assign set slot r)
  assign_lasts None r env n k = λ over. refl
  assign_lasts (Some slot) r env n k = put_lasts slot r env n k

  declare_lasts : (ds : List Decl) (at : ℕ) → Lasts (declare set ds at)
  declare_lasts [] at env n k = λ over. refl
  declare_lasts (d ∷ ds) at env n k = and_then_lasts k (put set at (initial set.value d.default env) env n) (put set at (initial set.value d.default env) env (n + k)) (declare set ds (suc at)) (put_lasts at (initial set.value d.default env) env n k) (declare_lasts ds (suc at))

  choose_lasts : (r : Or Value) (f g : Step) → Lasts f → Lasts g → Lasts (choose r f g)
  choose_lasts (Err c) f g p q env n k = λ over. refl
  choose_lasts (Ok v) f g p q env n k = go (is_true v)
    where
      go : (b : Bool) → Longer k (pick b f g env n) (pick b f g env (n + k))
      go true = p env n k
      go false = q env n k

  jump_lasts : (when : Option Expr) (o : Outcome) → Lasts (jump set when o)
  jump_lasts None o env n k = λ over. refl
  jump_lasts (Some e) o env n k = choose_lasts (set.value e env) (done o) (done normal) (at_rest o) (at_rest normal) env n k

  give_lasts : (r : Or Value) → Lasts (give r)
  give_lasts (Err c) env n k = λ over. refl
  give_lasts (Ok v) env n k = λ over. refl

  bounded_lasts : (missing : Bool) (v : Value) (go : Value → Step) → Lasts (go v) → Lasts (bounded missing v go)
  bounded_lasts true v go p env n k = λ over. refl
  bounded_lasts false v go p env n k = p env n k

  bound_lasts : (r : Or Value) (go : Value → Step) → ((v : Value) → Lasts (go v)) → Lasts (with_bound r go)
  bound_lasts (Err c) go p env n k = λ over. refl
  bound_lasts (Ok v) go p env n k = bounded_lasts (is_null v) v go (p v) env n k

  judged_lasts : (wrong : Bool) (v : Value) (go : Value → Step) → Lasts (go v) → Lasts (judged wrong v go)
  judged_lasts true v go p env n k = λ over. refl
  judged_lasts false v go p env n k = p env n k

  step_lasts : (by : Option Expr) (go : Value → Step) → ((v : Value) → Lasts (go v)) → Lasts (with_step set by go)
  step_lasts None go p env n k = p (val.Int (pos 1)) env n k
  step_lasts (Some e) go p env n k = bound_lasts (set.value e env) (λ v. judged (is_true (compare cmp.Le v (val.Int (pos 0)))) v go) (λ v. judged_lasts (is_true (compare cmp.Le v (val.Int (pos 0)))) v go (p v)) env n k

  loop_lasts : (kd : LoopKind) (own : Label) (at : ℕ) (body : Step) → Spends body → Lasts body → Lasts (loop set kd own at body)
  loop_lasts kind.Plain own at body s p env n k = turning_lasts always own body s p tt env n k
  loop_lasts (kind.While e) own at body s p env n k = turning_lasts (while (set.value e)) own body s p tt env n k
  loop_lasts (kind.Count _ reverse first last by) own at body s p env n k = bound_lasts (set.value first env) second inner env n k
    where
      third : Value → Value → Step
      third a b = with_step set by (λ c. turning (counts reverse b c at) own body a)

      second : Value → Step
      second a env n = with_bound (set.value last env) (third a) env n

      inner : (a : Value) → Lasts (second a)
      inner a env n k = bound_lasts (set.value last env) (third a) (λ b. step_lasts by (λ c. turning (counts reverse b c at) own body a) (λ c. turning_lasts (counts reverse b c at) own body s p a)) env n k

  put_all_lasts : (ts : List (List ℕ × Option ℕ)) (vs : List Value) → Lasts (put_all set ts vs)
  put_all_lasts [] vs env n k = λ over. refl
  put_all_lasts (t ∷ ts) vs env n k = and_then_lasts k (assign set t.1 (Ok (head_or_null vs)) env n) (assign set t.1 (Ok (head_or_null vs)) env (n + k)) (put_all set ts (rest_of vs)) (assign_lasts t.1 (Ok (head_or_null vs)) env n k) (put_all_lasts ts (rest_of vs))

  put_row_lasts : (cs : List (Option Ty)) (ts : List (List ℕ × Option ℕ)) (vs : List Value) → Lasts (put_row set cs ts vs)
  put_row_lasts cs ts vs = by (converted_row cs vs)
    where
      by : (r : Or (List Value)) → Lasts (put_converted set ts r)
      by (Err c) env n k = λ over. refl
      by (Ok ws) env n k = put_all_lasts ts ws env n k

  into_lasts : (strict : Bool) (cs : List (Option Ty)) (ts : List (List ℕ × Option ℕ)) (r : Or Rows) → Lasts (into_as set strict cs ts r)
  into_lasts strict cs ts (Err c) env n k = λ over. refl
  into_lasts true cs ts (Ok []) env n k = λ over. refl
  into_lasts false cs ts (Ok []) env n k = put_row_lasts cs ts [] env n k
  into_lasts true cs ts (Ok (r ∷ [])) env n k = put_row_lasts cs ts r env n k
  into_lasts true cs ts (Ok (r ∷ s ∷ rs)) env n k = λ over. refl
  into_lasts false cs ts (Ok (r ∷ rs)) env n k = put_row_lasts cs ts r env n k

  mutual
    pub statement_lasts : (s : Stmt) (at : ℕ) → Lasts ((stmt_of (running set) s).run at)
    statement_lasts (b.Block' label decls _ body closing) at env n k =
        close_lasts label k (and_then (declare set decls at env n) (in_row (stmts_of (running set) body) (at + length decls))) (and_then (declare set decls at env (n + k)) (in_row (stmts_of (running set) body) (at + length decls)))
        (and_then_lasts k (declare set decls at env n) (declare set decls at env (n + k)) (in_row (stmts_of (running set) body) (at + length decls)) (declare_lasts decls at env n k) (row_lasts body (at + length decls)))
    statement_lasts (b.Assign name slot e) at env n k = assign_lasts slot (set.value e env) env n k
    statement_lasts (b.If' _ arms other) at env n k = arms_last arms (in_else set (else_of (running set) other) normal) (else_lasts other normal) at env n k
    statement_lasts (b.Cases' _ arms other) at env n k = arms_last arms (in_else set (else_of (running set) other) (faults case_not_found)) (else_lasts other (faults case_not_found)) at env n k
    statement_lasts (b.Loop' label kd _ body closing) at env n k = loop_lasts kd label at _ (row_spends set body _) (row_lasts body _) env n k
    statement_lasts (b.Exit label when) at env n k = jump_lasts when (exits label) env n k
    statement_lasts (b.Continue label when) at env n k = jump_lasts when (continues label) env n k
    statement_lasts (b.Return e) at env n k = give_lasts (set.value e env) env n k
    statement_lasts (b.Raise raised) at env n k = λ over. refl
    statement_lasts (b.Into strict targets query) at env n k = into_lasts strict (conversions set.types targets (out-Select query).list) targets (set.rows query env) env n k
    statement_lasts b.Nothing at env n k = λ over. refl

    pub row_lasts : {m : _} → (r : b.Row_of-Stmt m) (at : ℕ) → Lasts (in_row (stmts_of (running set) r) at)
    row_lasts b.end_of-Stmt at env n k = λ over. refl
    row_lasts (b.more_of-Stmt s rest) at env n k = and_then_lasts k ((stmt_of (running set) s).run at env n) ((stmt_of (running set) s).run at env (n + k)) _ (statement_lasts s at env n k) (row_lasts rest _)

    pub arms_last : {m : _} → (r : b.Row_of-Arm m) (other : ℕ → Step) → ((at : ℕ) → Lasts (other at)) → (at : ℕ) → Lasts (in_arms set (branches_of (running set) r) other at)
    arms_last b.end_of-Arm other p at env n k = p at env n k
    arms_last (b.more_of-Arm test _ body rest) other p at env n k = choose_lasts (set.value test env) _ _ (row_lasts body at) (arms_last rest other p _) env n k

    pub else_lasts : (r : b.Held-Stmt-If-1) (o : Outcome) (at : ℕ) → Lasts (in_else set (else_of (running set) r) o at)
    else_lasts b.None' o at env n k = λ over. refl
    else_lasts (b.Some' _ body) o at env n k = row_lasts body at env n k

-- An answer stays.
pub answers_stay : (set : Setting) (f : Function) (args : List Value) (n k : ℕ) → function_answer set f args n ≢ answer.More → function_answer set f args (n + k) ≡ function_answer set f args n
answers_stay set f args n k some = go (f.strict && list_any is_null args) some
  where
    run : ℕ → Done
    run = (meaning set f.body).run (length f.params) (begun set f args)

    ran : (o : Outcome) → (answer_of o ≢ answer.More) → (Over o → run (n + k) ≡ done o (run n).env ((run n).left + k)) → answer_of (run (n + k)).outcome ≡ answer_of o
    ran normal some h = ap (λ d. answer_of d.outcome) (h tt)
    ran (exits l) some h = ap (λ d. answer_of d.outcome) (h tt)
    ran (continues l) some h = ap (λ d. answer_of d.outcome) (h tt)
    ran (returns v) some h = ap (λ d. answer_of d.outcome) (h tt)
    ran (faults c) some h = ap (λ d. answer_of d.outcome) (h tt)
    ran more some h = absurd (some refl)

    go : (b : Bool) → (if b then answer.Value val.Null else answer_of (run n).outcome) ≢ answer.More → (if b then answer.Value val.Null else answer_of (run (n + k)).outcome) ≡ (if b then answer.Value val.Null else answer_of (run n).outcome)
    go true some = refl
    go false some = ran (run n).outcome some (statement_lasts set f.body (length f.params) (begun set f args) n k)
