-- A run reads no slot that isn't in sight.
use Rattle.std.proofs.Common.{◌≡◌, refl, sym, ap, ◌∙◌, subst, pos, ℕ, zero, suc, ◌+◌, Bool, true, false, ◌&&◌, ◌||◌, ◌==◌, List, [], ◌∷◌, length, slice_set, Option, Some, None, Ok, Err, arith, inl, inr}
use Rattle.std.proofs.lemmas.Bool.{and_parts, cases_Bool, false≢true}
use Rattle.std.proofs.lemmas.Bool.Decides.{nat_tests}
use Rattle.std.proofs.lemmas.List.{get_or-set_other, length-set}
use Rattle.away_values.specs.declared.operators.CmpOp.TheVariants as cmp
use Rattle.away_values.specs.declared.values.Value.{Value}
use Rattle.away_values.specs.declared.values.Value.TheVariants as val
use Rattle.away_values.specs.Operators.{compare, is_null, is_true}
use Rattle.away_values.specs.Results.{Or, mapped}
use Rattle.away_trees.specs.declared.queries.Expr.{Expr}
use Rattle.away_trees.specs.declared.statements.Decl.{Decl}
use Rattle.away_trees.specs.declared.statements.LoopKind.{LoopKind}
use Rattle.away_trees.specs.declared.statements.LoopKind.TheVariants as kind
use Rattle.away_trees.specs.declared.statements.Stmt.{Stmt}
use Rattle.away_trees.specs.declared.statements.Stmt.TheBlock as b
use Rattle.away_trees.specs.StatementAlgebra.{stmt_of, stmts_of, branches_of, else_of}
use Rattle.sql_meaning.specs.Context.{Rows, at}
use Rattle.plsql_meaning.specs.Outcomes.{Env, Label, Outcome, normal, exits, continues, returns, faults, more, Done, done, Step, after, and_then, case_not_found, close, closed_as}
use Rattle.plsql_meaning.specs.Loops.{Turning, started, Verdict, again, leave, verdict, moved, ended, finished, turns, turning, always, while, going, counts, reaches}
use Rattle.away_values.specs.declared.types.Ty.{Ty}
use Rattle.away_trees.specs.declared.queries.Expr.TheViews.{out-Select}
use Rattle.plsql_meaning.specs.Conversions.{conversions, converted_row}
use Rattle.plsql_meaning.specs.Statements.{Setting, is_not_null, stored, put, assign, initial, declare, pick, choose, jump, give, in_row, in_arms, in_else, row_vars, arms_vars, else_vars, kind_vars, body_at, bounded, with_bound, judged, with_step, loop, put_all, put_converted, put_row, head_or_null, rest_of, into_as, into, running}
use Rattle.plsql_meaning.specs.Sight.{Sight, with_slot, with_slots, Readers, row_slots, row_sees, arms_see, other_slots, other_sees, body_sight, maybe_sees, decls_see, kind_sees, seeing, Agree, AreReaders, EndAlike, Alike}

-- ---- sights

abbrev Wider : Sight → Sight → Type 0
Wider sight wide = (i : ℕ) → sight i ≡ true → wide i ≡ true

or_true : (b c : Bool) → b ≡ true → (b || c) ≡ true
or_true true c h = refl
or_true false c h = absurd (false≢true h)

shown_by : (b c : Bool) → (b || c) ≡ true → c ≡ false → b ≡ true
shown_by true c h e = refl
shown_by false c h e = sym e ∙ h

wider_slot : (slot : ℕ) (sight : Sight) → Wider sight (with_slot slot sight)
wider_slot slot sight i h = or_true (sight i) (i == slot) h

narrowed : (sight wide : Sight) → Wider sight wide → (env other : Env) → Agree wide env other → Agree sight env other
narrowed sight wide w env other a = record { long = a.long; values = λ i h. a.values i (w i h) }

narrow : (sight wide : Sight) → Wider sight wide → (d e : Done) → EndAlike wide d e → EndAlike sight d e
narrow sight wide w d e h = record { outcome = h.outcome; left = h.left; env = narrowed sight wide w d.env e.env h.env }

here : (sight : Sight) (o : Outcome) (n : ℕ) (env other : Env) → Agree sight env other → EndAlike sight (done o env n) (done o other n)
here sight o n env other a = record { outcome = refl; left = refl; env = a }

-- ---- a slot that is set

same_slot : (xs ys : Env) (slot : ℕ) (v : Value) → length xs ≡ length ys → at (slice_set xs slot v) slot ≡ at (slice_set ys slot v) slot
same_slot [] [] slot v e = refl
same_slot [] (y ∷ ys) slot v e = absurd (omega (arith, e))
same_slot (x ∷ xs) [] slot v e = absurd (omega (arith, e))
same_slot (x ∷ xs) (y ∷ ys) zero v e = refl
same_slot (x ∷ xs) (y ∷ ys) (suc slot) v e = same_slot xs ys slot v (omega (arith, e))

slot_is : (i slot : ℕ) → (i == slot) ≡ true → i ≡ slot
slot_is i slot e = grind (arith, nat_tests)

slot_is_not : (i slot : ℕ) → (i == slot) ≡ false → (i ≡ slot → ⊥)
slot_is_not i slot e h = grind (arith, nat_tests)

agree_set : (sight : Sight) (slot : ℕ) (v : Value) (env other : Env) → Agree sight env other → Agree (with_slot slot sight) (slice_set env slot v) (slice_set other slot v)
agree_set sight slot v env other a = record {
  long = length-set env slot v ∙ a.long ∙ sym (length-set other slot v);
  values = λ i h. elim (cases_Bool (i == slot)) [
    | inl e ↦ subst (λ j. at (slice_set env slot v) j ≡ at (slice_set other slot v) j) (sym (slot_is i slot e)) (same_slot env other slot v a.long)
    | inr e ↦ get_or-set_other env slot i v val.Null (slot_is_not i slot e) ∙ a.values i (shown_by (sight i) (i == slot) h e) ∙ sym (get_or-set_other other slot i v val.Null (slot_is_not i slot e))
  ];
}

-- ---- one step behind another

-- where the first ends normally, the variables agree in more slots
then_from : (sight wide : Sight) → Wider sight wide → (d e : Done) (g : Step) → EndAlike sight d e → (d.outcome ≡ normal → Agree wide d.env e.env) → Alike wide g → EndAlike sight (and_then d g) (and_then e g)
then_from sight wide w d e g h a p =
    subst (λ o. EndAlike sight (and_then d g) (after o e.env e.left g)) h.outcome
    (subst (λ n. EndAlike sight (and_then d g) (after d.outcome e.env n g)) h.left (go d.outcome a))
  where
    go : (o : Outcome) → (o ≡ normal → Agree wide d.env e.env) → EndAlike sight (after o d.env d.left g) (after o e.env d.left g)
    go normal a = narrow sight wide w (g d.env d.left) (g e.env d.left) (p d.env e.env d.left (a refl))
    go (exits l) a = here sight (exits l) d.left d.env e.env h.env
    go (continues l) a = here sight (continues l) d.left d.env e.env h.env
    go (returns v) a = here sight (returns v) d.left d.env e.env h.env
    go (faults c) a = here sight (faults c) d.left d.env e.env h.env
    go more a = here sight more d.left d.env e.env h.env

no_wider : (sight : Sight) → Wider sight sight
no_wider sight i h = h

then_alike : (sight : Sight) (d e : Done) (g : Step) → EndAlike sight d e → Alike sight g → EndAlike sight (and_then d g) (and_then e g)
then_alike sight d e g h p = then_from sight sight (no_wider sight) d e g h (λ o. h.env) p

abbrev NotNormal : Outcome → Type 0
NotNormal normal = ⊥
NotNormal (exits l) = Unit {0}
NotNormal (continues l) = Unit {0}
NotNormal (returns v) = Unit {0}
NotNormal (faults c) = Unit {0}
NotNormal more = Unit {0}

not_normal : (o : Outcome) → NotNormal o → o ≡ normal → ⊥
not_normal o h is = subst NotNormal is h

-- a step that ends normally with more slots in sight
pub record GrowsAt (sight wide : Sight) (d e : Done) : Type 0 where
  pub end : EndAlike sight d e
  pub grown : d.outcome ≡ normal → Agree wide d.env e.env

abbrev Grows : Sight → Sight → Step → Type 0
Grows sight wide f = (env other : Env) (n : ℕ) → Agree sight env other → GrowsAt sight wide (f env n) (f other n)

then_grows : (sight mid wide : Sight) → Wider sight mid → (d e : Done) (g : Step) → GrowsAt sight mid d e → Grows mid wide g → GrowsAt sight wide (and_then d g) (and_then e g)
then_grows sight mid wide w d e g h p = record {
  end = then_from sight mid w d e g h.end h.grown (λ env other n a. (p env other n a).end);
  grown = subst (λ o. (and_then d g).outcome ≡ normal → Agree wide (and_then d g).env (after o e.env e.left g).env) h.end.outcome
      (subst (λ n. (and_then d g).outcome ≡ normal → Agree wide (and_then d g).env (after d.outcome e.env n g).env) h.end.left (go d.outcome h.grown));
}
  where
    go : (o : Outcome) → (o ≡ normal → Agree mid d.env e.env) → (after o d.env d.left g).outcome ≡ normal → Agree wide (after o d.env d.left g).env (after o e.env d.left g).env
    go normal a is = (p d.env e.env d.left (a refl)).grown is
    go (exits l) a is = absurd (not_normal (exits l) tt is)
    go (continues l) a is = absurd (not_normal (continues l) tt is)
    go (returns v) a is = absurd (not_normal (returns v) tt is)
    go (faults c) a is = absurd (not_normal (faults c) tt is)
    go more a is = absurd (not_normal more tt is)

-- ---- loops

abbrev BeginAlike : Sight → Or (Option Env) → Or (Option Env) → Type 0
BeginAlike wide (Err c) (Err d) = c ≡ d
BeginAlike wide (Err c) (Ok x) = ⊥
BeginAlike wide (Ok x) (Err d) = ⊥
BeginAlike wide (Ok None) (Ok None) = Unit {0}
BeginAlike wide (Ok None) (Ok (Some y)) = ⊥
BeginAlike wide (Ok (Some x)) (Ok None) = ⊥
BeginAlike wide (Ok (Some x)) (Ok (Some y)) = Agree wide x y

module _ {S : Type 0} (sight wide : Sight) (w : Wider sight wide) where
  finished_alike : (own : Label) (r : Or (Option S)) (rest : S → Step) (d e : Done) → EndAlike sight d e → ((z : S) → Alike sight (rest z)) → EndAlike sight (finished own r rest d) (finished own r rest e)
  finished_alike own r rest d e h p =
      subst (λ o. EndAlike sight (finished own r rest d) (ended (verdict own o) r rest e.env e.left)) h.outcome
      (subst (λ n. EndAlike sight (finished own r rest d) (ended (verdict own d.outcome) r rest e.env n)) h.left (go (verdict own d.outcome)))
    where
      move : (r : Or (Option S)) → EndAlike sight (moved r rest d.env d.left) (moved r rest e.env d.left)
      move (Err c) = here sight (faults c) d.left d.env e.env h.env
      move (Ok None) = here sight normal d.left d.env e.env h.env
      move (Ok (Some z)) = p z d.env e.env d.left h.env

      go : (v : Verdict) → EndAlike sight (ended v r rest d.env d.left) (ended v r rest e.env d.left)
      go again = move r
      go (leave o) = here sight o d.left d.env e.env h.env

  module _ (t : Turning S) (own : Label) (body : Step) (begins : (z : S) (env other : Env) → Agree sight env other → BeginAlike wide (t.begin z env) (t.begin z other)) (alike : Alike wide body) where
    turns_alike : (fuel : ℕ) (z : S) → Alike sight (turns t own body fuel z)
    turns_alike zero z env other n a = here sight more n env other a
    turns_alike (suc fuel) z env other n a = start (λ z. turns_alike fuel z) n (t.begin z env) (t.begin z other) (begins z env other a)
      where
        start : ((z : S) → Alike sight (turns t own body fuel z)) → (n : ℕ) (r s : Or (Option Env)) → BeginAlike wide r s → EndAlike sight (started r env n (λ begun m. finished own (t.next z) (turns t own body fuel) (body begun m))) (started s other n (λ begun m. finished own (t.next z) (turns t own body fuel) (body begun m)))
        start p n (Err c) (Err d) h = subst (λ d. EndAlike sight (done (faults c) env n) (done (faults d) other n)) h (here sight (faults c) n env other a)
        start p n (Err c) (Ok x) h = absurd h
        start p n (Ok x) (Err d) h = absurd h
        start p n (Ok None) (Ok None) h = here sight normal n env other a
        start p n (Ok None) (Ok (Some y)) h = absurd h
        start p n (Ok (Some x)) (Ok None) h = absurd h
        start p zero (Ok (Some x)) (Ok (Some y)) h = here sight more zero x y (narrowed sight wide w x y h)
        start p (suc n) (Ok (Some x)) (Ok (Some y)) h = finished_alike own (t.next z) (turns t own body fuel) (body x n) (body y n) (narrow sight wide w (body x n) (body y n) (alike x y n h)) p

    turning_alike : (z : S) → Alike sight (turning t own body z)
    turning_alike z env other n a = turns_alike (suc n) z env other n a

-- ---- statements

module _ (set : Setting) where
  stored_grows : (strict : Bool) (slot : ℕ) (v : Value) (sight : Sight) → Grows sight (with_slot slot sight) (stored strict slot v)
  stored_grows true slot v sight env other n a = record { end = here sight _ n env other a; grown = λ is. absurd (not_normal (faults _) tt is) }
  stored_grows false slot v sight env other n a =
      let wide = agree_set sight slot v env other a in
      record { end = here sight normal n _ _ (narrowed sight (with_slot slot sight) (wider_slot slot sight) _ _ wide); grown = λ is. wide }

  put_grows : (slot : ℕ) (r : Or Value) (sight : Sight) → Grows sight (with_slot slot sight) (put set slot r)
  put_grows slot (Err c) sight env other n a = record { end = here sight (faults c) n env other a; grown = λ is. absurd (not_normal (faults c) tt is) }
  put_grows slot (Ok v) sight env other n a = stored_grows (is_not_null set slot && is_null v) slot v sight env other n a

  assign_alike : (slot : Option ℕ) (r : Or Value) (sight : Sight) → Alike sight (assign set slot r)
  assign_alike None r sight env other n a = here sight normal n env other a
  assign_alike (Some slot) r sight env other n a = (put_grows slot r sight env other n a).end

  choose_alike : (sight : Sight) (r : Or Value) (f g : Step) → Alike sight f → Alike sight g → Alike sight (choose r f g)
  choose_alike sight (Err c) f g p q env other n a = here sight (faults c) n env other a
  choose_alike sight (Ok v) f g p q env other n a = go (is_true v)
    where
      go : (b : Bool) → EndAlike sight (pick b f g env n) (pick b f g other n)
      go true = p env other n a
      go false = q env other n a

  give_alike : (sight : Sight) (r : Or Value) → Alike sight (give r)
  give_alike sight (Err c) env other n a = here sight (faults c) n env other a
  give_alike sight (Ok v) env other n a = here sight (returns v) n env other a

  bounded_alike : (sight : Sight) (missing : Bool) (v : Value) (go : Value → Step) → Alike sight (go v) → Alike sight (bounded missing v go)
  bounded_alike sight true v go p env other n a = here sight _ n env other a
  bounded_alike sight false v go p env other n a = p env other n a

  bound_alike : (sight : Sight) (r : Or Value) (go : Value → Step) → ((v : Value) → Alike sight (go v)) → Alike sight (with_bound r go)
  bound_alike sight (Err c) go p env other n a = here sight (faults c) n env other a
  bound_alike sight (Ok v) go p env other n a = bounded_alike sight (is_null v) v go (p v) env other n a

  judged_alike : (sight : Sight) (wrong : Bool) (v : Value) (go : Value → Step) → Alike sight (go v) → Alike sight (judged wrong v go)
  judged_alike sight true v go p env other n a = here sight _ n env other a
  judged_alike sight false v go p env other n a = p env other n a

  put_all_alike : (ts : List (List ℕ × Option ℕ)) (vs : List Value) (sight : Sight) → Alike sight (put_all set ts vs)
  put_all_alike [] vs sight env other n a = here sight normal n env other a
  put_all_alike (t ∷ ts) vs sight env other n a =
      then_alike sight (assign set t.1 (Ok (head_or_null vs)) env n) (assign set t.1 (Ok (head_or_null vs)) other n) (put_all set ts (rest_of vs)) (assign_alike t.1 (Ok (head_or_null vs)) sight env other n a) (put_all_alike ts (rest_of vs) sight)

  put_row_alike : (cs : List (Option Ty)) (ts : List (List ℕ × Option ℕ)) (vs : List Value) (sight : Sight) → Alike sight (put_row set cs ts vs)
  put_row_alike cs ts vs = by (converted_row cs vs)
    where
      by : (r : Or (List Value)) (sight : Sight) → Alike sight (put_converted set ts r)
      by (Err c) sight env other n a = here sight (faults c) n env other a
      by (Ok ws) sight env other n a = put_all_alike ts ws sight env other n a

  into_alike : (strict : Bool) (cs : List (Option Ty)) (ts : List (List ℕ × Option ℕ)) (r : Or Rows) (sight : Sight) → Alike sight (into_as set strict cs ts r)
  into_alike strict cs ts (Err c) sight env other n a = here sight (faults c) n env other a
  into_alike true cs ts (Ok []) sight env other n a = here sight _ n env other a
  into_alike false cs ts (Ok []) sight env other n a = put_row_alike cs ts [] sight env other n a
  into_alike true cs ts (Ok (r ∷ [])) sight env other n a = put_row_alike cs ts r sight env other n a
  into_alike true cs ts (Ok (r ∷ s ∷ rs)) sight env other n a = here sight _ n env other a
  into_alike false cs ts (Ok (r ∷ rs)) sight env other n a = put_row_alike cs ts r sight env other n a

  close_alike : (own : Label) (sight : Sight) (d e : Done) → EndAlike sight d e → EndAlike sight (close own d) (close own e)
  close_alike own sight d e h = record { outcome = ap (closed_as own) h.outcome; left = h.left; env = h.env }

  -- what goes on by a value that is the same
  by_same : {A : Type 0} (sight : Sight) (go : A → Step) (v : Env → A) (env other : Env) (n : ℕ) → v env ≡ v other → Agree sight env other → ((x : A) → Alike sight (go x)) → EndAlike sight (go (v env) env n) (go (v other) other n)
  by_same sight go v env other n e a p = subst (λ x. EndAlike sight (go (v env) env n) (go x other n)) e (p (v env) env other n a)

  module _ (r : Readers) (are : AreReaders set r) where
    jump_alike : (when : Option Expr) (o : Outcome) (sight : Sight) → maybe_sees r when sight ≡ true → Alike sight (jump set when o)
    jump_alike None o sight h env other n a = here sight o n env other a
    jump_alike (Some e) o sight h env other n a =
        by_same sight (λ x. choose x (done o) (done normal)) (set.value e) env other n (are.value sight e h env other a) a
        (λ x. choose_alike sight x (done o) (done normal) (λ env other n a. here sight o n env other a) (λ env other n a. here sight normal n env other a))

    initial_same : (default : Option Expr) (sight : Sight) → maybe_sees r default sight ≡ true → (env other : Env) → Agree sight env other → initial set.value default env ≡ initial set.value default other
    initial_same None sight h env other a = refl
    initial_same (Some e) sight h env other a = are.value sight e h env other a

    declare_grows : (ds : List Decl) (at : ℕ) (sight : Sight) → decls_see r ds at sight ≡ true → Grows sight (with_slots (length ds) at sight) (declare set ds at)
    declare_grows [] at sight h env other n a = record { end = here sight normal n env other a; grown = λ is. a }
    declare_grows (d ∷ ds) at sight h env other n a =
        let p = and_parts (maybe_sees r d.default sight) (decls_see r ds (suc at) (with_slot at sight)) h in
        then_grows sight (with_slot at sight) (with_slots (length ds) (suc at) (with_slot at sight)) (wider_slot at sight)
        (put set at (initial set.value d.default env) env n) (put set at (initial set.value d.default other) other n) (declare set ds (suc at))
        (subst (λ x. GrowsAt sight (with_slot at sight) (put set at (initial set.value d.default env) env n) (put set at x other n)) (initial_same d.default sight p.0 env other a) (put_grows at (initial set.value d.default env) sight env other n a))
        (declare_grows ds (suc at) (with_slot at sight) p.1)

    wider_slots : (k at : ℕ) (sight : Sight) → Wider sight (with_slots k at sight)
    wider_slots zero at sight i h = h
    wider_slots (suc k) at sight i h = wider_slots k (suc at) (with_slot at sight) i (wider_slot at sight i h)

    step_alike : (by : Option Expr) (go : Value → Step) (sight : Sight) → maybe_sees r by sight ≡ true → ((v : Value) → Alike sight (go v)) → Alike sight (with_step set by go)
    step_alike None go sight h p env other n a = p (val.Int (pos 1)) env other n a
    step_alike (Some e) go sight h p env other n a =
        by_same sight (λ x. with_bound x (λ v. judged (is_true (compare cmp.Le v (val.Int (pos 0)))) v go)) (set.value e) env other n (are.value sight e h env other a) a
        (λ x. bound_alike sight x (λ v. judged (is_true (compare cmp.Le v (val.Int (pos 0)))) v go) (λ v. judged_alike sight (is_true (compare cmp.Le v (val.Int (pos 0)))) v go (p v)))

    while_begins : (e : Expr) (sight : Sight) → r.expr sight e ≡ true → (z : Unit {0}) (env other : Env) → Agree sight env other → BeginAlike sight ((while (set.value e)).begin z env) ((while (set.value e)).begin z other)
    while_begins e sight h z env other a = subst (λ x. BeginAlike sight (mapped (λ v. going (is_true v) env) (set.value e env)) (mapped (λ v. going (is_true v) other) x)) (are.value sight e h env other a) (by_value (set.value e env))
      where
        decide : (b : Bool) → BeginAlike sight (Ok (going b env)) (Ok (going b other))
        decide true = a
        decide false = tt

        by_value : (x : Or Value) → BeginAlike sight (mapped (λ v. going (is_true v) env) x) (mapped (λ v. going (is_true v) other) x)
        by_value (Err c) = refl
        by_value (Ok v) = decide (is_true v)

    count_begins : (reverse : Bool) (last by : Value) (var : ℕ) (sight : Sight) (c : Value) (env other : Env) → Agree sight env other → BeginAlike (with_slot var sight) ((counts reverse last by var).begin c env) ((counts reverse last by var).begin c other)
    count_begins reverse last by var sight c env other a = decide (is_true (reaches reverse c last))
      where
        decide : (b : Bool) → BeginAlike (with_slot var sight) (Ok (going b (slice_set env var c))) (Ok (going b (slice_set other var c)))
        decide true = agree_set sight var c env other a
        decide false = tt

    loop_alike : (k : LoopKind) (own : Label) (at : ℕ) (body : Step) (sight : Sight) → kind_sees r k sight ≡ true → Alike (body_sight k at sight) body → Alike sight (loop set k own at body)
    loop_alike kind.Plain own at body sight h p env other n a = turning_alike sight sight (no_wider sight) always own body (λ z env other a. a) p tt env other n a
    loop_alike (kind.While e) own at body sight h p env other n a = turning_alike sight sight (no_wider sight) (while (set.value e)) own body (while_begins e sight h) p tt env other n a
    loop_alike (kind.Count _ reverse first last by) own at body sight h p env other n a =
        by_same sight (λ x. with_bound x second) (set.value first) env other n (are.value sight first ph.0 env other a) a (λ x. bound_alike sight x second inner)
      where
        ph : (r.expr sight first ≡ true) × ((r.expr sight last && maybe_sees r by sight) ≡ true)
        ph = and_parts (r.expr sight first) (r.expr sight last && maybe_sees r by sight) h

        pl : (r.expr sight last ≡ true) × (maybe_sees r by sight ≡ true)
        pl = and_parts (r.expr sight last) (maybe_sees r by sight) ph.1

        third : Value → Value → Step
        third x y = with_step set by (λ c. turning (counts reverse y c at) own body x)

        second : Value → Step
        second x env n = with_bound (set.value last env) (third x) env n

        inner : (x : Value) → Alike sight (second x)
        inner x env other n a = by_same sight (λ y. with_bound y (third x)) (set.value last) env other n (are.value sight last pl.0 env other a) a
            (λ y. bound_alike sight y (third x) (λ z. step_alike by (λ c. turning (counts reverse z c at) own body x) sight pl.1
            (λ c. turning_alike sight (with_slot at sight) (wider_slot at sight) (counts reverse z c at) own body (count_begins reverse z c at sight) p x)))

    -- ---- the slots that both count

    mutual
      same_vars : (s : Stmt) → (stmt_of (running set) s).vars ≡ (stmt_of (seeing r) s).vars
      same_vars (b.Block' label decls _ body closing) = ap (λ k. length decls + k) (same_row body)
      same_vars (b.Assign name slot e) = refl
      same_vars (b.If' _ arms other) = λ i. same_arms arms i + same_else other i
      same_vars (b.Cases' _ arms other) = λ i. same_arms arms i + same_else other i
      same_vars (b.Loop' label k _ body closing) = ap (λ n. kind_vars k + n) (same_row body)
      same_vars (b.Exit label when) = refl
      same_vars (b.Continue label when) = refl
      same_vars (b.Return e) = refl
      same_vars (b.Raise raised) = refl
      same_vars (b.Into strict targets query) = refl
      same_vars b.Nothing = refl

      same_row : {m : _} → (x : b.Row_of-Stmt m) → row_vars (stmts_of (running set) x) ≡ row_slots (stmts_of (seeing r) x)
      same_row b.end_of-Stmt = refl
      same_row (b.more_of-Stmt s rest) = λ i. same_vars s i + same_row rest i

      same_arms : {m : _} → (x : b.Row_of-Arm m) → arms_vars (branches_of (running set) x) ≡ row_slots (branches_of (seeing r) x)
      same_arms b.end_of-Arm = refl
      same_arms (b.more_of-Arm test _ body rest) = λ i. same_row body i + same_arms rest i

      same_else : (x : b.Held-Stmt-If-1) → else_vars (else_of (running set) x) ≡ other_slots (else_of (seeing r) x)
      same_else b.None' = refl
      same_else (b.Some' _ body) = same_row body

    -- ---- statements

    mutual
      pub statement_alike : (s : Stmt) (at : ℕ) (sight : Sight) → (stmt_of (seeing r) s).sees at sight ≡ true → Alike sight ((stmt_of (running set) s).run at)
      statement_alike (b.Block' label decls _ body closing) at sight h env other n a =
          let p = and_parts (decls_see r decls at sight) (row_sees (stmts_of (seeing r) body) (at + length decls) (with_slots (length decls) at sight)) h in
          let g = declare_grows decls at sight p.0 env other n a in
          close_alike label sight (and_then (declare set decls at env n) (in_row (stmts_of (running set) body) (at + length decls))) (and_then (declare set decls at other n) (in_row (stmts_of (running set) body) (at + length decls)))
          (then_from sight (with_slots (length decls) at sight) (wider_slots (length decls) at sight) (declare set decls at env n) (declare set decls at other n) (in_row (stmts_of (running set) body) (at + length decls)) g.end g.grown
          (row_alike body (at + length decls) (with_slots (length decls) at sight) p.1))
      statement_alike (b.Assign name slot e) at sight h env other n a = by_same sight (assign set slot) (set.value e) env other n (are.value sight e h env other a) a (λ x. assign_alike slot x sight)
      statement_alike (b.If' _ arms other) at sight h env env' n a = arms_alike arms (in_else set (else_of (running set) other) normal) (other_sees (else_of (seeing r) other)) (λ at. else_alike other normal at sight) at h env env' n a
      statement_alike (b.Cases' _ arms other) at sight h env env' n a = arms_alike arms (in_else set (else_of (running set) other) (faults case_not_found)) (other_sees (else_of (seeing r) other)) (λ at. else_alike other (faults case_not_found) at sight) at h env env' n a
      statement_alike (b.Loop' label k _ body closing) at sight h env other n a =
          let p = and_parts (kind_sees r k sight) (row_sees (stmts_of (seeing r) body) (body_at k at) (body_sight k at sight)) h in
          loop_alike k label at (in_row (stmts_of (running set) body) (body_at k at)) sight p.0 (row_alike body (body_at k at) (body_sight k at sight) p.1) env other n a
      statement_alike (b.Exit label when) at sight h env other n a = jump_alike when (exits label) sight h env other n a
      statement_alike (b.Continue label when) at sight h env other n a = jump_alike when (continues label) sight h env other n a
      statement_alike (b.Return e) at sight h env other n a = by_same sight give (set.value e) env other n (are.value sight e h env other a) a (give_alike sight)
      statement_alike (b.Raise raised) at sight h env other n a = here sight _ n env other a
      statement_alike (b.Into strict targets query) at sight h env other n a = by_same sight (into set strict targets query) (set.rows query) env other n (are.rows sight query h env other a) a (λ x. into_alike strict (conversions set.types targets (out-Select query).list) targets x sight)
      statement_alike b.Nothing at sight h env other n a = here sight normal n env other a

      pub row_alike : {m : _} → (x : b.Row_of-Stmt m) (at : ℕ) (sight : Sight) → row_sees (stmts_of (seeing r) x) at sight ≡ true → Alike sight (in_row (stmts_of (running set) x) at)
      row_alike b.end_of-Stmt at sight h env other n a = here sight normal n env other a
      row_alike (b.more_of-Stmt s rest) at sight h env other n a =
          let p = and_parts ((stmt_of (seeing r) s).sees at sight) (row_sees (stmts_of (seeing r) rest) (at + (stmt_of (seeing r) s).vars) sight) h in
          then_alike sight ((stmt_of (running set) s).run at env n) ((stmt_of (running set) s).run at other n) (in_row (stmts_of (running set) rest) (at + (stmt_of (running set) s).vars)) (statement_alike s at sight p.0 env other n a)
          (row_alike rest (at + (stmt_of (running set) s).vars) sight (ap (λ k. row_sees (stmts_of (seeing r) rest) (at + k) sight) (same_vars s) ∙ p.1))

      pub arms_alike : {m : _} → (x : b.Row_of-Arm m) (other : ℕ → Step) (sees : ℕ → Sight → Bool) {sight : Sight} → ((at : ℕ) → sees at sight ≡ true → Alike sight (other at)) → (at : ℕ) → arms_see (branches_of (seeing r) x) sees at sight ≡ true → Alike sight (in_arms set (branches_of (running set) x) other at)
      arms_alike b.end_of-Arm other sees q at h env env' n a = q at h env env' n a
      arms_alike (b.more_of-Arm test _ body rest) other sees {sight} q at h env env' n a =
          let p = and_parts (r.expr sight test && row_sees (stmts_of (seeing r) body) at sight) (arms_see (branches_of (seeing r) rest) sees (at + row_slots (stmts_of (seeing r) body)) sight) h in
          let t = and_parts (r.expr sight test) (row_sees (stmts_of (seeing r) body) at sight) p.0 in
          let next = at + row_vars (stmts_of (running set) body) in
          by_same sight (λ x. choose x (in_row (stmts_of (running set) body) at) (in_arms set (branches_of (running set) rest) other next)) (set.value test) env env' n (are.value sight test t.0 env env' a) a
          (λ x. choose_alike sight x (in_row (stmts_of (running set) body) at) (in_arms set (branches_of (running set) rest) other next) (row_alike body at sight t.1)
          (arms_alike rest other sees q next (ap (λ k. arms_see (branches_of (seeing r) rest) sees (at + k) sight) (same_row body) ∙ p.1)))

      pub else_alike : (x : b.Held-Stmt-If-1) (o : Outcome) (at : ℕ) (sight : Sight) → other_sees (else_of (seeing r) x) at sight ≡ true → Alike sight (in_else set (else_of (running set) x) o at)
      else_alike b.None' o at sight h env other n a = here sight o n env other a
      else_alike (b.Some' _ body) o at sight h env other n a = row_alike body at sight h env other n a
