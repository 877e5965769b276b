-- The function in which calls are expanded answers as the functions that call one another.
use Rattle.std.proofs.Common.{◌≡◌, refl, sym, ap, ◌∙◌, subst, ℕ, zero, suc, ◌+◌, ◌<◌, ◌≤◌, Bool, true, false, ◌&&◌, if◌then◌else◌, List, [], ◌∷◌, ◌++◌, length, replicate, Option, Some, None, Ok, Err, arith, inl, inr}
use Rattle.std.specs.List.{list_any}
use Rattle.std.proofs.lemmas.List.{length-set, length-append, length-replicate, get_or_append_left}
use Rattle.away_values.specs.declared.values.Answer.{Answer}
use Rattle.away_values.specs.declared.values.Answer.TheVariants as answer
use Rattle.away_values.specs.declared.values.Class.{Class}
use Rattle.away_values.specs.declared.values.Value.{Value}
use Rattle.away_values.specs.declared.values.Value.TheVariants as val
use Rattle.away_values.specs.declared.types.Ty.{Ty}
use Rattle.away_values.specs.Operators.{is_null, cast}
use Rattle.away_values.specs.Results.{and_then as joined}
use Rattle.away_values.specs.Results.{Or, each}
use Rattle.away_trees.specs.declared.queries.Expr.{Expr}
use Rattle.away_trees.specs.declared.queries.Expr.TheVariants as expr
use Rattle.away_trees.specs.declared.statements.Function.{Function}
use Rattle.away_trees.specs.declared.statements.Stmt.{Stmt}
use Rattle.away_trees.specs.declared.statements.Stmt.TheVariants as stmt
use Rattle.away_trees.specs.StatementAlgebra.{stmt_of}
use Rattle.away_trees.proofs.StatementEquations.{of_block}
use Rattle.away_trees.proofs.Equations.{of_cast}
use Rattle.sql_meaning.specs.Context.{Rows, at}
use Rattle.sql_meaning.specs.Meaning.{meaning}
use Rattle.sql_meaning.specs.OneReturn.{body}
use Rattle.plsql_meaning.specs.Functions.{answer_of, begun, function_answer, over}
use Rattle.plsql_meaning.specs.Outcomes.{Env, returns, faults, Done, done, Step, and_then, close}
use Rattle.plsql_meaning.specs.Slots.{slot_counting}
use Rattle.plsql_meaning.specs.Statements.{StatementMeaning, in_row, stored, put, assign, give, running}
use Rattle.plsql_meaning.proofs.Slots.{statement_takes}
use Rattle.call_meaning.specs.TypedSlots.{no_null}
use Rattle.call_meaning.specs.Alike.{Slots, put_from, no_slots, under, Ready, Labels, no_labels, World, Agree, Ends, Sim, both_exit, both_continue, both_fault, both_more, on, off, gone}
use Rattle.call_meaning.specs.Asking.{Ask, Reply, reply, heard, replied}
use Rattle.call_meaning.specs.Becomes.{Place, Rules, counted}
use Rattle.call_meaning.specs.Calls.{Part, part_at, names_of, asks, asked_at, cast_answer, converted, by_values, unless_null, ran, body_of, within, calls}
use Rattle.call_meaning.specs.Expands.{Renaming, Renames, Back, whole, into_slot, returns_by, strict_tests, slots_from, callee_place, CallBecomes, kept, same_slot, Assigns, AtPlace, calls_nobody, calls_part, rules, expands, main_place, IsExpanded}
use Rattle.call_meaning.specs.Facts.{Stands, Facts}
use Rattle.call_meaning.proofs.Agreeing.{is_under, not_under, from_under, set_there, set_elsewhere, ready_puts, none_is_not_some}
use Rattle.call_meaning.proofs.Callees.{world}
use Rattle.call_meaning.proofs.CallBlocks.{in_puts, no_name}
use Rattle.call_meaning.proofs.Places.{heard_plain, more_of, inside_fits, as_many, Tails, call_sim}
use Rattle.call_meaning.proofs.Simulation.{sim, asking_takes}
use Rattle.call_meaning.proofs.Steps.{assign_sim}

-- the slot of a result: at the base or above, there, and free to be NULL
abbrev pub Fits : List (Ty × Bool) → Back → ℕ → ℕ → Type 0
Fits typed whole size' base = Unit {0}
Fits typed (into_slot i l) size' base = (base ≤ i) × (i < size') × (no_null typed i ≡ false)

module _ (T : List Rows) (n : Renaming) (laws : Renames T n) (typed : List (Ty × Bool)) where
  abbrev runs : Stmt → StatementMeaning
  runs x = stmt_of (running (over T typed)) x

  -- ---- what goes on behind a place

  -- an assignment
  module _ (w : World) (typed0 : List (Ty × Bool)) where
    -- the rules of no place, whose facts speak of slots alone
    abbrev bare : Rules
    bare = record { typed = typed0; typed' = typed; way = w.way; expr = n.expr; select = n.select; assigned = λ c slot e x. ⊥; returned = λ c e x. ⊥ }

    pub bare_facts : (ask : Ask) → Facts w (over T typed0) (over T typed) ask bare
    bare_facts ask = record {
      types = refl;
      types' = refl;
      null = refl;
      null' = refl;
      way = refl;
      value = λ m e e' h env env' a. laws.value m e e' h env env' a.values;
      marks = λ m s s' h. laws.marks m s s' h;
      rows = λ m s s' h env env' a. laws.rows m s s' h env env' a.values;
      assigned = λ c slot e x h. absurd h;
      returned = λ c e x h. absurd h;
    }

    pub assign_alike : (ask : Ask) (t : Labels) (m : Slots) (i j : ℕ) → Ready w.held m i j → (slot slot' : Option ℕ) → same_slot m typed0 typed slot slot' → (v : Or Value) → Sim w t m m (assign (over T typed0) slot v) (assign (over T typed) slot' v)
    assign_alike ask t m i j ready None None h v = absurd h
    assign_alike ask t m i j ready None (Some y) h v = absurd h
    assign_alike ask t m i j ready (Some x) None h v = absurd h
    assign_alike ask t m i j ready (Some x) (Some y) h v = assign_sim w (over T typed0) (over T typed) ask bare (bare_facts ask) t m (Some x) (Some y) i j ready (record { place = h.0; null = h.1 }) v

    assign_fails : (m : Slots) (slot slot' : Option ℕ) → same_slot m typed0 typed slot slot' → (c : Class) (env : Env) (k : ℕ) → assign (over T typed0) slot (Err c) env k ≡ done (faults c) env k
    assign_fails m None None h c env k = absurd h
    assign_fails m None (Some y) h c env k = absurd h
    assign_fails m (Some x) slot' h c env k = refl

    pub assign_tails : (ask : Ask) (t : Labels) (m : Slots) (i j : ℕ) → Ready w.held m i j → (slot : Option ℕ) → Tails T n laws typed w t m (assign (over T typed0) slot) (λ e x. Assigns m typed0 typed slot e x)
    assign_tails ask t m i j ready slot = record {
      alike = λ e x h i' env env' k a.
          subst (λ y. Ends w t m m (assign (over T typed0) slot ((over T typed).value e env') env k) (y.run i' env' k)) (sym (ap runs h.is))
          (assign_alike ask t m i j ready slot h.slot' h.slots ((over T typed).value e env') env env' k a);
      fails = λ e x h c env k. assign_fails m slot h.slot' h.slots c env k;
    }

  -- a RETURN
  module _ (size size' base : ℕ) (low : Env) (t : Labels) (m : Slots) where
    give_whole : (v : Or Value) (env env' : Env) (k : ℕ) → Agree (world whole size size' base low) m env env' → Ends (world whole size size' base low) t m m (give v env k) (give v env' k)
    give_whole (Err c) env env' k a = off both_fault a
    give_whole (Ok v) env env' k a = gone (record { result = v; is = refl; is' = refl; left = refl })

    give_into : (slot : ℕ) (label : List ℕ) → Fits typed (into_slot slot label) size' base → (v : Or Value) (env env' : Env) (k i : ℕ) → Agree (world (into_slot slot label) size size' base low) m env env'
        → Ends (world (into_slot slot label) size size' base low) t m m (give v env k) (close None (and_then (put (over T typed) slot v env' k) (in_row (runs (stmt.Exit (Some label) None) ∷ []) i)))
    give_into slot label f (Err c) env env' k i a = off both_fault a
    give_into slot label f (Ok v) env env' k i a =
        subst (λ b. Ends (world (into_slot slot label) size size' base low) t m m (done (returns v) env k) (close None (and_then (stored (b && is_null v) slot v env' k) (in_row (runs (stmt.Exit (Some label) None) ∷ []) i)))) (sym f.2)
        (gone (record {
          result = v;
          is = refl;
          is' = refl;
          holds = set_there env' slot v (subst (λ l. slot < l) (sym a.long') f.1);
          left = refl;
          long' = length-set env' slot v ∙ a.long';
          kept = λ j lt. set_elsewhere env' slot j v (λ e. omega (arith, lt, f.0, e)) ∙ a.kept j (is_under j base lt);
        }))

  return_tails : (back : Back) (size size' base : ℕ) (low : Env) (t : Labels) (m : Slots) → Fits typed back size' base → Tails T n laws typed (world back size size' base low) t m give (returns_by back)
  return_tails whole size size' base low t m f = record {
    alike = λ e x h i env env' k a. subst (λ y. Ends (world whole size size' base low) t m m (give ((over T typed).value e env') env k) (y.run i env' k)) (sym (ap runs h)) (give_whole size size' base low t m ((over T typed).value e env') env env' k a);
    fails = λ e x h c env k. refl;
  }
  return_tails (into_slot slot label) size size' base low t m f = record {
    alike = λ e x h i env env' k a.
        subst (λ y. Ends (world (into_slot slot label) size size' base low) t m m (give ((over T typed).value e env') env k) (y.run i env' k)) (sym (ap runs h.is ∙ of_block (running (over T typed)) None [] (stmt.Assign h.name (Some slot) e ∷ stmt.Exit (Some label) None ∷ []) h.closing))
        (give_into size size' base low t m slot label f ((over T typed).value e env') env env' k (i + 0 + 0) a);
    fails = λ e x h c env k. refl;
  }

  -- ---- places

  fresh_ready : (k base : ℕ) → Ready (under base) (put_from k 0 (suc base) no_slots) k (suc base + k)
  fresh_ready k base =
      subst (λ i. Ready (under base) (put_from k 0 (suc base) no_slots) i (suc base + k)) (omega arith)
      (ready_puts k (under base) no_slots 0 (suc base) (record {
        below = λ i j h. absurd (none_is_not_some j h);
        under = λ i j h. absurd (none_is_not_some j h);
        free = λ i j h. absurd (none_is_not_some j h);
        one = λ i i' j h. absurd (none_is_not_some j h);
        room = λ l h. not_under l base (omega (arith, h));
      }))

  module _ (P : List Part) where
    -- what a callee does at smaller fuel
    abbrev Deeper : (ℕ → List Value → ℕ → Reply) → (ℕ → Back → Place → Stmt → Type 0) → Type 0
    Deeper go deeper =
        (g : ℕ) (slot : ℕ) (label : List ℕ) (c : Place) (x : Stmt) → deeper g (into_slot slot label) c x →
        (B : StatementMeaning) × (((vs : List Value) (k : ℕ) → go g vs k ≡ unless_null (part_at P g).function vs k (ran (part_at P g).function B vs k))
        × ((B.vars ≡ counted (part_at P g).function.body)
        × ((size size' base : ℕ) (low : Env) → Fits typed (into_slot slot label) size' base → Stands (world (into_slot slot label) size size' base low) c (counted (part_at P g).function.body) (counted x)
        → Sim (world (into_slot slot label) size size' base low) c.labels c.slots c.slots (B.run c.at) ((runs x).run c.at'))))

    module _ (go : ℕ → List Value → ℕ → Reply) (deeper : ℕ → Back → Place → Stmt → Type 0) (down : Deeper go deeper) (p : Part) (w : World) where
      abbrev ask : Ask
      ask = asks (names_of P) (over T p.slots) go

      called_sim : (c : Place) (g : ℕ) (args : List Expr) (goes : Or Value → Step) (goes_on : Expr → Stmt → Type 0) (x : Stmt) → CallBecomes n typed (part_at P g) (deeper g) c args goes_on x → Stands w c 0 (counted x) → Tails T n laws typed w c.labels c.slots goes goes_on
          → Sim w c.labels c.slots c.slots (λ env k. replied (by_values (each (λ a. (over T p.slots).value a env) args) (go g) k) goes env) ((runs x).run c.at')
      called_sim c g args goes goes_on x h stands f =
          let f0 = (part_at P g).function in
          let d = down g c.at' h.label (callee_place (length f0.params) (suc c.at')) h.body h.inner in
          let tests = strict_tests f0.strict h.label (slots_from (length f0.params) (suc c.at')) in
          let body = tests ++ (h.body ∷ stmt.Raise h.raised ∷ []) in
          let blk = stmt.Block (Some h.label) h.params body None in
          let e₁ = ap counted h.is ∙ of_block slot_counting None (h.result ∷ []) (blk ∷ h.tail ∷ []) None in
          let e₂ = more_of blk (h.tail ∷ []) in
          let e₃ = of_block slot_counting (Some h.label) h.params body None in
          let e₄ = as_many n typed c.slots (suc c.at') args h.params h.arguments ∙ h.as_many in
          let e₅ = inside_fits f0.strict h.label (slots_from (length f0.params) (suc c.at')) h.body (stmt.Raise h.raised ∷ []) in
          let room : suc c.at' + length f0.params + counted h.body ≤ w.size' = omega (arith, stands.room', e₁, e₂, e₃, e₄, e₅) in
          subst (λ q. Sim w c.labels c.slots c.slots (λ env k. replied (by_values (each (λ a. (over T p.slots).value a env) args) q k) goes env) ((runs x).run c.at')) (sym (λ i vs k. d.1.0 vs k i))
          (call_sim T n laws typed w c f0 d.0 args p.slots h.result h.label h.params h.body h.raised h.tail h.no_default h.nullable h.as_many h.arguments h.raises
          (λ low. d.1.1.1 (length f0.params + d.0.vars) w.size' c.at' low (omega arith, omega (arith, room), h.nullable) (record { ready = fresh_ready (length f0.params) c.at'; room = omega (arith, d.1.1.0); room' = room }))
          stands.ready (omega (arith, room)) goes goes_on f h.goes x h.is)

      -- a conversion round the call goes round the slot of its result
      heard_cast : (t : Ty) (a : Answer) (goes : Or Value → Step) (env : Env) (k : ℕ) → heard (cast_answer t a) goes env k ≡ heard a (λ v. goes (joined v (cast t))) env k
      heard_cast t (answer.Value v) goes env k = heard_plain (cast t v) goes env k
      heard_cast t (answer.Fault c) goes env k = refl
      heard_cast t answer.More goes env k = refl
      heard_cast t (answer.Shape i) goes env k = refl

      cast_tails : (c : Place) (t : Ty) (goes : Or Value → Step) (goes_on : Expr → Stmt → Type 0) → Tails T n laws typed w c.labels c.slots goes goes_on → Tails T n laws typed w c.labels c.slots (λ v. goes (joined v (cast t))) (λ e x. goes_on (expr.Cast e t) x)
      cast_tails c t goes goes_on f = record {
        alike = λ e x h i env env' k a.
            subst (λ v. Ends w c.labels c.slots c.slots (goes v env k) ((runs x).run i env' k)) (ap (λ m. m.value (body T env')) (of_cast meaning e t)) (f.alike (expr.Cast e t) x h i env env' k a);
        fails = λ e x h c env k. f.fails (expr.Cast e t) x h c env k;
      }

      converted_sim : (c : Place) (conversion : Option Ty) (g : ℕ) (args : List Expr) (goes : Or Value → Step) (goes_on : Expr → Stmt → Type 0) (x : Stmt) → CallBecomes n typed (part_at P g) (deeper g) c args (λ e x. goes_on (kept conversion e) x) x → Stands w c 0 (counted x) → Tails T n laws typed w c.labels c.slots goes goes_on
          → Sim w c.labels c.slots c.slots (λ env k. replied (converted conversion (by_values (each (λ a. (over T p.slots).value a env) args) (go g) k)) goes env) ((runs x).run c.at')
      converted_sim c None g args goes goes_on x h stands f env env' k a = called_sim c g args goes goes_on x h stands f env env' k a
      converted_sim c (Some t) g args goes goes_on x h stands f env env' k a =
          let r = by_values (each (λ a. (over T p.slots).value a env) args) (go g) k in
          subst (λ d. Ends w c.labels c.slots c.slots d ((runs x).run c.at' env' k)) (sym (heard_cast t r.answer goes env r.left))
          (called_sim c g args (λ v. goes (joined v (cast t))) (λ e x. goes_on (expr.Cast e t) x) x h stands (cast_tails c t goes goes_on f) env env' k a)

      place_sim : (c : Place) (e : Expr) (goes : Or Value → Step) (goes_on : Expr → Stmt → Type 0) (x : Stmt) → AtPlace (names_of P) n typed P deeper c e goes_on x → Stands w c 0 (counted x) → Tails T n laws typed w c.labels c.slots goes goes_on
          → Sim w c.labels c.slots c.slots (λ env k. replied (ask e env k) goes env) ((runs x).run c.at')
      place_sim c e goes goes_on x (calls_nobody is e' h t) stands f env env' k a =
          subst (λ o. Ends w c.labels c.slots c.slots (replied (asked_at (over T p.slots) o go e env k) goes env) ((runs x).run c.at' env' k)) (sym is)
          (subst (λ d. Ends w c.labels c.slots c.slots d ((runs x).run c.at' env' k)) (sym (heard_plain ((over T p.slots).value e env) goes env k))
          (subst (λ v. Ends w c.labels c.slots c.slots (goes v env k) ((runs x).run c.at' env' k)) (sym (laws.value c.slots e e' h env env' a.values))
          (f.alike e' x t c.at' env env' k a)))
      place_sim c e goes goes_on x (calls_part g is h) stands f env env' k a =
          subst (λ o. Ends w c.labels c.slots c.slots (replied (asked_at (over T p.slots) o go e env k) goes env) ((runs x).run c.at' env' k)) (sym is)
          (converted_sim c g.conversion g.part g.args goes goes_on x h stands f env env' k a)

    -- the facts of a body, by those of the bodies that it calls
    module _ (go : ℕ → List Value → ℕ → Reply) (deeper : ℕ → Back → Place → Stmt → Type 0) (down : Deeper go deeper) (p : Part) (back : Back) (size size' base : ℕ) (low : Env) (fits : Fits typed back size' base) where
      abbrev w : World
      w = world back size size' base low

      facts : Facts w (over T p.slots) (over T typed) (asks (names_of P) (over T p.slots) go) (rules P n typed deeper p back)
      facts = record {
        types = refl;
        types' = refl;
        null = refl;
        null' = refl;
        way = refl;
        value = λ m e e' h env env' a. laws.value m e e' h env env' a.values;
        marks = λ m s s' h. laws.marks m s s' h;
        rows = λ m s s' h env env' a. laws.rows m s s' h env env' a.values;
        assigned = λ c slot e x h stands. place_sim go deeper down p w c e (assign (over T p.slots) slot) (λ e' x. Assigns c.slots p.slots typed slot e' x) x h stands (assign_tails w p.slots (asks (names_of P) (over T p.slots) go) c.labels c.slots c.at c.at' stands.ready slot);
        returned = λ c e x h stands. place_sim go deeper down p w c e give (returns_by back) x h stands (return_tails back size size' base low c.labels c.slots fits);
      }

    -- each body at its fuel, by the bodies that it calls
    body_sim : (k : ℕ) → Deeper (within P T k) (expands P n typed k) → (i : ℕ) (back : Back) (c : Place) (x : Stmt) → expands P n typed (suc k) i back c x → (size size' base : ℕ) (low : Env) → Fits typed back size' base
        → Stands (world back size size' base low) c (counted (part_at P i).function.body) (counted x) → Sim (world back size size' base low) c.labels c.slots c.slots ((body_of P T (within P T k) (part_at P i)).run c.at) ((runs x).run c.at')
    body_sim k down i back c x h size size' base low fits stands =
        sim (world back size size' base low) (over T (part_at P i).slots) (over T typed) (asks (names_of P) (over T (part_at P i).slots) (within P T k)) (rules P n typed (expands P n typed k) (part_at P i) back)
        (facts (within P T k) (expands P n typed k) down (part_at P i) back size size' base low fits) (part_at P i).function.body c x h stands

    body_takes : (k i : ℕ) → (body_of P T (within P T k) (part_at P i)).vars ≡ counted (part_at P i).function.body
    body_takes k i = asking_takes (over T (part_at P i).slots) (asks (names_of P) (over T (part_at P i).slots) (within P T k)) (part_at P i).function.body

    down : (k : ℕ) → Deeper (within P T k) (expands P n typed k)
    down zero g slot label c x h = absurd h
    down (suc k) g slot label c x h =
        (body_of P T (within P T k) (part_at P g), (λ vs m. refl, (body_takes k g, λ size size' base low fits stands. body_sim k (down k) g (into_slot slot label) c x h size size' base low fits stands)))

    -- ---- the whole

    main_ready : (k : ℕ) → Ready (under 0) (put_from k 0 0 no_slots) k k
    main_ready k =
        subst (λ i. Ready (under 0) (put_from k 0 0 no_slots) i i) (omega arith)
        (ready_puts k (under 0) no_slots 0 0 (record {
          below = λ i j h. absurd (none_is_not_some j h);
          under = λ i j h. absurd (none_is_not_some j h);
          free = λ i j h. absurd (none_is_not_some j h);
          one = λ i i' j h. absurd (none_is_not_some j h);
          room = λ l h. not_under l 0 h;
        }))

    main_agrees : (args : List Value) (p b b' : ℕ) → length args ≡ p → Agree (world whole (p + b) (p + b') 0 []) (put_from p 0 0 no_slots) (args ++ replicate b val.Null) (args ++ replicate b' val.Null)
    main_agrees args p b b' e = record {
      long = long b;
      long' = long b';
      values = λ k l is. elim (in_puts p 0 0 no_slots k l is) [
        | inl t ↦ ap (at (args ++ replicate b val.Null)) (same k l t.0 t.1.1 t.1.2) ∙ here b l (omega (arith, t.1.0, t.1.2, e)) ∙ sym (here b' l (omega (arith, t.1.0, t.1.2, e)))
        | inr none ↦ absurd (none_is_not_some l none)
      ];
      inside = λ k l is. elim (in_puts p 0 0 no_slots k l is) [
        | inl t ↦ (omega (arith, t.1.0, t.1.1), omega (arith, t.1.0, t.1.2))
        | inr none ↦ absurd (none_is_not_some l none)
      ];
      kept = λ j lt. absurd (omega (arith, from_under j 0 lt));
    }
      where
        long : (b : ℕ) → length (args ++ replicate b val.Null) ≡ p + b
        long b = length-append args (replicate b val.Null) ∙ ap (λ z. z + length (replicate b val.Null)) e ∙ ap (λ z. p + z) (length-replicate b val.Null)

        same : (k l t : ℕ) → k ≡ 0 + t → l ≡ 0 + t → k ≡ l
        same k l t a b = omega (arith, a, b)

        here : (b l : ℕ) → l < length args → at (args ++ replicate b val.Null) l ≡ at args l
        here b l lt = get_or_append_left args (replicate b val.Null) val.Null l lt

    -- ends of a whole body give one answer
    same_answer : (size size' : ℕ) (m : Slots) (d d' : Done) → Ends (world whole size size' 0 []) no_labels m m d d' → answer_of d'.outcome ≡ answer_of d.outcome
    same_answer size size' m _ _ (on a) = refl
    same_answer size size' m _ _ (off (both_exit {l = l} {l' = l'} h) a) = absurd (no_name l l' h)
    same_answer size size' m _ _ (off (both_continue {l = l} {l' = l'} h) a) = absurd (no_name l l' h)
    same_answer size size' m _ _ (off both_fault a) = refl
    same_answer size size' m _ _ (off both_more a) = refl
    same_answer size size' m d d' (gone h) = ap answer_of h.is' ∙ sym (ap answer_of h.is)

    fueled : (k : ℕ) (f : Function) → f.strict ≡ (part_at P 0).function.strict → length f.params ≡ length (part_at P 0).function.params → expands P n typed k 0 whole (main_place (length f.params)) f.body
        → (args : List Value) (turns : ℕ) → length args ≡ length f.params → function_answer (over T typed) f args turns ≡ (within P T k 0 args turns).answer
    fueled zero f s e h args turns long = absurd h
    fueled (suc k) f s e h args turns long =
        ap (λ b. if b && list_any is_null args then answer.Value val.Null else answer_of ((runs f.body).run (length f.params) (begun (over T typed) f args) turns).outcome) s
        ∙ by ((part_at P 0).function.strict && list_any is_null args)
      where
        B : StatementMeaning
        B = body_of P T (within P T k) (part_at P 0)

        p : ℕ
        p = length f.params

        run : answer_of ((runs f.body).run (length f.params) (begun (over T typed) f args) turns).outcome ≡ (ran (part_at P 0).function B args turns).answer
        run =
            same_answer (p + B.vars) (p + (runs f.body).vars) (put_from p 0 0 no_slots) (B.run p (args ++ replicate B.vars val.Null) turns) ((runs f.body).run p (args ++ replicate (runs f.body).vars val.Null) turns)
            (body_sim k (down k) 0 whole (main_place p) f.body h (p + B.vars) (p + (runs f.body).vars) 0 [] tt (record { ready = main_ready p; room = omega (arith, body_takes k 0); room' = omega (arith, statement_takes (over T typed) f.body) })
            (args ++ replicate B.vars val.Null) (args ++ replicate (runs f.body).vars val.Null) turns (main_agrees args p B.vars (runs f.body).vars long))
            ∙ ap (λ l. answer_of (B.run l (args ++ replicate B.vars val.Null) turns).outcome) e

        by : (b : Bool) → (if b then answer.Value val.Null else answer_of ((runs f.body).run (length f.params) (begun (over T typed) f args) turns).outcome) ≡ (if b then reply (answer.Value val.Null) turns else ran (part_at P 0).function B args turns).answer
        by true = refl
        by false = run

    pub expanded_answers : (f : Function) → IsExpanded P n f typed → (args : List Value) (turns : ℕ) → length args ≡ length f.params → function_answer (over T typed) f args turns ≡ calls P 0 T args turns
    expanded_answers f h args turns long = fueled (length P) f h.strict h.params h.body args turns long
