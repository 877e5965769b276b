-- The function in which self tail calls are turns of a loop answers as the function that calls itself.
use Rattle.std.proofs.Common.{◌≡◌, refl, sym, ap, ◌∙◌, subst, ℕ, zero, suc, ◌+◌, ◌<◌, ◌≤◌, Bool, true, false, ◌&&◌, not, nat_lt, if◌then◌else◌, List, [], ◌∷◌, ◌++◌, length, map, replicate, slice_set, Option, Some, None, Ok, Err, arith, ◌⊎◌, inl, inr}
use Rattle.std.specs.List.{list_any}
use Rattle.std.proofs.lemmas.Bool.{false≢true}
use Rattle.std.proofs.lemmas.Bool.Decides.{nat_tests}
use Rattle.std.proofs.lemmas.List.{length-append, length-replicate, get_or_append_left}
use Rattle.std.proofs.lemmas.Slice.Eq.{bytes_eq-Decides}
use Rattle.away_values.specs.declared.types.Ty.{Ty}
use Rattle.away_values.specs.declared.values.Answer.{Answer}
use Rattle.away_values.specs.declared.values.Answer.TheVariants as answer
use Rattle.away_values.specs.declared.values.Class.{Class}
use Rattle.away_values.specs.declared.values.Value.{Value}
use Rattle.away_values.specs.declared.values.Value.TheVariants as val
use Rattle.away_values.specs.Operators.{is_null}
use Rattle.away_values.specs.Results.{Or, each}
use Rattle.away_trees.specs.declared.queries.Expr.{Expr}
use Rattle.away_trees.specs.declared.statements.Decl.{Decl}
use Rattle.away_trees.specs.declared.statements.Function.{Function}
use Rattle.away_trees.specs.declared.statements.LoopKind.TheVariants as kind
use Rattle.away_trees.specs.declared.statements.Raised.{Raised}
use Rattle.away_trees.specs.declared.statements.Stmt.{Stmt}
use Rattle.away_trees.specs.declared.statements.Stmt.TheVariants as stmt
use Rattle.away_trees.specs.StatementAlgebra.{stmt_of}
use Rattle.away_trees.proofs.StatementEquations.{of_block, of_loop}
use Rattle.sql_meaning.specs.Context.{Rows, at}
use Rattle.plsql_meaning.specs.Functions.{answer_of, begun, function_answer, over}
use Rattle.plsql_meaning.specs.Loops.{always, again as goes_again, leave, ended, finished, turning}
use Rattle.plsql_meaning.specs.Outcomes.{Env, Outcome, normal, exits, continues, returns, faults, more, Done, done, Step, and_then, no_return}
use Rattle.plsql_meaning.specs.Slots.{slot_counting}
use Rattle.plsql_meaning.specs.Statements.{StatementMeaning, in_row, class_of, stored, put, assign, initial, declare, give, running}
use Rattle.plsql_meaning.proofs.Slots.{statement_takes}
use Rattle.plsql_meaning.proofs.Spends.{a_turn, statement_spends, list_spends, Spends}
use Rattle.call_meaning.specs.Alike.{Slots, put_from, no_slots, Held, Ready, Labels, no_labels, Final, final_value, final_fault, final_more, Escapes, way_back, with_value, with_fault, World, Agree, Ends, Sim, both_exit, both_continue, both_fault, both_more, on, off, gone}
use Rattle.call_meaning.specs.Asking.{Ask, Reply, reply, heard, replied}
use Rattle.call_meaning.specs.Becomes.{Place, counted, becomes}
use Rattle.call_meaning.specs.Calls.{Part, names_of, asks, asked_at, begun_with, by_values, ran, body_of, one_turn, again, rec}
use Rattle.call_meaning.specs.Expands.{Renaming, Renames, slots_from}
use Rattle.call_meaning.specs.Facts.{Facts}
use Rattle.call_meaning.specs.Untails.{moves_slots, null_ends, TailBecomes, AtReturn, returns_value, calls_itself, AtAssignment, tail_rules, tail_place, plain_decls, IsUntailed}
use Rattle.call_meaning.proofs.Agreeing.{none_is_not_some}
use Rattle.call_meaning.proofs.CallBlocks.{in_puts, no_name, nulls_same}
use Rattle.call_meaning.proofs.Expanded.{assign_tails}
use Rattle.call_meaning.proofs.Callees.{Kept, kept_same, kept_then, kept_set}
use Rattle.call_meaning.proofs.Places.{close_nameless, then_nothing, heard_plain, more_of, sizes}
use Rattle.call_meaning.proofs.Simulation.{sim, asking_takes}
use Rattle.call_meaning.proofs.TailBlocks.{Sets, stopped, passed, sets_run, moves_run, null_tested}

-- ---- the world

-- the slots of the arguments of the next turn
abbrev pub queued : ℕ → Held
queued p = λ j. not (nat_lt j p) && nat_lt j (p + p)

-- The body is left by a value, by a fault, or by the next turn, whose parameters hold the arguments of the call that the other one has answered.
pub data LeftTail (f : Function) (go : List Value → ℕ → Reply) (label : List ℕ) (p size' : ℕ) : Done → Done → Type 0 where
  tail_value : {v : Value} {env env' : Env} {k : ℕ} → LeftTail f go label p size' (done (returns v) env k) (done (returns v) env' k)
  tail_fault : {c : Class} {env env' : Env} {k : ℕ} → LeftTail f go label p size' (done (faults c) env k) (done (faults c) env' k)
  tail_jump : {o : Outcome} {env env' : Env} {k k' : ℕ} (vs : List Value) → Final o → answer_of o ≡ (go vs k).answer → length vs ≡ p → length env' ≡ size' → ((t : ℕ) → t < p → at env' t ≡ at vs t) → (f.strict && list_any is_null vs) ≡ false
      → LeftTail f go label p size' (done o env k') (done (continues (Some label)) env' k)

module _ (f : Function) (go : List Value → ℕ → Reply) (label : List ℕ) (p size' : ℕ) where
  tail_final : (d d' : Done) → LeftTail f go label p size' d d' → Final d.outcome
  tail_final _ _ tail_value = final_value
  tail_final _ _ tail_fault = final_fault
  tail_final _ _ (tail_jump vs fin same e long h nn) = fin

  tail_escapes : (d d' : Done) → LeftTail f go label p size' d d' → Escapes (Some label) d'.outcome
  tail_escapes _ _ tail_value = with_value
  tail_escapes _ _ tail_fault = with_fault
  tail_escapes _ _ (tail_jump vs fin same e long h nn) = way_back refl

  abbrev tail_world : ℕ → Env → World
  tail_world size low = record {
    size = size;
    size' = size';
    held = queued p;
    low = low;
    way = Some label;
    Leaves = LeftTail f go label p size';
    final = tail_final;
    escapes = tail_escapes;
  }

-- ---- answers of runs are values, faults or More

abbrev Told : Answer → Type 0
Told (answer.Shape k) = ⊥
Told _ = Unit {0}

told_outcome : (o : Outcome) → Told (answer_of o)
told_outcome normal = tt
told_outcome (exits l) = tt
told_outcome (continues l) = tt
told_outcome (returns v) = tt
told_outcome (faults c) = tt
told_outcome more = tt

told_again : (p : Part) (T : List Rows) (fuel : ℕ) (vs : List Value) (n : ℕ) → Told (again p T fuel vs n).answer
told_again p T zero vs n = tt
told_again p T (suc fuel) vs n = by (p.function.strict && list_any is_null vs)
  where
    turn : (n : ℕ) → Told (one_turn n (ran p.function (body_of (p ∷ []) T (λ i. again p T fuel) p) vs)).answer
    turn zero = tt
    turn (suc n) = told_outcome ((body_of (p ∷ []) T (λ i. again p T fuel) p).run (length p.function.params) (begun_with (body_of (p ∷ []) T (λ i. again p T fuel) p) vs) n).outcome

    by : (b : Bool) → Told (if b then reply (answer.Value val.Null) n else one_turn n (ran p.function (body_of (p ∷ []) T (λ i. again p T fuel) p) vs)).answer
    by true = tt
    by false = turn n

-- what a RETURN gives by an answer that is told
record Gives (a : Answer) (env : Env) (k : ℕ) : Type 0 where
  outcome : Outcome
  final : Final outcome
  same : answer_of outcome ≡ a
  is : heard a give env k ≡ done outcome env k

gives : (a : Answer) → Told a → (env : Env) (k : ℕ) → Gives a env k
gives (answer.Value v) h env k = record { outcome = returns v; final = final_value; same = refl; is = refl }
gives (answer.Fault c) h env k = record { outcome = faults c; final = final_fault; same = refl; is = refl }
gives answer.More h env k = record { outcome = more; final = final_more; same = refl; is = refl }
gives (answer.Shape i) h env k = absurd h

module _ (T : List Rows) (n : Renaming) (laws : Renames T n) (typed : List (Ty × Bool)) (part : Part) (label : List ℕ) (size' : ℕ) where
  abbrev runs : Stmt → StatementMeaning
  runs x = stmt_of (running (over T typed)) x

  abbrev rows : List Stmt → List StatementMeaning
  rows xs = map (λ x. stmt_of (running (over T typed)) x) xs

  abbrev p : ℕ
  p = length part.function.params

  -- ---- a self tail call

  module _ (fuel size : ℕ) (low : Env) where
    abbrev go : List Value → ℕ → Reply
    go vs k = again part T (suc fuel) vs k

    abbrev w : World
    w = tail_world part.function go label p size' size low

    abbrev ask : Ask
    ask = asks (names_of (part ∷ [])) (over T part.slots) (λ i. again part T (suc fuel))

    jumped : (t : Labels) (m : Slots) (vs : List Value) (env env' : Env) (k : ℕ) → length vs ≡ p → length env' ≡ size' → ((i : ℕ) → i < p → at env' i ≡ at vs i)
        → Ends w t m m (replied (go vs k) give env) (if part.function.strict && list_any is_null vs then done (returns val.Null) env' k else done (continues (Some label)) env' k)
    jumped t m vs env env' k e long h = by (part.function.strict && list_any is_null vs) refl
      where
        r : Reply
        r = one_turn k (ran part.function (body_of (part ∷ []) T (λ i. again part T fuel) part) vs)

        told : (b : Bool) → (part.function.strict && list_any is_null vs) ≡ b → b ≡ false → Told r.answer
        told b e off_b = subst (λ b. Told (if b then reply (answer.Value val.Null) k else r).answer) (e ∙ off_b) (told_again part T (suc fuel) vs k)

        by : (b : Bool) → (part.function.strict && list_any is_null vs) ≡ b → Ends w t m m (replied (if b then reply (answer.Value val.Null) k else r) give env) (if b then done (returns val.Null) env' k else done (continues (Some label)) env' k)
        by true is = gone tail_value
        by false is =
            let q = gives r.answer (told false is refl) env r.left in
            subst (λ d. Ends w t m m d (done (continues (Some label)) env' k)) (sym q.is)
            (gone (tail_jump vs q.final (q.same ∙ sym (ap (λ b. (if b then reply (answer.Value val.Null) k else r).answer) is)) e long h is))

    -- where the arguments have values: the parameters are set to them
    tail_moved : (t : Labels) (m : Slots) (vs : List Value) (env env₂ : Env) (k pos : ℕ) (ps : List Stmt) → length vs ≡ p → length env₂ ≡ size' → p ≤ size' → ((i : ℕ) → i < p → at env₂ (p + i) ≡ at vs i) → moves_slots typed p 0 p ps
        → Ends w t m m (replied (go vs k) give env) (in_row (rows (ps ++ (null_ends part.function.strict (slots_from p 0) ++ (stmt.Continue (Some label) None ∷ [])))) pos env₂ k)
    tail_moved t m vs env env₂ k pos ps e long room h moves =
        let tail = null_ends part.function.strict (slots_from p 0) ++ (stmt.Continue (Some label) None ∷ []) in
        let q = moves_run T n laws typed p 0 p ps tail pos env₂ k moves (omega arith) (omega (arith, long, room)) in
        let holds : (i : ℕ) → i < p → at q.env' i ≡ at vs i = λ i lt. ap (at q.env') (omega arith) ∙ q.there i lt ∙ h i lt in
        subst (λ d. Ends w t m m (replied (go vs k) give env) d) (sym (q.is ∙ null_tested T n laws typed part.function.strict (slots_from p 0) (stmt.Continue (Some label) None ∷ []) pos q.env' k))
        (subst (λ b. Ends w t m m (replied (go vs k) give env) (if part.function.strict && b then done (returns val.Null) q.env' k else done (continues (Some label)) q.env' k))
        (sym (nulls_same T p 0 vs q.env' e (λ i lt. ap (at q.env') (omega arith) ∙ holds i (omega (arith, lt, e)))))
        (jumped t m vs env q.env' k e (sym q.outside.long ∙ long) holds))

    tail_set : (t : Labels) (m : Slots) (env env₁ : Env) (k pos : ℕ) (ps : List Stmt) (vs : Or (List Value)) (d : Done) → length env₁ ≡ size' → p + p ≤ size' → moves_slots typed p 0 p ps
        → Sets env₁ k p p (in_row (rows (ps ++ (null_ends part.function.strict (slots_from p 0) ++ (stmt.Continue (Some label) None ∷ [])))) pos) vs d → Ends w t m m (replied (by_values vs go k) give env) d
    tail_set t m env env₁ k pos ps _ _ long room moves stopped = gone tail_fault
    tail_set t m env env₁ k pos ps _ _ long room moves (passed {vs = vs} {env' = env₂} e o h) = tail_moved t m vs env env₂ k pos ps e (sym o.long ∙ long) (omega (arith, room)) h moves

    -- what is in sight stands apart from the slots of the arguments
    apart : (held : Held) (m : Slots) (i j : ℕ) → ((l : ℕ) → held l ≡ queued p l) → Ready held m i j → (k l : ℕ) → m k ≡ Some l → (l < p) ⊎ (p + p ≤ l)
    apart held m i j e r k l h = by (nat_lt l p) (nat_lt l (p + p)) refl refl (sym (e l) ∙ r.free k l h)
      where
        by : (a b : Bool) → nat_lt l p ≡ a → nat_lt l (p + p) ≡ b → (not a && b) ≡ false → (l < p) ⊎ (p + p ≤ l)
        by true b x y z = inl (grind (arith, nat_tests))
        by false false x y z = inr (grind (arith, nat_tests))
        by false true x y z = absurd (false≢true (sym z))

    tail_sim : (c : Place) (args : List Expr) (x : Stmt) → TailBecomes n typed part.function label c args x → Ready (queued p) c.slots c.at c.at' → p + p ≤ size'
        → Sim w c.labels c.slots c.slots (λ env k. replied (by_values (each (λ a. (over T part.slots).value a env) args) go k) give env) ((runs x).run c.at')
    tail_sim c args x h ready room env env' k a =
        let tail = null_ends part.function.strict (slots_from p 0) ++ (stmt.Continue (Some label) None ∷ []) in
        let body = h.qs ++ (h.ps ++ tail) in
        subst (λ y. Ends w c.labels c.slots c.slots (replied (by_values (each (λ a. (over T part.slots).value a env) args) go k) give env) (y.run c.at' env' k)) (sym (ap runs h.is ∙ of_block (running (over T typed)) None [] body h.closing))
        (subst (λ d. Ends w c.labels c.slots c.slots (replied (by_values (each (λ a. (over T part.slots).value a env) args) go k) give env) d) (sym (close_nameless (in_row (rows body) (c.at' + 0) env' k)))
        (tail_set c.labels c.slots env env' k (c.at' + 0) h.ps (each (λ a. (over T part.slots).value a env) args) (in_row (rows body) (c.at' + 0) env' k) a.long' room h.moves
        (subst (λ i. Sets env' k p i (in_row (rows (h.ps ++ tail)) (c.at' + 0)) (each (λ a. (over T part.slots).value a env) args) (in_row (rows body) (c.at' + 0) env' k)) h.as_many
        (sets_run T n laws typed c.slots env args h.qs (h.ps ++ tail) p (c.at' + 0) env' k h.sets (omega (arith, room, a.long', h.as_many))
        (λ env₁ o i j is. a.values i j is ∙ sym (o.values j (elim (apart (queued p) c.slots c.at c.at' (λ l. refl) ready i j is) [ inl lt ↦ inl lt | inr le ↦ inr (omega (arith, le, h.as_many)) ])))))))

    -- ---- the facts of the body

    give_alike : (t : Labels) (m : Slots) (v : Or Value) (env env' : Env) (k : ℕ) → Agree w m env env' → Ends w t m m (give v env k) (give v env' k)
    give_alike t m (Err c) env env' k a = off both_fault a
    give_alike t m (Ok v) env env' k a = gone tail_value

    return_sim : p + p ≤ size' → (c : Place) (e : Expr) (x : Stmt) → AtReturn (names_of (part ∷ [])) n typed part.function label c e x → Ready (queued p) c.slots c.at c.at' → Sim w c.labels c.slots c.slots (λ env k. replied (ask e env k) give env) ((runs x).run c.at')
    return_sim room c e x (returns_value nobody e' same is) ready env env' k a =
        subst (λ o. Ends w c.labels c.slots c.slots (replied (asked_at (over T part.slots) o (λ i. again part T (suc fuel)) e env k) give env) ((runs x).run c.at' env' k)) (sym nobody)
        (subst (λ d. Ends w c.labels c.slots c.slots d ((runs x).run c.at' env' k)) (sym (heard_plain ((over T part.slots).value e env) give env k))
        (subst (λ y. Ends w c.labels c.slots c.slots (give ((over T part.slots).value e env) env k) (y.run c.at' env' k)) (sym (ap runs is))
        (subst (λ v. Ends w c.labels c.slots c.slots (give v env k) (give ((over T typed).value e' env') env' k)) (sym (laws.value c.slots e e' same env env' a.values))
        (give_alike c.labels c.slots ((over T typed).value e' env') env env' k a))))
    return_sim room c e x (calls_itself args is h) ready env env' k a =
        subst (λ o. Ends w c.labels c.slots c.slots (replied (asked_at (over T part.slots) o (λ i. again part T (suc fuel)) e env k) give env) ((runs x).run c.at' env' k)) (sym is)
        (tail_sim c args x h ready room env env' k a)

    assignment_sim : (c : Place) (slot : Option ℕ) (e : Expr) (x : Stmt) → AtAssignment (names_of (part ∷ [])) n part.slots typed c slot e x → Ready (queued p) c.slots c.at c.at' → Sim w c.labels c.slots c.slots (λ env k. replied (ask e env k) (assign (over T part.slots) slot) env) ((runs x).run c.at')
    assignment_sim c slot e x h ready env env' k a =
        subst (λ o. Ends w c.labels c.slots c.slots (replied (asked_at (over T part.slots) o (λ i. again part T (suc fuel)) e env k) (assign (over T part.slots) slot) env) ((runs x).run c.at' env' k)) (sym h.nobody)
        (subst (λ d. Ends w c.labels c.slots c.slots d ((runs x).run c.at' env' k)) (sym (heard_plain ((over T part.slots).value e env) (assign (over T part.slots) slot) env k))
        (subst (λ v. Ends w c.labels c.slots c.slots (assign (over T part.slots) slot v env k) ((runs x).run c.at' env' k)) (sym (laws.value c.slots e h.value h.same env env' a.values))
        ((assign_tails T n laws typed w part.slots ask c.labels c.slots c.at c.at' ready slot).alike h.value x h.assigns c.at' env env' k a)))

    facts : p + p ≤ size' → Facts w (over T part.slots) (over T typed) ask (tail_rules part n typed label)
    facts room = record {
      types = refl;
      types' = refl;
      null = refl;
      null' = refl;
      way = refl;
      value = λ m e e' h env env' a. laws.value m e e' h env env' a.values;
      marks = λ m s s' h. laws.marks m s s' h;
      rows = λ m s s' h env env' a. laws.rows m s s' h env env' a.values;
      assigned = λ c slot e x h stands. assignment_sim c slot e x h stands.ready;
      returned = λ c e x h stands. return_sim room c e x h stands.ready;
    }

    -- ---- one turn

    turned : (rest : Unit {0} → Step) (bound : ℕ) (m : Slots) (d d' : Done) → Ends w no_labels m m d d' → d'.left ≤ bound
        → ((vs : List Value) (env : Env) (k : ℕ) → k ≤ bound → length vs ≡ p → length env ≡ size' → ((t : ℕ) → t < p → at env t ≡ at vs t) → (part.function.strict && list_any is_null vs) ≡ false → answer_of (rest tt env k).outcome ≡ (go vs k).answer)
        → answer_of (finished (Some label) (Ok (Some tt)) rest (and_then d' (λ env n. done (faults no_return) env n))).outcome ≡ answer_of d.outcome
    turned rest bound m _ _ (on a) le q = refl
    turned rest bound m _ _ (off (both_exit {l = l} {l' = l'} h) a) le q = absurd (no_name l l' h)
    turned rest bound m _ _ (off (both_continue {l = l} {l' = l'} h) a) le q = absurd (no_name l l' h)
    turned rest bound m _ _ (off both_fault a) le q = refl
    turned rest bound m _ _ (off both_more a) le q = refl
    turned rest bound m _ _ (gone tail_value) le q = refl
    turned rest bound m _ _ (gone tail_fault) le q = refl
    turned rest bound m _ _ (gone (tail_jump {env' = env'} {k = k} vs fin same e long h nn)) le q =
        ap (λ b. answer_of (ended (if b then goes_again else leave (continues (Some label))) (Ok (Some tt)) rest env' k).outcome) ((bytes_eq-Decides label label).1 refl)
        ∙ q vs env' k le e long h nn ∙ sym same

  -- ---- all turns

  tail_ready : Ready (queued p) (put_from p 0 0 no_slots) p (p + p)
  tail_ready = record {
    below = λ k l h. elim (in_puts p 0 0 no_slots k l h) [ inl t ↦ omega (arith, t.1.0, t.1.1) | inr none ↦ absurd (none_is_not_some l none) ];
    under = λ k l h. elim (in_puts p 0 0 no_slots k l h) [ inl t ↦ omega (arith, t.1.0, t.1.2) | inr none ↦ absurd (none_is_not_some l none) ];
    free = λ k l h. elim (in_puts p 0 0 no_slots k l h) [ inl t ↦ before l (omega (arith, t.1.0, t.1.2)) | inr none ↦ absurd (none_is_not_some l none) ];
    one = λ k k' l h h'. elim (in_puts p 0 0 no_slots k l h) [
      | inl t ↦ elim (in_puts p 0 0 no_slots k' l h') [ inl t' ↦ omega (arith, t.1.1, t.1.2, t'.1.1, t'.1.2) | inr none ↦ absurd (none_is_not_some l none) ]
      | inr none ↦ absurd (none_is_not_some l none)
    ];
    room = behind;
  }
    where
      before : (l : ℕ) → l < p → queued p l ≡ false
      before l lt = ap (λ b. not b && nat_lt l (p + p)) is
        where
          is : nat_lt l p ≡ true
          is = grind (arith, nat_tests)

      behind : (l : ℕ) → p + p ≤ l → queued p l ≡ false
      behind l le = ap (λ b. not (nat_lt l p) && b) is ∙ never (not (nat_lt l p))
        where
          is : nat_lt l (p + p) ≡ false
          is = grind (arith, nat_tests)

          never : (b : Bool) → (b && false) ≡ false
          never true = refl
          never false = refl

  module _ (x : Stmt) (raised : Raised) (raises : class_of raised ≡ no_return) (h : becomes (tail_rules part n typed label) part.function.body (tail_place p) x) (room : p + p + counted x ≤ size') where
    abbrev g : Step
    g = in_row (rows (x ∷ stmt.Raise raised ∷ [])) (p + p)

    steady : Spends g
    steady = list_spends (over T typed) (x ∷ stmt.Raise raised ∷ []) (p + p)

    turn_agrees : (b : ℕ) (vs : List Value) (env : Env) (go : List Value → ℕ → Reply) → length vs ≡ p → length env ≡ size' → ((t : ℕ) → t < p → at env t ≡ at vs t)
        → Agree (tail_world part.function go label p size' (p + b) env) (put_from p 0 0 no_slots) (vs ++ replicate b val.Null) env
    turn_agrees b vs env go e long holds = record {
      long = length-append vs (replicate b val.Null) ∙ ap (λ z. z + length (replicate b val.Null)) e ∙ ap (λ z. p + z) (length-replicate b val.Null);
      long' = long;
      values = λ k l is. elim (in_puts p 0 0 no_slots k l is) [
        | inl t ↦ ap (at (vs ++ replicate b val.Null)) (same k l t.0 t.1.1 t.1.2) ∙ get_or_append_left vs (replicate b val.Null) val.Null l (omega (arith, t.1.0, t.1.2, e)) ∙ sym (holds l (omega (arith, t.1.0, t.1.2)))
        | inr none ↦ absurd (none_is_not_some l none)
      ];
      inside = λ k l is. elim (in_puts p 0 0 no_slots k l is) [
        | inl t ↦ (omega (arith, t.1.0, t.1.1), omega (arith, t.1.0, t.1.2, room))
        | inr none ↦ absurd (none_is_not_some l none)
      ];
      kept = λ j lt. refl;
    }
      where
        same : (k l t : ℕ) → k ≡ 0 + t → l ≡ 0 + t → k ≡ l
        same k l t a b = omega (arith, a, b)

    -- the loop from some variables on answers as the function does from the parameters' values
    looped : (fuel : ℕ) (vs : List Value) (env : Env) (k : ℕ) → k ≤ fuel → length vs ≡ p → length env ≡ size' → ((t : ℕ) → t < p → at env t ≡ at vs t) → (part.function.strict && list_any is_null vs) ≡ false
        → answer_of (turning always (Some label) g tt env k).outcome ≡ (again part T (suc fuel) vs k).answer
    looped fuel vs env zero le e long holds nn =
        ap (λ d. answer_of d.outcome) (a_turn always (Some label) g steady tt env zero)
        ∙ sym (ap (λ b. (if b then reply (answer.Value val.Null) zero else one_turn zero (ran part.function (body_of (part ∷ []) T (λ i. again part T fuel) part) vs)).answer) nn)
    looped zero vs env (suc k) le e long holds nn = absurd (omega (arith, le))
    looped (suc fuel) vs env (suc k) le e long holds nn =
        ap (λ d. answer_of d.outcome) (a_turn always (Some label) g steady tt env (suc k))
        ∙ ap (λ c. answer_of (finished (Some label) (Ok (Some tt)) (turning always (Some label) g) (and_then ((runs x).run (p + p) env k) (λ env n. done (faults c) env n))).outcome) raises
        ∙ turned fuel (p + B.vars) env (turning always (Some label) g) k (put_from p 0 0 no_slots) (B.run p (vs ++ replicate B.vars val.Null) k) ((runs x).run (p + p) env k)
        (sim (w fuel (p + B.vars) env) (over T part.slots) (over T typed) (ask fuel (p + B.vars) env) (tail_rules part n typed label) (facts fuel (p + B.vars) env (omega (arith, room))) part.function.body (tail_place p) x h
        (record { ready = tail_ready; room = omega (arith, asking_takes (over T part.slots) (ask fuel (p + B.vars) env) part.function.body); room' = room })
        (vs ++ replicate B.vars val.Null) env k (turn_agrees B.vars vs env (go fuel (p + B.vars) env) e long holds))
        (statement_spends (over T typed) x (p + p) env k)
        (λ vs env j le' e long holds nn. looped fuel vs env j (omega (arith, le, le')) e long holds nn)
        ∙ sym (ap (λ b. (if b then reply (answer.Value val.Null) (suc k) else ran part.function B vs k).answer) nn)
      where
        B : StatementMeaning
        B = body_of (part ∷ []) T (λ i. again part T (suc fuel)) part

-- ---- the whole

module _ (T : List Rows) (n : Renaming) (laws : Renames T n) (typed : List (Ty × Bool)) where
  -- declarations without defaults change nothing below them
  record Cleared (i : ℕ) (env : Env) (k : ℕ) (d : Done) : Type 0 where
    env' : Env
    kept : Kept i env env'
    is : d ≡ done normal env' k

  clears : (ds : List Decl) (i : ℕ) (env : Env) (k : ℕ) → plain_decls typed i ds → Cleared i env k (declare (over T typed) ds i env k)
  clears [] i env k h = record { env' = env; kept = kept_same i env; is = refl }
  clears (d ∷ ds) i env k (default, null, rest) =
      let q = clears ds (suc i) (slice_set env i val.Null) k rest in
      record {
        env' = q.env';
        kept = kept_then i (suc i) env (slice_set env i val.Null) q.env' (omega arith) (kept_set i env i val.Null (omega arith)) q.kept;
        is = ap (λ o. and_then (put (over T typed) i (initial (over T typed).value o env) env k) (declare (over T typed) ds (suc i))) default
            ∙ ap (λ b. and_then (stored (b && true) i val.Null env k) (declare (over T typed) ds (suc i))) null ∙ q.is;
      }

  pub untailed_answers : (part : Part) (f : Function) → IsUntailed part n f typed → (args : List Value) (turns : ℕ) → length args ≡ length f.params → function_answer (over T typed) f args turns ≡ rec part T args turns
  untailed_answers part f h args turns long =
      ap (λ b. if b && list_any is_null args then answer.Value val.Null else answer_of ((stmt_of (running (over T typed)) f.body).run (length f.params) (begun (over T typed) f args) turns).outcome) h.strict
      ∙ by (part.function.strict && list_any is_null args) refl
    where
      p : ℕ
      p = length part.function.params

      same_params : length f.params ≡ p
      same_params = h.params

      loop : Stmt
      loop = stmt.Loop (Some h.label) kind.Plain (h.body ∷ stmt.Raise h.raised ∷ []) h.closing

      vars : ℕ
      vars = (stmt_of (running (over T typed)) f.body).vars

      first : Env
      first = args ++ replicate vars val.Null

      vars_are : vars ≡ length h.qs + sizes (loop ∷ [])
      vars_are = statement_takes (over T typed) f.body ∙ ap counted h.is ∙ of_block slot_counting None h.qs (loop ∷ []) h.end

      loop_size : counted loop ≡ 0 + sizes (h.body ∷ stmt.Raise h.raised ∷ [])
      loop_size = of_loop slot_counting (Some h.label) kind.Plain (h.body ∷ stmt.Raise h.raised ∷ []) h.closing

      room : p + p + counted h.body ≤ p + vars
      room = omega (arith, vars_are, more_of loop [], loop_size, more_of h.body (stmt.Raise h.raised ∷ []), h.as_many, same_params)

      first_long : length first ≡ p + vars
      first_long = length-append args (replicate vars val.Null) ∙ ap (λ z. z + length (replicate vars val.Null)) (long ∙ same_params) ∙ ap (λ z. p + z) (length-replicate vars val.Null)

      cleared : Cleared (length f.params) first turns (declare (over T typed) h.qs (length f.params) first turns)
      cleared = clears h.qs (length f.params) first turns h.plain

      holds : (t : ℕ) → t < p → at cleared.env' t ≡ at args t
      holds t lt = cleared.kept.values t (omega (arith, lt, same_params)) ∙ get_or_append_left args (replicate vars val.Null) val.Null t (omega (arith, lt, same_params, long))

      run : (part.function.strict && list_any is_null args) ≡ false → answer_of ((stmt_of (running (over T typed)) f.body).run (length f.params) first turns).outcome ≡ (again part T (suc turns) args turns).answer
      run nn =
          ap (λ y. answer_of (y.run (length f.params) first turns).outcome) (ap (λ s. stmt_of (running (over T typed)) s) h.is ∙ of_block (running (over T typed)) None h.qs (loop ∷ []) h.end)
          ∙ ap (λ d. answer_of d.outcome) (close_nameless (and_then (declare (over T typed) h.qs (length f.params) first turns) (in_row (rows T n laws typed part h.label (p + vars) (loop ∷ [])) (length f.params + length h.qs))))
          ∙ ap (λ d. answer_of (and_then d (in_row (rows T n laws typed part h.label (p + vars) (loop ∷ [])) (length f.params + length h.qs))).outcome) cleared.is
          ∙ ap (λ d. answer_of d.outcome) (then_nothing ((stmt_of (running (over T typed)) loop).run (length f.params + length h.qs) cleared.env' turns) (length f.params + length h.qs + (stmt_of (running (over T typed)) loop).vars))
          ∙ ap (λ y. answer_of (y.run (length f.params + length h.qs) cleared.env' turns).outcome) (of_loop (running (over T typed)) (Some h.label) kind.Plain (h.body ∷ stmt.Raise h.raised ∷ []) h.closing)
          ∙ ap (λ i. answer_of (turning always (Some h.label) (in_row (rows T n laws typed part h.label (p + vars) (h.body ∷ stmt.Raise h.raised ∷ [])) i) tt cleared.env' turns).outcome) (omega (arith, same_params, h.as_many))
          ∙ looped T n laws typed part h.label (p + vars) h.body h.raised h.raises h.becomes room turns args cleared.env' turns (omega arith) (long ∙ same_params) (sym cleared.kept.long ∙ first_long) holds nn

      by : (b : Bool) → (part.function.strict && list_any is_null args) ≡ b → (if b then answer.Value val.Null else answer_of ((stmt_of (running (over T typed)) f.body).run (length f.params) first turns).outcome) ≡ (again part T (suc turns) args turns).answer
      by true is = sym (ap (λ b. (if b then reply (answer.Value val.Null) turns else one_turn turns (ran part.function (body_of (part ∷ []) T (λ i. again part T turns) part) args)).answer) is)
      by false is = run is
