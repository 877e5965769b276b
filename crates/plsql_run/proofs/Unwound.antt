-- What a stack makes of an end.
use Rattle.std.proofs.Common.{◌≡◌, slice_set, refl, sym, ap, ◌∙◌, subst, ℕ, zero, suc, true, List, [], ◌∷◌, ◌++◌, Some, Result, Ok, Err}
use Rattle.away_values.specs.declared.values.Value.{Value}
use Rattle.away_values.specs.declared.values.Class.{Class}
use Rattle.away_values.specs.Operators.{is_true}
use Rattle.away_values.specs.Results.{Or, Answers, mapped}
use Rattle.plsql_meaning.specs.Outcomes.{Env, Label, Outcome, normal, exits, continues, returns, faults, more, Done, done, Step, and_then}
use Rattle.plsql_meaning.specs.Loops.{Turning, taken, started, finished, turning, while, going, reaches}
use Rattle.plsql_meaning.specs.Statements.{Setting}
use Rattle.plsql_meaning.proofs.Spends.{list_spends, a_turn}
use Rattle.plsql_run.specs.Places.{ListPosition}
use Rattle.plsql_run.specs.declared.frames.Counting.{Counting}
use Rattle.plsql_run.specs.declared.frames.Frame.{Frame}
use Rattle.plsql_run.specs.declared.frames.Frame.TheVariants as frame
use Rattle.away_values.specs.declared.errors.OpError.{OpError}
use Rattle.away_values.specs.declared.errors.OpError.TheVariants as error
use Rattle.plsql_run.specs.declared.frames.Signal.{Signal}
use Rattle.plsql_run.specs.declared.frames.Signal.TheVariants as signal
use Rattle.plsql_run.specs.Continues.{body_of, count_of, resumed, unwound, Goes, Fails, Ended}

-- an end behind which nothing of the function runs
abbrev pub IsFinal : Outcome → Type 0
IsFinal normal = ⊥
IsFinal (exits l) = ⊥
IsFinal (continues l) = ⊥
IsFinal (returns v) = Unit {0}
IsFinal (faults c) = Unit {0}
IsFinal more = Unit {0}

module _ (set : Setting) where
  -- the frame on top is the first that goes on
  pub unwound_push : (fs : List Frame) (f : Frame) (d : Done) → unwound set (fs ++ f ∷ []) d ≡ unwound set fs (resumed set f d)
  unwound_push [] f d = refl
  unwound_push (g ∷ fs) f d = ap (resumed set g) (unwound_push fs f d)

  pub unwound_on : (fs gs : List Frame) (f : Frame) → gs ≡ fs ++ f ∷ [] → (d : Done) → unwound set gs d ≡ unwound set fs (resumed set f d)
  unwound_on fs gs f e d = ap (λ x. unwound set x d) e ∙ unwound_push fs f d

  resumed_at : (f : Frame) (o : Outcome) → IsFinal o → (env : Env) (n : ℕ) → resumed set f (done o env n) ≡ done o env n
  resumed_at f normal final env n = absurd final
  resumed_at f (exits l) final env n = absurd final
  resumed_at f (continues l) final env n = absurd final
  resumed_at (frame.Rest p) (returns v) final env n = refl
  resumed_at (frame.Rest p) (faults c) final env n = refl
  resumed_at (frame.Rest p) more final env n = refl
  resumed_at (frame.Block l) (returns v) final env n = refl
  resumed_at (frame.Block l) (faults c) final env n = refl
  resumed_at (frame.Block l) more final env n = refl
  resumed_at (frame.Plain l p) (returns v) final env n = refl
  resumed_at (frame.Plain l p) (faults c) final env n = refl
  resumed_at (frame.Plain l p) more final env n = refl
  resumed_at (frame.While l e p) (returns v) final env n = refl
  resumed_at (frame.While l e p) (faults c) final env n = refl
  resumed_at (frame.While l e p) more final env n = refl
  resumed_at (frame.Count counter k) (returns v) final env n = refl
  resumed_at (frame.Count counter k) (faults c) final env n = refl
  resumed_at (frame.Count counter k) more final env n = refl

  unwound_at : (fs : List Frame) (o : Outcome) → IsFinal o → (env : Env) (n : ℕ) → unwound set fs (done o env n) ≡ done o env n
  unwound_at [] o final env n = refl
  unwound_at (f ∷ fs) o final env n = ap (resumed set f) (unwound_at fs o final env n) ∙ resumed_at f o final env n

  -- a final end passes through the whole stack
  pub passes : (fs : List Frame) (o : Outcome) → IsFinal o → (d : Done) → d.outcome ≡ o → (unwound set fs d).outcome ≡ o
  passes fs o final d e = subst (λ x. (unwound set fs (done x d.env d.left)).outcome ≡ o) (sym e) (ap (λ x. x.outcome) (unwound_at fs o final d.env d.left))

  pub resumed_passes : (f : Frame) (o : Outcome) → IsFinal o → (d : Done) → d.outcome ≡ o → (resumed set f d).outcome ≡ o
  resumed_passes f o final d e = subst (λ x. (resumed set f (done x d.env d.left)).outcome ≡ o) (sym e) (ap (λ x. x.outcome) (resumed_at f o final d.env d.left))

  -- A loop's frame with the loop's body on it, as a turn begins.
  turn_of : (f : Frame) (p : ListPosition) (env : Env) (n : ℕ) → resumed set f (and_then (taken env n (done normal)) (body_of set p)) ≡ taken env n (λ e m. resumed set f (body_of set p e m))
  turn_of f p env zero = resumed_at f more tt env 0
  turn_of f p env (suc n) = refl

  pub turn_begins : (fs gs hs : List Frame) (f : Frame) (p : ListPosition) → gs ≡ fs ++ f ∷ [] → hs ≡ gs ++ frame.Rest p ∷ [] → (env : Env) (n : ℕ) →
      unwound set hs (taken env n (done normal)) ≡ unwound set fs (taken env n (λ e m. resumed set f (body_of set p e m)))
  turn_begins fs gs hs f p e e' env n = unwound_on gs hs (frame.Rest p) e' (taken env n (done normal)) ∙ unwound_on fs gs f e _ ∙ ap (unwound set fs) (turn_of f p env n)

  -- the equation of loops, whose body is a place
  pub loop_turn : {S : Type 0} (t : Turning S) (own : Label) (p : ListPosition) (z : S) (env : Env) (n : ℕ) →
      turning t own (body_of set p) z env n ≡ started (t.begin z env) env n (λ begun m. finished own (t.next z) (turning t own (body_of set p)) (body_of set p begun m))
  loop_turn t own p z env n = a_turn t own (body_of set p) (list_spends set p.list p.at) z env n

  -- the same, of a whole that is told otherwise
  pub goes_as : {whole whole' : ℕ → Done} (stack : List Frame) (env : Env) (r : Result Signal OpError) → ((n : ℕ) → whole n ≡ whole' n) → Goes set whole stack env r → Goes set whole' stack env r
  goes_as stack env (Ok (signal.Ends w)) e h = λ n. h n ∙ e n
  goes_as stack env (Ok (signal.Returns v)) e h = λ n. subst (λ d. d.outcome ≡ returns v) (e n) (h n)
  goes_as stack env (Ok signal.Turn) e h = λ n. h n ∙ e n
  goes_as stack env (Err (error.Class c)) e h = λ n. subst (λ d. d.outcome ≡ faults c) (e n) (h n)
  goes_as stack env (Err error.NoMemory) e h = tt

  pub fails_under : (fs : List Frame) (step : ℕ → Done) (e : OpError) → Fails step e → Fails (λ n. unwound set fs (step n)) e
  fails_under fs step (error.Class c) h = λ n. passes fs (faults c) tt (step n) (h n)
  fails_under fs step error.NoMemory h = tt

  pub fails_resumed : (f : Frame) (step : ℕ → Done) (e : OpError) → Fails step e → Fails (λ n. resumed set f (step n)) e
  fails_resumed f step (error.Class c) h = λ n. resumed_passes f (faults c) tt (step n) (h n)
  fails_resumed f step error.NoMemory h = tt

  -- a statement that puts nothing on the stack
  pub ended_goes : (fs : List Frame) (step : Step) (old new : Env) (r : Result Signal OpError) → Ended step old new r → Goes set (λ n. unwound set fs (step old n)) fs new r
  ended_goes fs step old new (Ok (signal.Ends w)) h = λ n. ap (unwound set fs) (sym (h n))
  ended_goes fs step old new (Ok (signal.Returns v)) h = λ n. passes fs (returns v) tt (step old n) (h n)
  ended_goes fs step old new (Ok signal.Turn) h = absurd h
  ended_goes fs step old new (Err e) h = fails_under fs (step old) e h

  -- ---- turns of WHILE and FOR

  pub while_fails : (fs : List Frame) (l : Label) (test : Env → Or Value) (p : ListPosition) (env : Env) (c : Class) → test env ≡ Err c → (n : ℕ) → (unwound set fs (turning (while test) l (body_of set p) tt env n)).outcome ≡ faults c
  while_fails fs l test p env c e n = passes fs (faults c) tt _ (ap (λ d. d.outcome) (loop_turn (while test) l p tt env n) ∙ ap (λ r. (started (mapped (λ v. going (is_true v) env) r) env n (λ begun m. finished l (Ok (Some tt)) (turning (while test) l (body_of set p)) (body_of set p begun m))).outcome) e)

  pub while_turn : (l : Label) (test : Env → Or Value) (p : ListPosition) (env : Env) (v : Value) → test env ≡ Ok v → is_true v ≡ true → (n : ℕ) →
      taken env n (λ e m. finished l (Ok (Some tt)) (turning (while test) l (body_of set p)) (body_of set p e m)) ≡ turning (while test) l (body_of set p) tt env n
  while_turn l test p env v e holds n = sym (loop_turn (while test) l p tt env n
      ∙ ap (λ r. started (mapped (λ v. going (is_true v) env) r) env n (λ begun m. finished l (Ok (Some tt)) (turning (while test) l (body_of set p)) (body_of set p begun m))) e
      ∙ ap (λ b. started (Ok (going b env)) env n (λ begun m. finished l (Ok (Some tt)) (turning (while test) l (body_of set p)) (body_of set p begun m))) holds)

  -- the rest of a FOR behind its body
  abbrev pub counting_on : Counting → Value → Done → Done
  counting_on k counter = finished k.label.now ((count_of k).next counter) (turning (count_of k) k.label.now (body_of set k.body))

  pub count_turn : (k : Counting) (counter : Value) (env : Env) → is_true (reaches k.reverse counter k.last) ≡ true → (n : ℕ) →
      taken (slice_set env k.var counter) n (λ e m. counting_on k counter (body_of set k.body e m)) ≡ turning (count_of k) k.label.now (body_of set k.body) counter env n
  count_turn k counter env holds n = sym (loop_turn (count_of k) k.label.now k.body counter env n
      ∙ ap (λ b. started (Ok (going b (slice_set env k.var counter))) env n (λ begun m. counting_on k counter (body_of set k.body begun m))) holds)

-- a call of the evaluator that fails
pub fails_as : {A : Type 0} (whole : ℕ → Done) (r : Or A) (e : OpError) → Answers r (Err e) → ((c : Class) → r ≡ Err c → (n : ℕ) → (whole n).outcome ≡ faults c) → Fails whole e
fails_as whole r (error.Class c) a h = h c a
fails_as whole r error.NoMemory a h = tt
