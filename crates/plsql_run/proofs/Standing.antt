-- Where a whole run stands between two turns.
use Rattle.std.proofs.Common.{◌≡◌, refl, sym, ap, ◌∙◌, subst, ℕ, suc, List, [], Ok}
use Rattle.away_values.specs.declared.errors.OpError.{OpError}
use Rattle.away_values.specs.declared.errors.OpError.TheVariants as error
use Rattle.away_values.specs.declared.values.Answer.TheVariants as answer
use Rattle.plsql_meaning.specs.Outcomes.{Env, more, normal, returns, faults, Done, done}
use Rattle.plsql_meaning.specs.Loops.{taken}
use Rattle.plsql_meaning.specs.Functions.{answer_of}
use Rattle.plsql_meaning.specs.Statements.{Setting}
use Rattle.plsql_run.specs.declared.frames.Frame.{Frame}
use Rattle.plsql_run.specs.declared.frames.Signal.{Signal}
use Rattle.plsql_run.specs.declared.frames.Signal.TheVariants as signal
use Rattle.plsql_run.specs.Continues.{Goes, Fails, IfEnds, Stands, unwound}
use Rattle.plsql_run.proofs.Unwound.{passes}

module _ (set : Setting) where
  pub stands_at : (whole : ℕ → Done) (total : Done) (stack : List Frame) (env : Env) (n : ℕ) (s : Signal) → whole n ≡ total → Goes set whole stack env (Ok s) → IfEnds (Ok s) (stack ≡ []) → Stands set total stack env n s
  stands_at whole total stack env n (signal.Ends w) e h empty = (empty, h n ∙ e)
  stands_at whole total stack env n (signal.Returns v) e h empty = subst (λ d. d.outcome ≡ returns v) e (h n)
  stands_at whole total stack env n signal.Turn e h empty = h n ∙ e

  -- a turn is wanted and none is left
  pub wants_more : (total : Done) (stack : List Frame) (env : Env) (n : ℕ) (s : Signal) → s ≡ signal.Turn → n ≡ 0 → Stands set total stack env n s → answer.More ≡ answer_of total.outcome
  wants_more total stack env n s is none h =
      let x = subst (λ k. unwound set stack (taken env k (done normal)) ≡ total) none (subst (λ s. Stands set total stack env n s) is h) in
      sym (ap answer_of (sym (ap (λ d. d.outcome) x) ∙ passes set stack more tt (done more env 0) refl))

  -- a turn is taken
  pub takes_turn : (total : Done) (stack : List Frame) (env : Env) (n m : ℕ) (s : Signal) → s ≡ signal.Turn → n ≡ suc m → Stands set total stack env n s → unwound set stack (done normal env m) ≡ total
  takes_turn total stack env n m s is some h = subst (λ k. unwound set stack (taken env k (done normal)) ≡ total) some (subst (λ s. Stands set total stack env n s) is h)

pub fails_at : (whole : ℕ → Done) (n : ℕ) (total : Done) (e : OpError) → whole n ≡ total → Fails whole e → Fails (λ k. total) e
fails_at whole n total (error.Class c) same h = λ k. subst (λ d. d.outcome ≡ faults c) same (h n)
fails_at whole n total error.NoMemory same h = tt
