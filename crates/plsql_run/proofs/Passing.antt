-- What FOR needs before it goes on, one value after the other.
use Rattle.std.proofs.Common.{◌≡◌, sym, ◌∙◌, subst, ℕ, Result, Ok, Err}
use Rattle.away_values.specs.declared.values.Value.{Value}
use Rattle.away_values.specs.declared.errors.OpError.{OpError}
use Rattle.away_values.specs.declared.errors.OpError.TheVariants as error
use Rattle.plsql_meaning.specs.Outcomes.{Env, Done, Step, faults}
use Rattle.plsql_run.specs.Continues.{Fails, Passes}

-- what runs as something that fails, fails
pub fails_like : (step step' : ℕ → Done) (e : OpError) → ((n : ℕ) → step n ≡ step' n) → Fails step' e → Fails step e
fails_like step step' (error.Class c) same h = λ n. subst (λ d. d.outcome ≡ faults c) (sym (same n)) (h n)
fails_like step step' error.NoMemory same h = tt

-- a second need behind a first
pub passes_then : (first : (Value → Step) → Step) (second : (Value → Step) → Value → Step) (env : Env) (v : Value) (r : Result Value OpError) →
    ((go : Value → Step) (n : ℕ) → first go env n ≡ go v env n) → Passes (λ go. second go v) env r → Passes (λ go. first (second go)) env r
passes_then first second env v (Ok x) h k = λ go n. h (second go) n ∙ k go n
passes_then first second env v (Err e) h k = λ go. fails_like (first (second go) env) (second go v env) e (λ n. h (second go) n) (k go)
