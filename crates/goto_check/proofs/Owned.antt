-- When a block is once, by how many parts have it.
use Rattle.std.proofs.Common.{◌≡◌, ℕ, zero, suc, ◌+◌, ◌≤◌, Bool, true, false, not, List, ◌↔◌, IsTrue, refl, sym, ap, ◌∙◌, arith}
use Rattle.block_forms.specs.Lowered.{owners, sharers}
use Rattle.block_forms.specs.Patterns.{Part}
use Rattle.goto_check.specs.declared.runs.Run.{Run}
use Rattle.goto_check.specs.declared.runs.Run.TheVariants.{Empty}
use Rattle.goto_check.specs.Runs.{repeated}
use Rattle.goto_check.specs.AnswerRuns.{IsOnce}
use Rattle.goto_check.proofs.JoinedRuns.{repeated_none}

pub shared_once : (ps : List Part) (b : ℕ) (r : Run) (e : Bool) → owners b ps ≡ 0 → r ≡ repeated (sharers b ps) b → IsTrue e ↔ (r ≡ Empty) → IsTrue (not e) ↔ IsOnce ps b
shared_once ps b r true none is empty = (
  λ t. absurd (cc),
  λ o. let k = (repeated_none (sharers b ps) b).0 (sym (empty.0 search) ∙ is) in let covered = o.covered in absurd (omega (arith, k, none, covered)),
)
shared_once ps b r false none is empty = (λ t. record { once = omega (arith, none); covered = some (sharers b ps) refl }, λ o. search)
  where
    some : (k : ℕ) → sharers b ps ≡ k → 1 ≤ owners b ps + sharers b ps
    some zero e = let f : IsTrue false = empty.1 (is ∙ ap (λ k. repeated k b) e) in absurd (cc)
    some (suc k) e = omega (arith, e)

pub owned_once : (ps : List Part) (b : ℕ) → owners b ps ≡ 1 → IsTrue true ↔ IsOnce ps b
owned_once ps b one = (λ t. record { once = omega (arith, one); covered = omega (arith, one) }, λ o. search)

pub not_once : (ps : List Part) (b : ℕ) → 2 ≤ owners b ps → IsTrue false ↔ IsOnce ps b
not_once ps b more = (λ t. absurd (cc), λ o. let once = o.once in absurd (omega (arith, more, once)))
