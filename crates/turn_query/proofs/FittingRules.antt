-- How many turns of so many levels fit.
use Rattle.std.proofs.Common.{◌≡◌, sym, subst, ℕ, suc, ◌+◌, ◌*◌, ◌/◌, ◌<◌, ◌≤◌, arith}
use Rattle.std.proofs.Math.Nat.{div-mul-le_self, mul-le-mul_right}
use Rattle.std.proofs.lemmas.Nat.{le-div, div-add-mod', mod_below}
use Rattle.turn_query.specs.Fitting.{FittingTurns}

-- as many as fit have at most so many levels, and one more has more
within : (steps : ℕ) → (120 / (steps + 1)) * suc steps ≤ 120
within steps =
    let same : steps + 1 ≡ suc steps = omega arith in
    subst (λ n. (120 / n) * suc steps ≤ 120) (sym same) (div-mul-le_self 120 (suc steps))

beyond : (steps : ℕ) → 120 < suc (120 / (steps + 1)) * suc steps
beyond steps =
    let same : steps + 1 ≡ suc steps = omega arith in
    let whole = div-add-mod' 120 (suc steps) in
    let some : 0 < suc steps = omega arith in
    let rest = mod_below 120 (suc steps) some in
    let more : suc (120 / suc steps) * suc steps ≡ suc steps + (120 / suc steps) * suc steps = omega arith in
    subst (λ n. 120 < suc (120 / n) * suc steps) (sym same) (omega (arith, whole, rest, more))

pub all_turns : (steps asked most : ℕ) → most ≡ 120 / (steps + 1) → 0 < asked → asked ≤ most → FittingTurns steps asked asked
all_turns steps asked most is some le = record {
  some = some;
  few = omega arith;
  levels =
      let less : asked * suc steps ≤ (120 / (steps + 1)) * suc steps = mul-le-mul_right (suc steps) (subst (λ n. asked ≤ n) is le) in
      let whole = within steps in
      omega (arith, less, whole);
  most = λ less. absurd (let no : ⊥ = omega (arith, less) in no);
}

pub most_turns : (steps asked most : ℕ) → most ≡ 120 / (steps + 1) → steps < 120 → most < asked → FittingTurns steps asked most
most_turns steps asked most is few lt =
    let there : 0 < 120 / (steps + 1) =
    let pos : 0 < steps + 1 = omega arith in
    let once : 1 * (steps + 1) ≤ 120 = omega (arith, few) in
    let one : 1 ≤ 120 / (steps + 1) = le-div 1 120 (steps + 1) pos once in
    omega (arith, one) in
    subst (λ n. FittingTurns steps asked n) (sym is) (record {
      some = there;
      few = let less : 120 / (steps + 1) < asked = subst (λ n. n < asked) is lt in omega (arith, less);
      levels = within steps;
      most = λ less. beyond steps;
    })
