use Rattle.std.proofs.Common.{arith, ◌≡◌, sym, ap, ◌∙◌, subst, ℕ, ◌+◌, sum_by, option_map, []}
use Rattle.std.proofs.lemmas.Result.{err_from_is_err_and}
use Rattle.away_trees.specs.Count.{nodes_of}
use Rattle.plsql_meaning.specs.Outcomes.{Step, faults}
use Rattle.plsql_meaning.specs.Slots.{slots_of}
use Rattle.plsql_meaning.specs.Statements.{in_else, in_row, meanings}
use Rattle.plsql_run.specs.Continues.{lacking, load, unwound}
use Rattle.plsql_run.specs.Layouts.{layouts_of, slots}
use Rattle.plsql_run.specs.Settings.{meant}
use Rattle.plsql_run.proofs.Unwound.{fails_as, goes_as, passes}
use Rattle.plsql_run.proofs.Arms.{arms_at, arm_fails, arm_taken, arm_passed, no_arm_left, slots_within, nodes_within, if_ends}
use Rattle.plsql_run.proofs.Layouts.{arm_layout_at, arm_layout_is, arm_slots_are, inside_of}
use Rattle.plsql_run.proofs.enter.enter_arms.Goals as goal

pub returns-in_err-v-clause-runs : goal.returns-in_err-v-clause-runs
returns-in_err-v-clause-runs c =
    let p = err_from_is_err_and c.from_residual.result c.from_residual.ensures.1 in
    let set = meant c.args.setting.now in
    let other : ℕ → Step = in_else set (option_map (λ body. meanings set body) c.args.other.now) (lacking c.args.missing) in
    let fs = c.args.stack.now in
    let arms = c.args.arms.now in
    rw (p.1, p.2) (fails_as (λ n. unwound set fs (arms_at set other arms c.args.at c.args.env.now n)) _ c.in_err-v.field-0.0 c.in_err-v.ensures
    (λ cl e n. passes set fs (faults cl) tt (arms_at set other arms c.args.at c.args.env.now n)
    (subst (λ d. d.outcome ≡ faults cl) (c.loop-i.invariant.1 n) (arm_fails set other arms c.loop-i.i c.index-arms-i.result c.index-arms-i.is c.loop-i-test.true c.loop-i.next c.args.env.now cl e n))))

pub invariant_of-enter_list : goal.invariant_of-enter_list
invariant_of-enter_list c =
    let arms = c.args.arms.now in
    let i = c.loop-i.i in
    let arm = c.index-arms-i.result in
    let here = arm_layout_at c.as_slice-layouts.result.now arms i c.index-layouts-i.result arm (c.as_slice-layouts.ensures ∙ c.requires.arms_laid) c.index-layouts-i.is c.index-arms-i.is c.loop-i-test.true in
    record {
      laid = c.as_slice-then-is_true.ensures ∙ inside_of c.index-layouts-i.result 0 (layouts_of arm.body) [] (here ∙ arm_layout_is arm) ∙ ap layouts_of (sym c.as_slice.ensures);
      few = omega (arith, c.requires.few, c.loop-i.invariant.0, slots_within arms i arm c.index-arms-i.is c.loop-i-test.true, ap (sum_by slots_of) c.as_slice.ensures);
    }

pub returns-then-is_true-clause-runs : goal.returns-then-is_true-clause-runs
returns-then-is_true-clause-runs c =
    let set = meant c.args.setting.now in
    let other : ℕ → Step = in_else set (option_map (λ body. meanings set body) c.args.other.now) (lacking c.args.missing) in
    let fs = c.args.stack.now in
    let env = c.args.env.now in
    goes_as set c.enter_list.new.stack env c.enter_list.result
    (λ n. ap (λ s. unwound set s (in_row (meanings set c.as_slice.result.now) c.loop-i.next env n)) c.loop-i.invariant.2 ∙ ap (unwound set fs) (ap (λ ss. in_row (meanings set ss) c.loop-i.next env n) c.as_slice.ensures
    ∙ sym (arm_taken set other c.args.arms.now c.loop-i.i c.index-arms-i.result c.index-arms-i.is c.loop-i-test.true c.loop-i.next env c.in_ok-v.v c.in_ok-v.ensures (sym c.is_true.ensures ∙ c.if-is_true.true) n)
    ∙ c.loop-i.invariant.1 n))
    (c.enter_list.ensures.runs set env)

pub returns-then-is_true-clause-ends : goal.returns-then-is_true-clause-ends
returns-then-is_true-clause-ends c =
    if_ends c.enter_list.result (λ e. omega (arith, e, ap load c.loop-i.invariant.2, ap (sum_by nodes_of) c.as_slice.ensures, nodes_within c.args.arms.now c.loop-i.i c.index-arms-i.result c.index-arms-i.is c.loop-i-test.true)) c.enter_list.ensures.ends

pub overflow_add-next : goal.overflow_add-next
overflow_add-next c =
    let arms = c.args.arms.now in
    let i = c.loop-i.i in
    let arm = c.index-arms-i.result in
    let here = arm_layout_at c.as_slice-layouts.result.now arms i c.index-layouts-i.result arm (c.as_slice-layouts.ensures ∙ c.requires.arms_laid) c.index-layouts-i.is c.index-arms-i.is c.loop-i-test.true in
    omega (arith, c.requires.few, c.loop-i.invariant.0, arm_slots_are c.index-layouts-i.result arm here, slots_within arms i arm c.index-arms-i.is c.loop-i-test.true)

pub loop-i-preserved : goal.loop-i-preserved
loop-i-preserved c =
    let set = meant c.args.setting.now in
    let other : ℕ → Step = in_else set (option_map (λ body. meanings set body) c.args.other.now) (lacking c.args.missing) in
    let arms = c.args.arms.now in
    let i = c.loop-i.i in
    let arm = c.index-arms-i.result in
    let here = arm_layout_at c.as_slice-layouts.result.now arms i c.index-layouts-i.result arm (c.as_slice-layouts.ensures ∙ c.requires.arms_laid) c.index-layouts-i.is c.index-arms-i.is c.loop-i-test.true in
    let told = arm_slots_are c.index-layouts-i.result arm here in (
      omega (arith, c.loop-i.invariant.0, told, slots_within arms i arm c.index-arms-i.is c.loop-i-test.true),
      λ n. arm_passed set other arms i arm c.index-arms-i.is c.loop-i-test.true c.loop-i.next c.args.env.now c.in_ok-v.v (c.loop-i.next + slots c.index-layouts-i.result) c.in_ok-v.ensures (sym c.is_true.ensures ∙ c.if-is_true.false) (ap (λ k. c.loop-i.next + k) told) n
          ∙ c.loop-i.invariant.1 n,
      c.loop-i.invariant.2,
    )

pub enter_else-requires-clause-few : goal.enter_else-requires-clause-few
enter_else-requires-clause-few c = omega (arith, c.requires.few, c.loop-i.invariant.0)

pub returns-clause-runs : goal.returns-clause-runs
returns-clause-runs c =
    let set = meant c.args.setting.now in
    let other : ℕ → Step = in_else set (option_map (λ body. meanings set body) c.args.other.now) (lacking c.args.missing) in
    let fs = c.args.stack.now in
    let env = c.args.env.now in
    goes_as set c.enter_else.new.stack env c.enter_else.result
    (λ n. ap (λ s. unwound set s (other c.loop-i.next env n)) c.loop-i.invariant.2
    ∙ ap (unwound set fs) (sym (no_arm_left set other c.args.arms.now c.loop-i.i (omega (arith, c.loop-i-test.false)) c.loop-i.next env n) ∙ c.loop-i.invariant.1 n))
    (c.enter_else.ensures.runs set env)

pub returns-clause-ends : goal.returns-clause-ends
returns-clause-ends c = if_ends c.enter_else.result (λ e. omega (arith, e, ap load c.loop-i.invariant.2)) c.enter_else.ensures.ends
