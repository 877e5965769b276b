use Rattle.std.proofs.Common.{List, ◌≡◌, ◌<◌, ◌≤◌, ◌+◌, ◌⊎◌, ℕ, drop, length, get_or, ap, sym, subst, ◌∙◌, Some, arith, inl, inr, eq-or-lt_of_le}
use Rattle.std.specs.Prelude.{slice_get}
use Rattle.std.proofs.lemmas.List.{drop_more, drop_all}
use Rattle.std.proofs.lemmas.Option.{get_or_from_slice_get, slice_get_within}
use Rattle.away_values.specs.declared.types.Ty.{Ty}
use Rattle.cte_template.specs.Making.{Making, making}
use Rattle.cte_template.specs.CarriedNumbers.{AliasesFit}
use Rattle.cte_template.specs.CarriedTree.{branches}
use Rattle.cte_template.proofs.BranchRules.{one_branch, all_branches, one_fits}
use Rattle.cte_template.proofs.template.branches.Goals as goal

pub loop-i-preserved : goal.loop-i-preserved
loop-i-preserved c =
    let m : Making = making c.args.w.now in
    let carried : List Ty = c.args.w.now.carried.now in
    let xs = c.as_slice-labels.result.now in
    let i = c.loop-i.i in
    record {
      made = one_branch m carried i (get_or xs i 0) (drop i xs) (drop (i + 1) xs) c.loop-i.list c.push.new.self (branches m carried 0 xs) c.in_ok-branch.field-0
          (drop_more xs i 0 c.loop-i-test.true) c.in_ok-branch.ensures.is c.in_ok-push.ensures.ok c.loop-i.invariant.made;
      fit = λ j b lt there. one_fits m carried i xs c.in_ok-branch.ensures.fits c.loop-i.invariant.fit j b lt there;
    }

pub returns-clause-is : goal.returns-clause-is
returns-clause-is c =
    let m : Making = making c.args.w.now in
    let carried : List Ty = c.args.w.now.carried.now in
    let xs = c.as_slice-labels.result.now in
    let i = c.loop-i.i in
    all_branches m carried i (drop i xs) c.loop-i.list (branches m carried 0 xs) (drop_all i xs c.loop-i-test.false) c.loop-i.invariant.made
    ∙ ap (λ ys. branches m carried 0 ys) c.as_slice-labels.ensures

pub returns-clause-fits : goal.returns-clause-fits
returns-clause-fits c =
    let m : Making = making c.args.w.now in
    let carried : List Ty = c.args.w.now.carried.now in
    let xs = c.as_slice-labels.result.now in
    let i = c.loop-i.i in
    subst (λ ys. (j b : ℕ) → slice_get ys j ≡ Some b → AliasesFit m carried j b) c.as_slice-labels.ensures
    (λ j b there. c.loop-i.invariant.fit j b (let lt : j < length xs = slice_get_within xs j b there in omega (arith, lt, c.loop-i-test.false)) there)
