use Rattle.std.proofs.Common.{◌≡◌, ℕ, ◌<◌, ◌++◌, drop, Some}
use Rattle.std.specs.Prelude.{slice_get}
use Rattle.cte_template.specs.CarriedNumbers.{AliasesFit}
use Rattle.cte_template.specs.Making.{making}
use Rattle.cte_template.specs.CarriedTree.{branches}
use Rattle.cte_template.proofs.template.branches.Given as goal

abbrev pub invariant-loop-i : goal.invariant-loop-i
invariant-loop-i l = record {
  made : l.list ++ branches (making l.w) l.w.carried.now l.i (drop l.i l.labels) ≡ branches (making l.w) l.w.carried.now 0 l.labels;
  fit : (j b : ℕ) → j < l.i → slice_get l.labels j ≡ Some b → AliasesFit (making l.w) l.w.carried.now j b;
}
