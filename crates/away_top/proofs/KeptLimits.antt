-- Functions that keep the limits, with one more.
use Rattle.std.proofs.Common.{◌≡◌, sym, subst, zero, suc, List, [], ◌∷◌, ◌++◌, arith}
use Rattle.away_trees.specs.declared.statements.Function.{Function}
use Rattle.away_trees.specs.Limits.{KeepsLimits}
use Rattle.away_top.specs.ExpandCourse.{KeepLimits}

keep_one : (f : Function) → KeepsLimits f → KeepLimits (f ∷ [])
keep_one f h zero lt = h
keep_one f h (suc k) lt = absurd (let no : ⊥ = omega (arith, lt) in no)

keep_behind : (fs : List Function) (f : Function) → KeepLimits fs → KeepsLimits f → KeepLimits (fs ++ f ∷ [])
keep_behind [] f all h k lt = keep_one f h k lt
keep_behind (g ∷ fs) f all h zero lt = all 0 (omega arith)
keep_behind (g ∷ fs) f all h (suc k) lt = keep_behind fs f (λ j l. all (suc j) (omega (arith, l))) h k (omega (arith, lt))

pub keep_more : (fs : List Function) (f : Function) (all : List Function) → all ≡ fs ++ f ∷ [] → KeepLimits fs → KeepsLimits f → KeepLimits all
keep_more fs f all is keep h = subst KeepLimits (sym is) (keep_behind fs f keep h)

pub keep_first : (f : Function) (all : List Function) → all ≡ f ∷ [] → KeepsLimits f → KeepLimits all
keep_first f all is h = subst KeepLimits (sym is) (keep_one f h)
