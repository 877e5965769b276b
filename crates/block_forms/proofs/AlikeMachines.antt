-- Machines whose states are alike, visit for visit, have one run.
use Rattle.std.proofs.Common.{◌≡◌, ℕ, zero, suc, refl, ap, ◌∙◌}
use Rattle.block_forms.specs.Machines.{Move, ends, moves, stuck, Machine, Ran, ran, counted, then_goes, go}
use Rattle.sql_meaning.specs.OneReturn.{returned}

module _ {S T : Type 0} (R : S → T → Type 0) where
  -- both end with one result, or go on from states that are alike, or are stuck
  abbrev pub AlikeMoves : Move S → Move T → Type 0
  AlikeMoves (ends r) (ends q) = r ≡ q
  AlikeMoves (ends r) (moves t) = ⊥
  AlikeMoves (ends r) stuck = ⊥
  AlikeMoves (moves s) (ends q) = ⊥
  AlikeMoves (moves s) (moves t) = R s t
  AlikeMoves (moves s) stuck = ⊥
  AlikeMoves stuck (ends q) = ⊥
  AlikeMoves stuck (moves t) = ⊥
  AlikeMoves stuck stuck = Unit {0}

  pub record AlikeMachines (m : Machine S) (n : Machine T) : Type 0 where
    pub heads : (s : S) (t : T) → R s t → m.head s ≡ n.head t
    pub visits : (s : S) (t : T) → R s t → AlikeMoves (m.visit s) (n.visit t)

  then_alike : (x : Move S) (y : Move T) (f : S → ℕ → Ran) (g : T → ℕ → Ran) (h : ℕ) → AlikeMoves x y → ((s : S) (t : T) → R s t → f s h ≡ g t h)
      → then_goes x f h ≡ then_goes y g h
  then_alike (ends r) (ends q) f g h alike further = ap (λ r. ran (returned r) h) alike
  then_alike (ends r) (moves t) f g h alike further = absurd alike
  then_alike (ends r) stuck f g h alike further = absurd alike
  then_alike (moves s) (ends q) f g h alike further = absurd alike
  then_alike (moves s) (moves t) f g h alike further = further s t alike
  then_alike (moves s) stuck f g h alike further = absurd alike
  then_alike stuck (ends q) f g h alike further = absurd alike
  then_alike stuck (moves t) f g h alike further = absurd alike
  then_alike stuck stuck f g h alike further = refl

  -- from states that are alike, k visits come to one answer and one count of heads
  pub runs_alike : (m : Machine S) (n : Machine T) → AlikeMachines m n → (k : ℕ) (s : S) (t : T) (h : ℕ) → R s t → go m k s h ≡ go n k t h
  runs_alike m n alike zero s t h r = refl
  runs_alike m n alike (suc k) s t h r =
      then_alike (m.visit s) (n.visit t) (go m k) (go n k) (counted (m.head s) h) (alike.visits s t r)
      (λ s' t' r'. runs_alike m n alike k s' t' (counted (m.head s) h) r')
      ∙ ap (λ b. then_goes (n.visit t) (go n k) (counted b h)) (alike.heads s t r)
