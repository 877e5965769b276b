-- Runs in general: a state, and one visit after another, with a count of the heads that were
-- visited.
use Rattle.std.specs.Prelude.{◌≡◌, ℕ, zero, suc, ◌≤◌, Bool, true, false}
use Rattle.away_values.specs.declared.values.Value.{Value}
use Rattle.away_values.specs.declared.values.Answer.{Answer}
use Rattle.away_values.specs.declared.values.Answer.TheVariants as answer
use Rattle.away_values.specs.Results.{Or}
use Rattle.sql_meaning.specs.OneReturn.{returned}

-- what a visit comes to: a value or a class that ends the run, a next state, or nothing, where
-- there is no block
pub data Move (S : Type 0) : Type 0 where
  ends : Or Value → Move S
  moves : S → Move S
  stuck : Move S

pub record Machine (S : Type 0) : Type 0 where
  pub head : S → Bool
  pub visit : S → Move S

-- an answer, and how many heads were visited
pub record Ran : Type 0 where
  pub answer : Answer
  pub heads : ℕ

abbrev pub ran : Answer → ℕ → Ran
ran a h = record { answer = a; heads = h }

abbrev pub counted : Bool → ℕ → ℕ
counted true h = suc h
counted false h = h

abbrev pub then_goes : {S : Type 0} → Move S → (S → ℕ → Ran) → ℕ → Ran
then_goes (ends r) next h = ran (returned r) h
then_goes (moves s) next h = next s h
then_goes stuck next h = ran answer.More h

-- at most k visits, from a state and a count of heads. A head counts as soon as its visit begins.
abbrev pub go : {S : Type 0} → Machine S → ℕ → S → ℕ → Ran
go m zero s h = ran answer.More h
go m (suc k) s h = then_goes (m.visit s) (go m k) (counted (m.head s) h)

-- ---- what runs tell of one another

abbrev pub IsOver : Answer → Type 0
IsOver (answer.Value v) = Unit {0}
IsOver (answer.Fault c) = Unit {0}
IsOver answer.More = ⊥
IsOver (answer.Shape n) = Unit {0}

-- a run that is over stays as it is at more visits
abbrev pub Stays : (ℕ → Ran) → Type 0
Stays run = (j k : ℕ) → j ≤ k → IsOver (run j).answer → run k ≡ run j

-- k visits visit at most k heads
abbrev pub HeadsFew : (ℕ → Ran) → Type 0
HeadsFew run = (k : ℕ) → (run k).heads ≤ k

-- where the first run of k visits has an answer, the second has it; and the second has at least as
-- many heads
pub record Bounds (xs ys : ℕ → Ran) : Type 0 where
  pub answer : (k : ℕ) (a : Answer) → IsOver a → (xs k).answer ≡ a → (ys k).answer ≡ a
  pub heads : (k : ℕ) → (xs k).heads ≤ (ys k).heads
