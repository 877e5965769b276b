-- Things that are drawn in turn, when some are drawn and others are left.
use Rattle.std.proofs.Common.{◌≡◌, ℕ, ◌+◌, ◌-◌, ◌*◌, ◌<◌, List, ◌∷◌, ◌++◌, arith, refl, append_assoc, suc, []}
use Rattle.away_gen.specs.Draws.{after, in_turn}

-- the first of those that are left is drawn
pub one_more : {A : Type 0} (make : ℕ → A) (draws count done state : ℕ) (before all : List A) → done < count
    → before ++ in_turn make draws (count - done) state ≡ all
    → (before ++ make state ∷ []) ++ in_turn make draws (count - (done + 1)) (after draws state) ≡ all
one_more make draws count done state before all below drawn =
    let left : count - done ≡ suc (count - (done + 1)) = omega arith in
    rw append_assoc (rw left at drawn)

-- three draws less are left
pub three_less : (count done state : ℕ) → done < count → after (3 * (count - done)) state ≡ after (3 * (count - (done + 1))) (after 3 state)
three_less count done state below =
    let left : 3 * (count - done) ≡ suc (suc (suc (3 * (count - (done + 1))))) = omega arith in
    rw left refl
