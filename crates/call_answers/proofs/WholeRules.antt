-- The whole: a function in which calls of itself are turns of a loop.
use Rattle.std.proofs.Common.{◌≡◌, sym, ap, ◌∙◌, subst, ℕ, zero, suc, ◌+◌, true, List, length, arith, bytes_eq, codes}
use Rattle.std.specs.Str.{chars}
use Rattle.std.proofs.lemmas.Slice.Eq.{bytes_eq-Decides}
use Rattle.away_trees.specs.declared.statements.Raised.TheVariants as raised
use Rattle.away_trees.specs.declared.statements.Stmt.{Stmt}
use Rattle.plsql_meaning.specs.Outcomes.{no_return}
use Rattle.plsql_meaning.specs.Statements.{class_of}
use Rattle.call_meaning.specs.Alike.{Slots, no_slots, put_at, put_from}
use Rattle.call_meaning.specs.Becomes.{becomes}
use Rattle.call_meaning.specs.Untails.{tail_place}
use Rattle.call_answers.specs.declared.walking.InSight.{InSight}
use Rattle.call_answers.specs.declared.walking.Spot.{Spot}
use Rattle.call_answers.specs.declared.walking.Walk.{Walk}
use Rattle.call_answers.specs.Walking.{OldBodyStands, SeesParameters, StmtBecomes, place, rules_of}

-- ---- the fault behind the old body

pub falls_off_by : (code bytes : List ℕ) → chars bytes ≡ code → bytes_eq bytes (codes "2F005") ≡ true → class_of (raised.State code) ≡ no_return
unfolding chars
falls_off_by code bytes e h = ap (λ c. class_of (raised.State c)) (sym e ∙ ap (λ b. chars b) ((bytes_eq-Decides bytes (codes "2F005")).0 h))

-- ---- what the old body sees

pub put_last : (k i j : ℕ) (m : Slots) → put_from (suc k) i j m ≡ put_at (k + i) (k + j) (put_from k i j m)
put_last zero i j m = λ t. put_at (same i t) (same j t) m
  where
    same : (i : ℕ) → i ≡ 0 + i
    same i = omega arith
put_last (suc k) i j m = put_last k (suc i) (suc j) (put_at i j m) ∙ (λ t. put_at (above i t) (above j t) (put_from k (suc i) (suc j) (put_at i j m)))
  where
    above : (i : ℕ) → k + suc i ≡ suc k + i
    above i = omega arith

pub params_more : (slots all : Slots) (k i : ℕ) → slots ≡ put_from k 0 0 no_slots → i ≡ k → all ≡ put_at i i slots → all ≡ put_from (suc k) 0 0 no_slots
params_more slots all k i e f h = h ∙ ((λ t. put_at (there t) (there t) (e t)) ∙ sym (put_last k 0 0 no_slots))
  where
    there : i ≡ k + 0
    there = omega (arith, f)

pub body_rule : (w : Walk) (x : Stmt) (n : ℕ) (c : InSight) (p q : Spot) → n ≡ length w.f.now.params → p.at ≡ n → p.new ≡ n + n → SeesParameters n c → StmtBecomes (rules_of w) c p w.body.now x q → OldBodyStands w x
body_rule w x n c p q e at new s h = subst (λ t. becomes (rules_of w) w.body.now t x) there h.it
  where
    there : place c p ≡ tail_place (length w.f.now.params)
    there = λ t. record {
      at = (at ∙ e) t;
      at' = (new ∙ (λ t. e t + e t)) t;
      slots = (s.slots ∙ ap (λ n. put_from n 0 0 no_slots) e) t;
      labels = s.labels_are t;
    }
