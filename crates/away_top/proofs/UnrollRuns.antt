-- How a run goes along a course at whose end the text stands that the compiler gave.
use Rattle.std.proofs.Common.{◌≡◌, sym, subst, ℕ, List, [], Err, refl}
use Rattle.std.specs.Prelude.{Option, Some}
use Rattle.away_top.specs.declared.host.Files.{Ghosts as Files}
use Rattle.away_top.specs.declared.ending.Halt.{Halt}
use Rattle.away_top.specs.declared.status.Status.{Status}
use Rattle.away_top.specs.Course.{Course, and_then, ends}
use Rattle.away_top.specs.RunCourse.{spelled}
use Rattle.away_top.specs.Runs.{End, wants_memory, goes_on, Follows, IsEnd, Runs}
use Rattle.away_top.specs.Steps.{IsSpelled, halt_end}
use Rattle.away_top.proofs.Reaching.{at_start, stops_unspelled}
use Rattle.away_top.proofs.Stretches.{goes_further, stops_early, wants_at_once}

module _ {D A : Type 0} (F : Files D) (old : D) (next : List ℕ → A → Course ⊥) where
  -- words spell something, or nothing
  pub spelled_goes : (o : Option A) (a : A) (after : D) (end : End ⊥) → o ≡ Some a → Runs F old (λ text. next text a) after end → Runs F old (λ text. and_then (spelled o) (next text)) after end
  spelled_goes o a after end is r = record { text = r.text; follows = subst (λ p. Follows F old (and_then (spelled p) (next r.text)) after end) (sym is) r.follows }

  pub spelled_stops : (o : Option A) (halt : Halt) → IsSpelled {A = A} o (Err halt) → Runs F old (λ text. and_then (spelled o) (next text)) old (halt_end halt)
  spelled_stops o halt is =
      let whole : Course ⊥ = and_then (spelled o) (next []) in
      record { text = []; follows = stops_unspelled F old old whole o (next []) halt is (at_start F old whole) }

  -- a first stretch goes on, or ends the run
  pub stretch_goes : (first : Course A) (a : A) (middle after : D) (end : End ⊥) → Follows F old first middle (goes_on a) → Runs F middle (λ text. next text a) after end
      → Runs F old (λ text. and_then first (next text)) after end
  stretch_goes first a middle after end h r = record { text = r.text; follows = goes_further F old middle after first (next r.text) a end h r.follows }

  pub stretch_stops : (first : Course A) (after : D) (halt : Halt) → Follows F old first after (halt_end halt) → Runs F old (λ text. and_then first (next text)) after (halt_end halt)
  stretch_stops first after halt h = record { text = []; follows = stops_early F old after first (next []) halt h }

-- memory is wanting at once
pub wants_now : {D : Type 0} (F : Files D) (old : D) (course : List ℕ → Course ⊥) → Runs F old course old wants_memory
wants_now F old course = record { text = []; follows = wants_at_once F old (course []) }

-- the course is at its end
pub comes_to_end : {D : Type 0} (F : Files D) (old : D) (E : List ℕ → Status → List ℕ → Type 0) (end : End ⊥) → ((text : List ℕ) × IsEnd (E text) end) → Runs F old (λ text. ends (E text)) old end
comes_to_end F old E end (text, is) = record { text = text; follows = record { same = refl; how = is } }
