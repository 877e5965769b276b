-- How a run that is under way goes on along its course.
use Rattle.std.proofs.Common.{◌≡◌, refl, sym, subst, ℕ, List, Err}
use Rattle.std.specs.Prelude.{Option, Some}
use Rattle.away_top.specs.declared.host.Files.{Ghosts as Files}
use Rattle.away_top.specs.declared.status.Status.{Status}
use Rattle.away_top.specs.declared.ending.Halt.{Halt}
use Rattle.away_top.specs.declared.ending.Halt.TheVariants.{Ended, NoMemory}
use Rattle.away_top.specs.Course.{Course, and_then, ends}
use Rattle.away_top.specs.RunCourse.{spelled}
use Rattle.away_top.specs.Runs.{End, wants_memory, ended, goes_on, Follows, IsEnd}
use Rattle.away_top.specs.Steps.{IsSpelled, halt_end}
use Rattle.away_top.proofs.Stretches.{goes_further, stops_early, wants_at_once}

-- a run along the rest from here is one along the whole course
pub record Reached {D : Type 0} (F : Files D) (old now : D) (whole rest : Course ⊥) : Type 0 where
  pub goes : (after : D) (end : End ⊥) → Follows F now rest after end → Follows F old whole after end

pub at_start : {D : Type 0} (F : Files D) (old : D) (whole : Course ⊥) → Reached F old old whole whole
at_start F old whole = record { goes = λ after end h. h }

module _ {D : Type 0} (F : Files D) (old now : D) (whole : Course ⊥) where
  -- a first stretch goes on
  pub further : {A : Type 0} (later : D) (first : Course A) (next : A → Course ⊥) (a : A) → Reached F old now whole (and_then first next) → Follows F now first later (goes_on a)
      → Reached F old later whole (next a)
  further later first next a r h = record { goes = λ after end rest. r.goes after end (goes_further F now later after first next a end h rest) }

  -- it ends the run
  pub stops : {A : Type 0} (later : D) (first : Course A) (next : A → Course ⊥) (halt : Halt) → Reached F old now whole (and_then first next) → Follows F now first later (halt_end halt)
      → Follows F old whole later (halt_end halt)
  stops later first next halt r h = r.goes later (halt_end halt) (stops_early F now later first next halt h)

  -- memory is wanting
  pub wants : (rest : Course ⊥) → Reached F old now whole rest → Follows F old whole now wants_memory
  wants rest r = r.goes now wants_memory (wants_at_once F now rest)

  -- the course is at its end
  pub ends_here : (E : Status → List ℕ → Type 0) (end : End ⊥) → Reached F old now whole (ends E) → IsEnd E end → Follows F old whole now end
  ends_here E end r is = r.goes now end (record { same = refl; how = is })

  -- words spell something, or nothing
  pub with_spelled : {A : Type 0} (o : Option A) (next : A → Course ⊥) (a : A) → o ≡ Some a → Reached F old now whole (and_then (spelled o) next) → Reached F old now whole (next a)
  with_spelled o next a is r = record { goes = λ after end rest. r.goes after end (subst (λ p. Follows F now (and_then (spelled p) next) after end) (sym is) rest) }

  none_spelled : {A : Type 0} (o : Option A) (next : A → Course ⊥) (halt : Halt) → IsSpelled {A = A} o (Err halt) → Follows F now (and_then (spelled o) next) now (halt_end halt)
  none_spelled o next NoMemory is = wants_at_once F now (and_then (spelled o) next)
  none_spelled o next (Ended ending) is =
      subst (λ p. Follows F now (and_then (spelled p) next) now (ended ending.status ending.output.items)) (sym is.0) (record { same = refl; how = (is.1.status_is, is.1.output_is) })

  pub stops_unspelled : {A : Type 0} (o : Option A) (next : A → Course ⊥) (halt : Halt) → IsSpelled {A = A} o (Err halt) → Reached F old now whole (and_then (spelled o) next)
      → Follows F old whole now (halt_end halt)
  stops_unspelled o next halt is r = r.goes now (halt_end halt) (none_spelled o next halt is)
