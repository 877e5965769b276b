-- Reading one thing after the other.
use Rattle.std.proofs.Common.{◌≡◌, ℕ, zero, suc, ◌+◌, ◌<◌, ◌≤◌, [], ◌∷◌, length, get_or, drop, Option, Some, None, refl, sym, ap, ◌∙◌, arith}
use Rattle.std.proofs.lemmas.Option.{same_Some}
use Rattle.tree_events.specs.declared.events.TreeEvent.{TreeEvent}
use Rattle.tree_events.specs.Events.{Events, Put}
use Rattle.cte_reads.specs.Read.{left_at, Reads}

pub then_reads : {f g : Put} {events : Events} {k j r : Option ℕ} → Reads f events k j → Reads g events j r → Reads (λ rest. f (g rest)) events k r
then_reads {g = g} h i = record { told = λ rest. (λ e. (i.told rest).0 ((h.told (g rest)).0 e), λ e. (h.told (g rest)).1 ((i.told rest).1 e)) }

-- the same events
pub as_reads : {f g : Put} {events : Events} {k r : Option ℕ} → ((rest : Events) → f rest ≡ g rest) → Reads f events k r → Reads g events k r
as_reads e h = record { told = λ rest. (λ q. (h.told rest).0 (q ∙ ap Some (sym (e rest))), λ q. (h.told rest).1 q ∙ ap Some (e rest)) }

-- the same place
pub from_same : {f : Put} {events : Events} {k j r : Option ℕ} → k ≡ j → Reads f events j r → Reads f events k r
from_same {events = events} e h = record { told = λ rest. (λ q. (h.told rest).0 (ap (left_at events) (sym e) ∙ q), λ q. ap (left_at events) e ∙ (h.told rest).1 q) }

pub no_place : {f : Put} {events : Events} {k : Option ℕ} → k ≡ None → Reads f events k None
no_place {events = events} none = record { told = λ rest. (λ e. absurd (cc (ap (left_at events) none, e)), λ e. absurd (cc)) }

-- ---- one event

drop_at : (events : Events) (k : ℕ) (s : TreeEvent) → k < length events → s ≡ get_or events k s → drop k events ≡ s ∷ drop (k + 1) events
drop_at [] k s lt e = absurd (omega arith)
drop_at (x ∷ xs) zero s lt e = ap (λ z. z ∷ xs) (sym e)
drop_at (x ∷ xs) (suc k) s lt e = drop_at xs k s (omega arith) e ∙ ap (λ j. s ∷ drop j (x ∷ xs)) (let q : suc (k + 1) ≡ suc k + 1 = omega arith in q)

drop_behind : (events : Events) (k : ℕ) → length events ≤ k → drop k events ≡ []
drop_behind [] zero le = refl
drop_behind [] (suc k) le = refl
drop_behind (x ∷ xs) zero le = absurd (omega arith)
drop_behind (x ∷ xs) (suc k) le = drop_behind xs k (omega arith)

abbrev rest_of : Events → Events
rest_of [] = []
rest_of (s ∷ ss) = ss

abbrev first_or : TreeEvent → Events → TreeEvent
first_or d [] = d
first_or d (s ∷ ss) = s

pub event_read : (events : Events) (from : Option ℕ) (k : ℕ) (s want : TreeEvent) → from ≡ Some k → k < length events → s ≡ get_or events k s → s ≡ want
    → Reads (λ rest. want ∷ rest) events from (Some (k + 1))
event_read events from k s want at lt is same = from_same at (record {
  told = λ rest. (
    λ e. ap Some (ap rest_of (sym (drop_at events k s lt is) ∙ same_Some (drop k events) (want ∷ rest) e)),
    λ e. ap Some (drop_at events k s lt is ∙ (λ i. same i ∷ same_Some (drop (k + 1) events) rest e i)),
  );
})

pub other_event : (events : Events) (from : Option ℕ) (k : ℕ) (s want : TreeEvent) → from ≡ Some k → k < length events → s ≡ get_or events k s → (s ≡ want → ⊥)
    → Reads (λ rest. want ∷ rest) events from None
other_event events from k s want at lt is other = from_same at (record {
  told = λ rest. (
    λ e. absurd (other (ap (first_or s) (sym (drop_at events k s lt is) ∙ same_Some (drop k events) (want ∷ rest) e))),
    λ e. absurd (cc),
  );
})

pub no_event : (events : Events) (from : Option ℕ) (k : ℕ) (want : TreeEvent) → from ≡ Some k → length events ≤ k → Reads (λ rest. want ∷ rest) events from None
no_event events from k want at le = from_same at (record {
  told = λ rest. (
    λ e. absurd (let q : [] ≡ want ∷ rest = sym (drop_behind events k le) ∙ same_Some (drop k events) (want ∷ rest) e in cc),
    λ e. absurd (cc),
  );
})
