-- Reading one thing after the other, where each is there only where something holds.
use Rattle.std.proofs.Common.{◌≡◌, ℕ, Option, Some, None, ◌↔◌, sym, ap, ◌∙◌}
use Rattle.tree_events.specs.Events.{Events, Put}
use Rattle.cte_reads.specs.Read.{left_at, Reads, ReadsWhere}

-- both where they hold
pub then_where : {P Q : Type 0} {f g : Put} {events : Events} {k j r : Option ℕ} → ReadsWhere P f events k j → ReadsWhere Q g events j r
    → ReadsWhere (P × Q) (λ rest. f (g rest)) events k r
then_where {g = g} h i = record {
  told = λ rest. (
    λ e. (i.told rest).0 (e.0.1, (h.told (g rest)).0 (e.0.0, e.1)),
    λ e. (
      (((h.told (g rest)).1 ((i.told rest).1 e).1).0, ((i.told rest).1 e).0),
      ((h.told (g rest)).1 ((i.told rest).1 e).1).1,
    ),
  );
}

-- what is always there first
pub reads_then_where : {P : Type 0} {f g : Put} {events : Events} {k j r : Option ℕ} → Reads f events k j → ReadsWhere P g events j r
    → ReadsWhere P (λ rest. f (g rest)) events k r
reads_then_where {g = g} h i = record {
  told = λ rest. (
    λ e. (i.told rest).0 (e.0, (h.told (g rest)).0 e.1),
    λ e. (((i.told rest).1 e).0, (h.told (g rest)).1 ((i.told rest).1 e).1),
  );
}

-- what is always there behind
pub where_then_reads : {P : Type 0} {f g : Put} {events : Events} {k j r : Option ℕ} → ReadsWhere P f events k j → Reads g events j r
    → ReadsWhere P (λ rest. f (g rest)) events k r
where_then_reads {g = g} h i = record {
  told = λ rest. (
    λ e. (i.told rest).0 ((h.told (g rest)).0 e),
    λ e. (h.told (g rest)).1 ((i.told rest).1 e),
  );
}

-- where it holds, what is always there
pub where_holds : {P : Type 0} {f : Put} {events : Events} {k r : Option ℕ} → P → Reads f events k r → ReadsWhere P f events k r
where_holds p h = record { told = λ rest. (λ e. (h.told rest).0 e.1, λ e. (p, (h.told rest).1 e)) }

pub always_where : {P : Type 0} {f : Put} {events : Events} {k r : Option ℕ} → P → ReadsWhere P f events k r → Reads f events k r
always_where p h = record { told = λ rest. (λ e. (h.told rest).0 (p, e), λ e. ((h.told rest).1 e).1) }

-- where it doesn't hold
pub nowhere : {P : Type 0} {f : Put} {events : Events} {k : Option ℕ} → (P → ⊥) → ReadsWhere P f events k None
nowhere never = record { told = λ rest. (λ e. absurd (never e.0), λ e. absurd (cc)) }

-- from no place
pub no_place_where : {P : Type 0} {f : Put} {events : Events} {k : Option ℕ} → k ≡ None → ReadsWhere P f events k None
no_place_where {events = events} none = record { told = λ rest. (λ e. absurd (let q : left_at events None ≡ Some _ = ap (left_at events) (sym none) ∙ e.1 in cc), λ e. absurd (cc)) }

-- the same place
pub from_same_where : {P : Type 0} {f : Put} {events : Events} {k j r : Option ℕ} → k ≡ j → ReadsWhere P f events j r → ReadsWhere P f events k r
from_same_where {events = events} same h = record {
  told = λ rest. (
    λ e. (h.told rest).0 (e.0, ap (left_at events) (sym same) ∙ e.1),
    λ e. (((h.told rest).1 e).0, ap (left_at events) same ∙ ((h.told rest).1 e).1),
  );
}

-- another condition that holds exactly where the one does, and, where it does, the same events
pub as_where : {P Q : Type 0} {f g : Put} {events : Events} {k r : Option ℕ} → (P ↔ Q) → (Q → (rest : Events) → f rest ≡ g rest)
    → ReadsWhere P f events k r → ReadsWhere Q g events k r
as_where same eq h = record {
  told = λ rest. (
    λ e. (h.told rest).0 (same.1 e.0, e.1 ∙ ap Some (sym (eq e.0 rest))),
    λ e. (same.0 ((h.told rest).1 e).0, ((h.told rest).1 e).1 ∙ ap Some (eq (same.0 ((h.told rest).1 e).0) rest)),
  );
}
