-- A run that comes to an answer has gone through each stretch of its course.
use Rattle.std.proofs.Common.{inl, inr, refl, sym, subst, ℕ, List}
use Rattle.away_top.specs.declared.host.Files.{Ghosts as Files}
use Rattle.away_top.specs.declared.status.Status.{Status}
use Rattle.away_top.specs.declared.status.Status.TheVariants.{Usage}
use Rattle.away_top.specs.Course.{Course, and_then, ends, gives, judges, reads, Exactly, RefusedBy}
use Rattle.away_top.specs.Host.{Keeps}
use Rattle.away_top.specs.RunAnswers.{IsAnswer}
use Rattle.away_top.specs.Runs.{End, wants_memory, ended, goes_on, Follows, IsEnd, StopsAt}

-- none of these ends tells an answer
abbrev pub AreSilent : (Status → List ℕ → Type 0) → Type 0
AreSilent E = (status : Status) (output : List ℕ) → E status output → IsAnswer status → ⊥

abbrev pub IsSilent : {A : Type 0} → Course A → Type 0
IsSilent (gives a) = Unit {0}
IsSilent (ends E) = AreSilent E
IsSilent (judges E W next) = AreSilent E × ((w : W) → IsSilent (next w))
IsSilent (reads name limit next) = (bytes : List ℕ) → IsSilent (next bytes)

pub silent_then : {A B : Type 0} (c : Course A) (next : A → Course B) → IsSilent c → ((a : A) → IsSilent (next a)) → IsSilent (and_then c next)
silent_then (gives a) next silent rest = rest a
silent_then (ends E) next silent rest = silent
silent_then (judges E W more) next silent rest = (silent.0, λ w. silent_then (more w) next (silent.1 w) rest)
silent_then (reads name limit more) next silent rest = λ bytes. silent_then (more bytes) next (silent bytes) rest

pub silent_refusal : (name : List ℕ) (Rules : List ℕ → Type 0) → AreSilent (RefusedBy name Rules)
silent_refusal name Rules status output (rule, is, e) answer = subst IsAnswer e.0 answer

pub silent_usage : (line : List ℕ) → AreSilent (Exactly Usage line)
silent_usage line status output e answer = subst IsAnswer e.0 answer

-- the run goes on, or ends by an answer
abbrev pub IsLate : {A : Type 0} → End A → Type 0
IsLate wants_memory = ⊥
IsLate (ended status output) = IsAnswer status
IsLate (goes_on a) = Unit {0}

not_late : {A : Type 0} (E : Status → List ℕ → Type 0) (end : End A) → AreSilent E → IsEnd E end → IsLate end → ⊥
not_late E wants_memory silent is late = late
not_late E (ended status output) silent is late = silent status output is late
not_late E (goes_on a) silent is late = is

-- a first stretch that the run has gone through, and where it is then
pub record Gone {D A B : Type 0} (F : Files D) (now after : D) (c : Course A) (next : A → Course B) (end : End B) : Type 0 where
  pub middle : D
  pub given : A
  pub first : Follows F now c middle (goes_on given)
  pub rest : Follows F middle (next given) after end

module _ {D : Type 0} (F : Files D) where
  silent_stop : (before after : D) (name : List ℕ) (limit : ℕ) → AreSilent (StopsAt F before name limit after)
  silent_stop before after name limit status output (inl (u, e)) answer = subst IsAnswer e.0 answer
  silent_stop before after name limit status output (inr (long, e)) answer = subst IsAnswer e.0 answer

  pub gone : {A B : Type 0} (now after : D) (c : Course A) (next : A → Course B) (end : End B) → IsLate end → IsSilent c → Follows F now (and_then c next) after end → Gone F now after c next end
  gone now after (gives a) next end late silent h = record { middle = now; given = a; first = record { same = refl; how = refl }; rest = h }
  gone now after (ends E) next end late silent h = absurd (not_late E end silent h.how late)
  gone now after (judges E W more) next end late silent (inl h) = absurd (not_late E end silent.0 h.how late)
  gone now after (judges E W more) next end late silent (inr (w, h)) =
      let g = gone now after (more w) next end late (silent.1 w) h in
      record { middle = g.middle; given = g.given; first = inr (w, g.first); rest = g.rest }
  gone now after (reads name limit more) next end late silent (inl h) = absurd (not_late (λ status output. ⊥) end (λ status output is answer. is) h.how late)
  gone now after (reads name limit more) next end late silent (inr (middle, read, inl h)) = absurd (not_late (StopsAt F now name limit middle) end (silent_stop now middle name limit) h.how late)
  gone now after (reads name limit more) next end late silent (inr (middle, read, inr (bytes, holds, h))) =
      let g = gone middle after (more bytes) next end late (silent bytes) h in
      record { middle = g.middle; given = g.given; first = inr (middle, read, inr (bytes, holds, g.first)); rest = g.rest }

  -- what is told stays told along a course
  pub keeps : {A : Type 0} (now after : D) (c : Course A) (end : End A) → Follows F now c after end → Keeps (F.held now) (F.held after)
  keeps now after (gives a) end h = subst (λ d. Keeps (F.held now) (F.held d)) (sym h.same) (λ name bytes e. e)
  keeps now after (ends E) end h = subst (λ d. Keeps (F.held now) (F.held d)) (sym h.same) (λ name bytes e. e)
  keeps now after (judges E W next) end (inl h) = subst (λ d. Keeps (F.held now) (F.held d)) (sym h.same) (λ name bytes e. e)
  keeps now after (judges E W next) end (inr (w, h)) = keeps now after (next w) end h
  keeps now after (reads name limit next) end (inl h) = subst (λ d. Keeps (F.held now) (F.held d)) (sym h.same) (λ name bytes e. e)
  keeps now after (reads name limit next) end (inr (middle, read, inl h)) = subst (λ d. Keeps (F.held now) (F.held d)) (sym h.same) read.kept
  keeps now after (reads name limit next) end (inr (middle, read, inr (bytes, holds, h))) = λ name known e. keeps middle after (next bytes) end h name known (read.kept name known e)
