-- How stretches of a run make the run.
use Rattle.std.proofs.Common.{◌≡◌, inl, inr, ℕ, List, refl, sym, subst, Result, Ok, Err}
use Rattle.away_top.specs.declared.host.Files.{Ghosts as Files}
use Rattle.away_top.specs.declared.status.Status.{Status}
use Rattle.away_top.specs.declared.ending.Halt.{Halt}
use Rattle.away_top.specs.declared.ending.Halt.TheVariants.{Ended, NoMemory}
use Rattle.away_top.specs.Course.{Course, and_then, ends, gives, judges, reads}
use Rattle.away_top.specs.Runs.{End, wants_memory, goes_on, Follows, Holds, IsRead, StopsAt}
use Rattle.away_top.specs.Steps.{halt_end, stretch_end, IsHalt, IsJudged}

-- memory may be wanting before anything else
pub wants_at_once : {D A : Type 0} (F : Files D) (before : D) (c : Course A) → Follows F before c before wants_memory
wants_at_once F before (gives a) = record { same = refl; how = tt }
wants_at_once F before (ends E) = record { same = refl; how = tt }
wants_at_once F before (judges E W next) = inl (record { same = refl; how = tt })
wants_at_once F before (reads name limit next) = inl (record { same = refl; how = tt })

-- the run ends at the file
pub stops_there : {D A : Type 0} (F : Files D) (before after : D) (name : List ℕ) (limit : ℕ) (next : List ℕ → Course A) (halt : Halt)
    → IsRead F before name after → IsHalt (StopsAt F before name limit after) halt → Follows F before (reads name limit next) after (halt_end halt)
stops_there F before after name limit next (Ended ending) read stops = inr (after, read, inl (record { same = refl; how = stops }))
stops_there F before after name limit next NoMemory read stops = inr (after, read, inl (record { same = refl; how = tt }))

-- it goes on with the file's bytes
pub goes_on_there : {D A : Type 0} (F : Files D) (before middle after : D) (name : List ℕ) (limit : ℕ) (next : List ℕ → Course A) (bytes : List ℕ) (end : End A)
    → IsRead F before name middle → Holds F before name limit bytes → Follows F middle (next bytes) after end → Follows F before (reads name limit next) after end
goes_on_there F before middle after name limit next bytes end read holds rest = inr (middle, read, inr (bytes, holds, rest))

-- where a first stretch ends the run, it is the run
pub stops_early : {D A B : Type 0} (F : Files D) (before after : D) (first : Course A) (next : A → Course B) (halt : Halt)
    → Follows F before first after (halt_end halt) → Follows F before (and_then first next) after (halt_end halt)
stops_early F before after (gives a) next (Ended ending) h = absurd h.how
stops_early F before after (gives a) next NoMemory h = subst (λ d. Follows F before (next a) d wants_memory) (sym h.same) (wants_at_once F before (next a))
stops_early F before after (ends E) next (Ended ending) h = record { same = h.same; how = h.how }
stops_early F before after (ends E) next NoMemory h = record { same = h.same; how = tt }
stops_early F before after (judges E W more) next (Ended ending) (inl h) = inl (record { same = h.same; how = h.how })
stops_early F before after (judges E W more) next NoMemory (inl h) = inl (record { same = h.same; how = tt })
stops_early F before after (judges E W more) next halt (inr (w, h)) = inr (w, stops_early F before after (more w) next halt h)
stops_early F before after (reads name limit more) next (Ended ending) (inl h) = absurd h.how
stops_early F before after (reads name limit more) next NoMemory (inl h) = inl (record { same = h.same; how = tt })
stops_early F before after (reads name limit more) next (Ended ending) (inr (middle, read, inl h)) = inr (middle, read, inl (record { same = h.same; how = h.how }))
stops_early F before after (reads name limit more) next NoMemory (inr (middle, read, inl h)) = inr (middle, read, inl (record { same = h.same; how = tt }))
stops_early F before after (reads name limit more) next halt (inr (middle, read, inr (bytes, holds, h))) =
    inr (middle, read, inr (bytes, holds, stops_early F middle after (more bytes) next halt h))

-- where it goes on, what follows is the rest
pub goes_further : {D A B : Type 0} (F : Files D) (before middle after : D) (first : Course A) (next : A → Course B) (a : A) (end : End B)
    → Follows F before first middle (goes_on a) → Follows F middle (next a) after end → Follows F before (and_then first next) after end
goes_further F before middle after (gives b) next a end h rest =
    subst (λ x. Follows F before (next x) after end) h.how (subst (λ d. Follows F d (next a) after end) h.same rest)
goes_further F before middle after (ends E) next a end h rest = absurd h.how
goes_further F before middle after (judges E W more) next a end (inl h) rest = absurd h.how
goes_further F before middle after (judges E W more) next a end (inr (w, h)) rest = inr (w, goes_further F before middle after (more w) next a end h rest)
goes_further F before middle after (reads name limit more) next a end (inl h) rest = absurd h.how
goes_further F before middle after (reads name limit more) next a end (inr (mid, read, inl h)) rest = absurd h.how
goes_further F before middle after (reads name limit more) next a end (inr (mid, read, inr (bytes, holds, h))) rest =
    inr (mid, read, inr (bytes, holds, goes_further F mid middle after (more bytes) next a end h rest))

-- the run goes on, or ends, as the file's bytes were judged
pub judged_here : {D A B W : Type 0} (F : Files D) (now : D) (E : Status → List ℕ → Type 0) (given : W → B) (view : A → B) (result : Result A Halt)
    → IsJudged E (λ a. (w : W) × (view a ≡ given w)) result → Follows F now (judges E W (λ w. gives (given w))) now (stretch_end view result)
judged_here F now E given view (Ok a) (w, e) = inr (w, record { same = refl; how = e })
judged_here F now E given view (Err (Ended ending)) h = inl (record { same = refl; how = h })
judged_here F now E given view (Err NoMemory) h = inl (record { same = refl; how = tt })

-- what is judged of a part is judged of the whole
pub judged_so : {A : Type 0} (E G : Status → List ℕ → Type 0) (Is So : A → Type 0) (result : Result A Halt)
    → ((status : Status) (output : List ℕ) → E status output → G status output) → ((a : A) → Is a → So a) → IsJudged E Is result → IsJudged G So result
judged_so E G Is So (Ok a) leads is h = is a h
judged_so E G Is So (Err (Ended ending)) leads is h = leads ending.status ending.output.items h
judged_so E G Is So (Err NoMemory) leads is h = tt
