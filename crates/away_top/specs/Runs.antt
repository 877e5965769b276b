-- How a run goes along its course, from the state of the files before it to the state that it
-- leaves.
use Rattle.std.specs.Prelude.{◌≡◌, ◌⊎◌, ℕ, ◌<◌, ◌≤◌, List, length, codes, IfSome}
use Rattle.away_top.specs.declared.host.Files.{Ghosts as Files}
use Rattle.away_top.specs.declared.status.Status.{Status}
use Rattle.away_top.specs.declared.status.Status.TheVariants.{Refused, ReadFault}
use Rattle.away_top.specs.Course.{Course, gives, ends, judges, reads, Exactly}
use Rattle.away_top.specs.Lines.{read_fault, refusal}
use Rattle.away_top.specs.Host.{Keeps, Rose, Stays}

-- How a run, or a first stretch of one, came out: memory was wanting, it ended with a status and an
-- output, or it goes on with an A.
pub data End (A : Type 0) : Type 0 where
  wants_memory : End A
  ended : Status → List ℕ → End A
  goes_on : A → End A

-- memory was wanting, or it ended with one of these
abbrev pub IsEnd : {A : Type 0} → (Status → List ℕ → Type 0) → End A → Type 0
IsEnd E wants_memory = Unit {0}
IsEnd E (ended status output) = E status output
IsEnd E (goes_on a) = ⊥

-- memory was wanting, or it goes on with this
abbrev pub IsGiven : {A : Type 0} → A → End A → Type 0
IsGiven a wants_memory = Unit {0}
IsGiven a (ended status output) = ⊥
IsGiven a (goes_on b) = b ≡ a

-- No other name is read, and it comes out so.
pub record ReadsNoMore {D A : Type 0} (before after : D) (How : End A → Type 0) (end : End A) : Type 0 where
  pub same : after ≡ before
  pub how : How end

-- This name was read, and nothing else was done with the files.
pub record IsRead {D : Type 0} (F : Files D) (before : D) (name : List ℕ) (after : D) : Type 0 where
  pub leaves : F.read_leaves before name after
  pub kept : Keeps (F.held before) (F.held after)
  pub safe : Stays (F.is_safe before) (F.is_safe after)
  pub absent : Stays (F.is_absent before) (F.is_absent after)
  pub later : F.faults before ≤ F.faults after

-- It couldn't be read: the count of faults rose, and the name wasn't safe.
pub record IsUnreadable {D : Type 0} (F : Files D) (before : D) (name : List ℕ) (after : D) : Type 0 where
  pub count : Rose (F.faults before) (F.faults after)
  pub not_safe : F.is_safe before name → ⊥

-- It has more bytes than the limit, where that is told, and the name isn't known to be absent.
pub record IsLong {D : Type 0} (F : Files D) (before : D) (name : List ℕ) (limit : ℕ) : Type 0 where
  pub more : IfSome (F.held before name) (λ held. limit < length held)
  pub not_absent : F.is_absent before name → ⊥

-- The run ends at this file, since it can't be read or is too long.
abbrev pub StopsAt : {D : Type 0} → Files D → D → List ℕ → ℕ → D → Status → List ℕ → Type 0
StopsAt F before name limit after status output =
    (IsUnreadable F before name after × Exactly ReadFault (read_fault name) status output)
    ⊎ (IsLong F before name limit × Exactly Refused (refusal name (codes "LONG")) status output)

-- A file of at most so many bytes, which are those that it holds, where that is told; and the name
-- isn't known to be absent.
pub record Holds {D : Type 0} (F : Files D) (before : D) (name : List ℕ) (limit : ℕ) (bytes : List ℕ) : Type 0 where
  pub same : IfSome (F.held before name) (λ held. bytes ≡ held)
  pub fits : length bytes ≤ limit
  pub not_absent : F.is_absent before name → ⊥

-- The run goes along the course: each file of it is read in turn, and no other, up to where the run
-- comes out.
abbrev pub Follows : {D A : Type 0} → Files D → D → Course A → D → End A → Type 0
Follows F before (gives a) after end = ReadsNoMore before after (IsGiven a) end
Follows F before (ends E) after end = ReadsNoMore before after (IsEnd E) end
Follows F before (judges E W next) after end =
    ReadsNoMore before after (IsEnd E) end ⊎ ((w : W) × Follows F before (next w) after end)
Follows {D = D} F before (reads name limit next) after end =
    ReadsNoMore before after (IsEnd (λ status output. ⊥)) end
    ⊎ ((middle : D) × IsRead F before name middle
    × (ReadsNoMore middle after (IsEnd (StopsAt F before name limit middle)) end
    ⊎ ((bytes : List ℕ) × Holds F before name limit bytes × Follows F middle (next bytes) after end)))

-- The same, for some text that the compiler gave in this run.
pub record Runs {D : Type 0} (F : Files D) (before : D) (course : List ℕ → Course ⊥) (after : D)
    (end : End ⊥) : Type 0 where
  pub text : List ℕ
  pub follows : Follows F before (course text) after end
