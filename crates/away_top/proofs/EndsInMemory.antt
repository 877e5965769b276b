-- Over objects in memory that are to meet no failure, nothing but want of memory or of room is in the way of a run.
use Rattle.std.proofs.Common.{◌≡◌, ◌<◌, ◌≤◌, ◌++◌, ◌⊎◌, inl, inr, refl, ap, sym, subst, cond, ◌∙◌, ℕ, List, [], length, IsSome, Some, None, arith}
use Rattle.std.specs.declared.option.Option.{Option}
use Rattle.std.specs.List.{All}
use Rattle.away_top.specs.declared.status.Status.{Status}
use Rattle.away_top.specs.declared.status.Status.TheVariants.{NoMemory, ReadFault}
use Rattle.away_top.specs.Course.{AtFile, Course, gives, ends, judges, reads, EachRead, Exactly, Outcome}
use Rattle.away_top.specs.InMemory.{BeginsWith, EndsIn, Unread}
use Rattle.away_top.specs.Lines.{read_fault}
use Rattle.away_top.specs.MemoryFiles.{HeldFiles, IsAbsentName, IsSafeName, held_at}
use Rattle.away_top.specs.MemorySink.{RoomySink, are_past, safe_room}
use Rattle.away_top.specs.Host.{next_count}

nothing : (P : ℕ → Type 0) → All P []
nothing P k d lt = absurd (omega arith)

-- a name that is held is safe, and another is absent
abbrev pub Sure : HeldFiles → List ℕ → Type 0
Sure m name = IsSafeName m name ⊎ IsAbsentName m name

sure_so : (m : HeldFiles) (name : List ℕ) (told : Option (List ℕ)) → m.fails ≡ [] → held_at m.held name ≡ told → Sure m name
sure_so m name None none is = inr is
sure_so m name (Some bytes) none is = inl (record {
  held = subst (λ o. IsSome o) (sym is) refl;
  quiet = subst (All (λ call. call < next_count m.calls)) (sym none) (nothing (λ call. call < next_count m.calls));
})

pub each_sure : {A : Type 0} (m : HeldFiles) → m.fails ≡ [] → (c : Course A) → EachRead (Sure m) (held_at m.held) c
each_sure m none (gives a) = tt
each_sure m none (ends E) = tt
each_sure m none (judges E W next) = λ w. each_sure m none (next w)
each_sure m none (reads name limit next) = (sure_so m name (held_at m.held name) none refl, λ bytes told fits. each_sure m none (next bytes))

room_is_safe : (s : RoomySink) → s.fails ≡ [] → safe_room s ≡ s.room
room_is_safe s none = ap (λ fails. cond (are_past s.calls fails) s.room 0) none

-- what is whole where the safe room holds it is told where the room does
pub in_room : (before after : RoomySink) (result : Status) (Ends Q : Status → List ℕ → Type 0)
    → ((status : Status) (output : List ℕ) → Q status output → (result ≡ status) × (after.bytes ≡ before.bytes ++ output)) → before.fails ≡ []
    → (result ≡ NoMemory) ⊎ ((status : Status) × (output : List ℕ) × Ends status output × (length output ≤ safe_room before → Q status output)) → EndsIn before after result Ends
in_room before after result Ends Q of_whole none (inl wants) = inl wants
in_room before after result Ends Q of_whole none (inr (status, output, ended, whole)) = inr (
  status,
  output,
  ended,
  λ fits.
      let told = of_whole status output (whole (subst (λ n. length output ≤ n) (sym (room_is_safe before none)) fits)) in
      record { status_is = told.0; bytes_are = told.1 },
)

-- a file that is told and short leads on
pub leads_on : (name : List ℕ) (limit : ℕ) (Rest : List ℕ → Type 0) (told : Option (List ℕ)) (bytes : List ℕ) (status : Status) (output : List ℕ) → told ≡ Some bytes → length bytes ≤ limit
    → AtFile name limit Rest told status output → Rest bytes
leads_on name limit Rest told bytes status output is short at = elim (subst (λ o. AtFile name limit Rest o status output) is at) [
  | inl (long, e) ↦ absurd (omega arith)
  | inr (fits, rest) ↦ rest
]

-- ---- a name that isn't held

none_held : (o : Option (List ℕ)) (bytes : List ℕ) → o ≡ None → o ≡ Some bytes → ⊥
none_held o bytes none some = cc

module _ (m : HeldFiles) (name : List ℕ) (none : held_at m.held name ≡ None) where
  -- no other file is read
  pub absent_sure : {A : Type 0} (c : Course A) → BeginsWith name c → EachRead (Sure m) (held_at m.held) c
  absent_sure (gives a) begins = absurd begins
  absent_sure (ends E) begins = absurd begins
  absent_sure (judges E W next) begins = absurd begins
  absent_sure (reads first limit next) begins =
      let absent : held_at m.held first ≡ None = subst (λ n. held_at m.held n ≡ None) (sym begins) none in
      (inr absent, λ bytes told fits. absurd (none_held (held_at m.held first) bytes absent told))

  ends_there : (first : List ℕ) (limit : ℕ) (Rest : List ℕ → Type 0) (status : Status) (output : List ℕ) → first ≡ name → AtFile first limit Rest (held_at m.held first) status output
      → Exactly ReadFault (read_fault name) status output
  ends_there first limit Rest status output is at =
      let here : AtFile name limit Rest (held_at m.held name) status output = subst (λ n. AtFile n limit Rest (held_at m.held n) status output) is at in
      subst (λ o. AtFile name limit Rest o status output) none here

  absent_ends : {A : Type 0} (c : Course A) → BeginsWith name c → (status : Status) (output : List ℕ) → Outcome (held_at m.held) c status output → Exactly ReadFault (read_fault name) status output
  absent_ends (gives a) begins status output o = absurd begins
  absent_ends (ends E) begins status output o = absurd begins
  absent_ends (judges E W next) begins status output o = absurd begins
  absent_ends (reads first limit next) begins status output o = ends_there first limit _ status output begins o

  pub unread : {A : Type 0} (c : Course A) → BeginsWith name c → (before after : RoomySink) (result : Status) → EndsIn before after result (Outcome (held_at m.held) c) → Unread before after result name
  unread c begins before after result (inl wants) = inl wants
  unread c begins before after result (inr (status, output, o, told)) =
      let is = absent_ends c begins status output o in
      inr (λ fits.
      let so = told (subst (λ out. length out ≤ before.room) (sym is.1) fits) in
      record { status_is = so.status_is ∙ is.0; bytes_are = so.bytes_are ∙ ap (λ out. before.bytes ++ out) is.1 })
