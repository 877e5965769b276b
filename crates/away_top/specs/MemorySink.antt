-- What the sink in memory stands for.
use Rattle.std.specs.Prelude.{
  ◌≡◌,
  ◌≤◌,
  ◌==◌,
  ℕ,
  min,
  unwrap_or,
  nat_lt,
  ◌&&◌,
  Bool,
  true,
  List,
  [],
  ◌∷◌,
  Some,
  None,
  if◌then◌else◌,
}
use Rattle.std.specs.declared.option.Option.{Option}
use Rattle.away_top.specs.Host.{next_count}

-- what was written, the room that is left, the numbers of the writes that fail with the bytes that
-- each takes
pub record RoomySink : Type 0 where
  pub bytes : List ℕ
  pub room : ℕ
  pub fails : List (ℕ × ℕ)
  pub calls : ℕ
  pub faults : ℕ

-- the bytes that a write takes which fails
abbrev pub taken_at : List (ℕ × ℕ) → ℕ → Option ℕ
taken_at [] call = None
taken_at (fail ∷ fails) call = if fail.0 == call then Some fail.1 else taken_at fails call

-- the next write isn't one that fails, and so many bytes fit the room
pub record IsWhole (sink : RoomySink) (count : ℕ) : Type 0 where
  pub unlisted : taken_at sink.fails (next_count sink.calls) ≡ None
  pub fits : count ≤ sink.room

-- how many bytes of a piece a write takes that fails: those that are listed, or all, as far as
-- there are some and the room goes
abbrev pub front : RoomySink → ℕ → ℕ
front sink count = min (min (unwrap_or (taken_at sink.fails (next_count sink.calls)) count) count) sink.room

-- each of these calls lies behind
abbrev pub are_past : ℕ → List (ℕ × ℕ) → Bool
are_past calls [] = true
are_past calls (fail ∷ fails) = nat_lt fail.0 (next_count calls) && are_past calls fails

-- all the room, where no listed failure is still to come
abbrev pub safe_room : RoomySink → ℕ
safe_room sink = if are_past sink.calls sink.fails then sink.room else 0
