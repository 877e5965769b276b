-- What files and a sink promise.
use Rattle.std.specs.Prelude.{
  ◌≡◌,
  ℕ,
  ◌+◌,
  ◌-◌,
  ◌^◌,
  ◌<◌,
  ◌≤◌,
  min,
  List,
  length,
  take,
  Some,
  IfSome,
  IsOk,
  Result,
  ⊤,
}
use Rattle.std.specs.declared.option.Option.{Option}
use Rattle.std.specs.Io.KnownBytes.{Appends}
use Rattle.away_top.specs.declared.host.ReadError.{ReadError}
use Rattle.away_top.specs.declared.host.ReadError.TheVariants.{Failed, Long, NoMemory}

-- one more, up to the last number of 64 bits; so the number of the next call
abbrev pub next_count : ℕ → ℕ
next_count n = min (n + 1) (2 ^ 64 - 1)

-- A count of faults has risen, or stands at its last value.
abbrev pub Rose : ℕ → ℕ → Type 0
Rose before now = next_count before ≤ now

-- What is told is told later too, and is the same.
abbrev pub Keeps : (List ℕ → Option (List ℕ)) → (List ℕ → Option (List ℕ)) → Type 0
Keeps old new = (name bytes : List ℕ) → old name ≡ Some bytes → new name ≡ Some bytes

-- A name that was safe is safe later too.
abbrev pub Stays : (List ℕ → Type 0) → (List ℕ → Type 0) → Type 0
Stays old new = (name : List ℕ) → old name → new name

-- `Long(n)`: n is more than the limit, and no more than the file holds.
abbrev pub IsTooLong : ℕ → Option (List ℕ) → ReadError → Type 0
IsTooLong limit told (Long n) = (limit < n) × IfSome told (λ bytes. n ≤ length bytes)
IsTooLong limit told Failed = ⊤
IsTooLong limit told NoMemory = ⊤

-- A part of the piece, from its front, was appended.
abbrev pub AppendsPrefix : Option (List ℕ) → Option (List ℕ) → List ℕ → Type 0
AppendsPrefix old new piece = (n : ℕ) × Appends old new (take n piece)

-- The write doesn't fail, and the room is less by its length.
abbrev pub Fills : {T E : Type 0} → Result T E → ℕ → ℕ → ℕ → Type 0
Fills result old new count = IsOk result × (new + count ≡ old)
