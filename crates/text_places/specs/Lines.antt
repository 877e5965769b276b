-- Lines and columns of a text. Lines end with LF and are counted from 1, and so are the columns of a
-- line, in characters; a tab is one.
use Rattle.std.specs.Prelude.{
  ◌≡◌,
  ◌⊎◌,
  ◌<◌,
  ◌≤◌,
  ◌+◌,
  ◌-◌,
  ℕ,
  Bool,
  IsTrue,
  not,
  ◌&&◌,
  ◌||◌,
  ◌==◌,
  if◌then◌else◌,
  nat_le,
  nat_lt,
  List,
  [],
  ◌∷◌,
  ◌++◌,
  length,
  slice_index,
  map,
  filter,
  count_by,
}
use Rattle.std.specs.List.{All}
use Rattle.text_places.specs.declared.lines.Display.{Display}

abbrev pub is_end : ℕ → Bool
is_end b = b == 10

-- a byte of UTF-8 that begins a character: all but those that go on with one
abbrev pub begins : ℕ → Bool
begins b = not (nat_le 128 b && nat_lt b 192)

abbrev pub characters : List ℕ → ℕ
characters z = count_by begins z

-- a text that is whole lines
abbrev pub AreLines : List ℕ → Type 0
AreLines z = (z ≡ []) ⊎ ((front : List ℕ) × (z ≡ front ++ 10 ∷ []))

-- whether a line begins at the byte, and whether one ends there
abbrev pub starts_line : List ℕ → ℕ → Bool
starts_line z n = n == 0 || is_end (slice_index z (n - 1))

abbrev pub ends_line : List ℕ → ℕ → Bool
ends_line z n = n == length z || is_end (slice_index z n)

-- what a line may have before its end
abbrev pub IsInLine : List ℕ → Type 0
IsInLine z = All (λ b. ¬ (b ≡ 10)) z

-- nothing, or what begins with the end of a line
abbrev pub EndsLine : List ℕ → Type 0
EndsLine z = (z ≡ []) ⊎ ((rest : List ℕ) × (z ≡ 10 ∷ rest))

-- The text around a byte of it: whole lines, what stands in its line before it, what stands there
-- from it on, and the rest. The byte of an LF stands at the end of its line.
pub record Around (text : List ℕ) (offset : ℕ) : Type 0 where
  pub lines : List ℕ
  pub before : List ℕ
  pub after : List ℕ
  pub rest : List ℕ
  pub text_is : text ≡ lines ++ (before ++ (after ++ rest))
  pub offset_is : offset ≡ length lines + length before
  pub whole : AreLines lines
  pub earlier : IsInLine before
  pub later : IsInLine after
  pub ends : EndsLine rest

-- from where the line of a byte begins up to where it ends
pub record AreEnds (text : List ℕ) (offset start end : ℕ) : Type 0 where
  pub forward : start ≤ offset
  pub behind : offset ≤ end
  pub within : end ≤ length text
  pub starts : IsTrue (starts_line text start)
  pub ends : IsTrue (ends_line text end)
  pub earlier : (k : ℕ) → start ≤ k → k < offset → ¬ (slice_index text k ≡ 10)
  pub later : (k : ℕ) → offset ≤ k → k < end → ¬ (slice_index text k ≡ 10)

abbrev pub line : {text : List ℕ} {offset : ℕ} → Around text offset → ℕ
line a = 1 + count_by is_end a.lines

abbrev pub column : {text : List ℕ} {offset : ℕ} → Around text offset → ℕ
column a = 1 + characters a.before

-- the line as it stands
abbrev pub source : {text : List ℕ} {offset : ℕ} → Around text offset → List ℕ
source a = a.before ++ a.after

-- what stands under a character: a tab under a tab, else a blank
abbrev pub blank_under : ℕ → ℕ
blank_under b = if b == 9 then 9 else 32

-- a caret under the byte
abbrev pub caret : {text : List ℕ} {offset : ℕ} → Around text offset → List ℕ
caret a = map blank_under (filter begins a.before) ++ 94 ∷ []

-- the line and under it the caret, a line each
abbrev pub display : {text : List ℕ} {offset : ℕ} → Around text offset → List ℕ
display a = (source a ++ 10 ∷ []) ++ (caret a ++ 10 ∷ [])

-- what is shown of the byte: its line and its column, and its line with a caret under it
abbrev pub IsShown : (text : List ℕ) → (offset : ℕ) → Display → Type 0
IsShown text offset shown =
    (a : Around text offset) × (shown.place.line ≡ line a) × (shown.place.column ≡ column a)
    × (shown.lines.items ≡ display a)
