-- The tag of the dollar quote that a text is put into: the first one whose mark stands nowhere in
-- the text. The empty tag comes first, then q1, q2 and so on.
use Rattle.std.specs.Prelude.{
  ℕ,
  zero,
  suc,
  Bool,
  ◌||◌,
  if◌then◌else◌,
  List,
  [],
  ◌∷◌,
  take,
  length,
  bytes_eq,
  decimal,
}
use Rattle.away_grammar.specs.Spellings.{mark_of}

abbrev pub tag_of : ℕ → List ℕ
tag_of zero = []
tag_of (suc n) = 113 ∷ decimal (suc n)

-- the mark of the tag of this number
abbrev pub numbered_mark : ℕ → List ℕ
numbered_mark n = mark_of (tag_of n)

-- whether the first text stands somewhere in the second
abbrev pub stands_in : List ℕ → List ℕ → Bool
stands_in mark [] = bytes_eq (take (length mark) []) mark
stands_in mark (b ∷ z) = bytes_eq (take (length mark) (b ∷ z)) mark || stands_in mark z

-- The first number from this one on whose mark stands nowhere in the text, among so many.
abbrev pub first_free : ℕ → ℕ → List ℕ → ℕ
first_free zero n text = n
first_free (suc more) n text =
    if stands_in (numbered_mark n) text then first_free more (suc n) text else n

-- A text has fewer places than bytes where a mark stands, so one of that many numbers and one more
-- is free.
unfoldable pub free_mark : List ℕ → List ℕ
free_mark text = numbered_mark (first_free (length text) 0 text)
