-- How deep the brackets and blocks of terminals nest: what tokens that are they do to the count.
use Rattle.std.specs.Prelude.{
  ◌≤◌,
  ℕ,
  ◌+◌,
  Bool,
  true,
  false,
  ◌&&◌,
  if◌then◌else◌,
  List,
  [],
  ◌∷◌,
  take,
}
use Rattle.away_grammar.specs.declared.grammar.Mark.{Mark}
use Rattle.away_grammar.specs.declared.grammar.Mark.TheVariants as m
use Rattle.away_grammar.specs.Nesting.{Change, opens, closes, stays, opened, closed}
use Rattle.away_grammar.specs.Terminals.{Terminal, mark}

-- the words that END makes a closing pair with
abbrev pub closes_with_end : Mark → Bool
closes_with_end m.If = true
closes_with_end m.Loop = true
closes_with_end m.Case = true
closes_with_end _ = false

abbrev pub is_end_mark : Mark → Bool
is_end_mark m.End = true
is_end_mark _ = false

abbrev pub mark_change : Mark → Change
mark_change m.Open = opens
mark_change m.Begin = opens
mark_change m.If = opens
mark_change m.Loop = opens
mark_change m.Case = opens
mark_change m.Close = closes
mark_change m.End = closes
mark_change _ = stays

abbrev pub is_closed : Terminal → Bool
is_closed (mark terminal) = closes_with_end terminal
is_closed _ = false

abbrev pub is_end : Terminal → Bool
is_end (mark terminal) = is_end_mark terminal
is_end _ = false

-- what a terminal alone does to the count
abbrev pub change : Terminal → Change
change (mark terminal) = mark_change terminal
change _ = stays

-- one change for each terminal, where END and IF, LOOP or CASE directly behind it are one closing
-- pair
abbrev pub changes : List Terminal → List Change
changes [] = []
changes (s ∷ []) = change s ∷ []
changes (s ∷ t ∷ ts) = if is_end s && is_closed t then closes ∷ changes ts else change s ∷ changes (t ∷ ts)

-- No front of the changes has a greater count than this.
abbrev pub NestWithin : ℕ → List Change → Type 0
NestWithin d cs = (at : ℕ) → opened (take at cs) ≤ d + closed (take at cs)

-- no front of the terminals nests deeper
abbrev pub TerminalsNestWithin : ℕ → List Terminal → Type 0
TerminalsNestWithin d ts = NestWithin d (changes ts)
