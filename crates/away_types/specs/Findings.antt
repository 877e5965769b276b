-- What statements break, by their numbers. A statement makes the least rule that it breaks itself a
-- finding at its own number. Of several findings the one of the lesser rule comes first, and of one
-- rule the one of the lesser number. Numbers are counted from the first node of what is looked at,
-- in the order of the text, as the nodes of a function are.
use Rattle.std.specs.Prelude.{
  ℕ,
  ◌+◌,
  Bool,
  ◌&&◌,
  ◌||◌,
  ◌==◌,
  if◌then◌else◌,
  nat_lt,
  nat_le,
  Option,
  Some,
  None,
}
use Rattle.away_names.specs.declared.note.Note.{Note}
use Rattle.away_names.specs.declared.rule.Rule.{Rule}
use Rattle.away_names.specs.Notes.{clean}
use Rattle.away_names.specs.Rules.{number}
use Rattle.away_types.specs.declared.finding.Finding.{Finding}
use Rattle.away_types.specs.declared.finding.Report.{Report}

unfoldable pub precedes : Finding → Finding → Bool
precedes a b = nat_lt (number a.rule) (number b.rule) || (number a.rule == number b.rule && nat_le a.node b.node)

unfoldable pub first_of : Option Finding → Option Finding → Option Finding
first_of None b = b
first_of (Some a) None = Some a
first_of (Some a) (Some b) = if precedes a b then Some a else Some b

abbrev pub added : ℕ → ℕ → ℕ
added a b = a + b

-- behind so many nodes
unfoldable pub later : ℕ → Option Finding → Option Finding
later nodes None = None
later nodes (Some f) = Some (record { rule = f.rule; node = nodes + f.node })

unfoldable pub at_first : Option Rule → Option Finding
at_first None = None
at_first (Some rule) = Some (record { rule = rule; node = 0 })

-- a statement by its own nodes, of which it is the first, and what it breaks itself
unfoldable pub own : ℕ → Note → Report
own nodes note = record { first = at_first note.least; nodes = nodes }

-- with so many nodes behind it that are its own, as the declarations of a block
abbrev pub own_with : ℕ → Note → Report
own_with more note = own (1 + more) note

unfoldable pub nothing : Report
nothing = record { first = None; nodes = 0 }

-- one behind the other
unfoldable pub followed : Report → Report → Report
followed a b = record { first = first_of a.first (later a.nodes b.first); nodes = a.nodes + b.nodes }

-- two of the same statements
unfoldable pub both : Report → Report → Report
both a b = record { first = first_of a.first b.first; nodes = a.nodes }

-- IF or CASE, by its arms and what stands behind ELSE
abbrev pub branched : Report → Report → Report
branched arms other = followed (own 1 clean) (followed arms other)
