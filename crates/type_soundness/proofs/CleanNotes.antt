-- Where no rule is broken in the whole, none is broken in a part.
use Rattle.std.proofs.Common.{◌≡◌, refl, Bool, true, false, Option, Some, None}
use Rattle.std.specs.Prelude.{if◌then◌else◌, nat_le}
use Rattle.away_names.specs.declared.note.Note.{Note}
use Rattle.away_names.specs.declared.rule.Rule.{Rule}
use Rattle.away_names.specs.Notes.{joined, breaks}
use Rattle.away_names.specs.Rules.{lesser, number}

-- no rule is broken
abbrev pub Clean : Note → Type 0
Clean note = note.least ≡ None

some_is_none : {A : Type 0} (x : A) → Some x ≡ None → ⊥
some_is_none x h = cc

lesser_is_none : (a b : Option Rule) → lesser a b ≡ None → (a ≡ None) × (b ≡ None)
unfolding lesser
lesser_is_none None b h = (refl, h)
lesser_is_none (Some a) None h = absurd (some_is_none a h)
lesser_is_none (Some a) (Some b) h = absurd (one_of_two a b (nat_le (number a) (number b)) h)
  where
    one_of_two : (a b : Rule) (t : Bool) → (if t then Some a else Some b) ≡ None → ⊥
    one_of_two a b true h = some_is_none a h
    one_of_two a b false h = some_is_none b h

pub clean_parts : (a b : Note) → Clean (joined a b) → Clean a × Clean b
unfolding joined
clean_parts a b h = lesser_is_none a.least b.least h

pub not_broken : (rule : Rule) → Clean (breaks rule true) → ⊥
unfolding breaks
not_broken rule h = some_is_none rule h

-- a test that would break a rule fails
pub test_fails : (rule : Rule) (t : Bool) → Clean (breaks rule t) → t ≡ false
test_fails rule true h = absurd (not_broken rule h)
test_fails rule false h = refl
