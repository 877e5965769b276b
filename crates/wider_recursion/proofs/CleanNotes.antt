-- A note is clean where both of its parts are.
use Rattle.std.proofs.Common.{◌≡◌, refl, ap, Bool, true, false, not, Option, Some, None}
use Rattle.std.specs.Prelude.{if◌then◌else◌, nat_le}
use Rattle.away_names.specs.Notes.{joined, breaks}
use Rattle.away_names.specs.Rules.{lesser, number}
use Rattle.away_names.specs.declared.note.Note.{Note}
use Rattle.away_names.specs.declared.rule.Rule.{Rule}

-- no rule is broken
abbrev pub Clean : Note → Type 0
Clean note = note.least ≡ None

some_is_none : {A : Type 0} (x : A) → Some x ≡ None → ⊥
some_is_none x h = cc

lesser_is_none : (a b : Option Rule) → lesser a b ≡ None → (a ≡ None) × (b ≡ None)
unfolding lesser
lesser_is_none None b h = (refl, h)
lesser_is_none (Some a) None h = absurd (some_is_none a h)
lesser_is_none (Some a) (Some b) h = absurd (one_of_two a b (nat_le (number a) (number b)) h)
  where
    one_of_two : (a b : Rule) (t : Bool) → (if t then Some a else Some b) ≡ None → ⊥
    one_of_two a b true h = some_is_none a h
    one_of_two a b false h = some_is_none b h

pub clean_parts : (a b : Note) → Clean (joined a b) → Clean a × Clean b
unfolding joined
clean_parts a b h = lesser_is_none a.least b.least h

pub both_clean : (a b : Note) → Clean a → Clean b → Clean (joined a b)
unfolding joined lesser
both_clean a b h k = λ i. lesser (h i) (k i)

-- the test that would break a rule fails
pub test_holds : (rule : Rule) (t : Bool) → Clean (breaks rule (not t)) → t ≡ true
unfolding breaks
test_holds rule true h = refl
test_holds rule false h = absurd (some_is_none rule h)

pub holds_clean : (rule : Rule) (t : Bool) → t ≡ true → Clean (breaks rule (not t))
unfolding breaks
holds_clean rule t h = ap (λ b. (breaks rule (not b)).least) h
