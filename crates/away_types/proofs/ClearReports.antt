-- Where nothing is found in the whole, nothing is found in a part.
use Rattle.std.proofs.Common.{◌≡◌, refl, ℕ, Bool, true, false, Option, Some, None}
use Rattle.std.specs.Prelude.{if◌then◌else◌}
use Rattle.away_names.specs.declared.note.Note.{Note}
use Rattle.away_names.specs.declared.rule.Rule.{Rule}
use Rattle.away_names.specs.Notes.{clean}
use Rattle.away_types.specs.declared.finding.Finding.{Finding}
use Rattle.away_types.specs.declared.finding.Report.{Report}
use Rattle.away_types.specs.Findings.{at_first, first_of, later, precedes, own, followed, both, branched}
use Rattle.away_types.specs.Refusals.{IsUnbroken, HasNoFinding}

some_is_none : {A : Type 0} (x : A) → Some x ≡ None → ⊥
some_is_none x h = cc

one_of_two : {A : Type 0} (a b : A) (t : Bool) → (if t then Some a else Some b) ≡ None → ⊥
one_of_two a b true h = some_is_none a h
one_of_two a b false h = some_is_none b h

first_is_none : (a b : Option Finding) → first_of a b ≡ None → (a ≡ None) × (b ≡ None)
unfolding first_of
first_is_none None b h = (refl, h)
first_is_none (Some a) None h = absurd (some_is_none a h)
first_is_none (Some a) (Some b) h = absurd (one_of_two a b (precedes a b) h)

later_is_none : (k : ℕ) (f : Option Finding) → later k f ≡ None → f ≡ None
unfolding later
later_is_none k None h = refl
later_is_none k (Some f) h = absurd (some_is_none _ h)

at_first_is_none : (r : Option Rule) → at_first r ≡ None → r ≡ None
unfolding at_first
at_first_is_none None h = refl
at_first_is_none (Some r) h = absurd (some_is_none _ h)

-- nothing is found
abbrev pub Clear : Report → Type 0
Clear report = HasNoFinding report

pub clear_own : (k : ℕ) (note : Note) → Clear (own k note) → IsUnbroken note
unfolding own
clear_own k note h = at_first_is_none note.least h

pub clear_parts : (a b : Report) → Clear (followed a b) → Clear a × Clear b
unfolding followed
clear_parts a b h = let two = first_is_none a.first (later a.nodes b.first) h in (two.0, later_is_none a.nodes b.first two.1)

clear_both : (a b : Report) → Clear (both a b) → Clear a × Clear b
unfolding both
clear_both a b h = first_is_none a.first b.first h

-- a statement over what stands in it
pub clear_within : (k : ℕ) (note : Note) (inner : Report) → Clear (followed (own k note) inner) → IsUnbroken note × Clear inner
clear_within k note inner h = let two = clear_parts (own k note) inner h in (clear_own k note two.0, two.1)

pub clear_branches : (arms other : Report) → Clear (branched arms other) → Clear arms × Clear other
clear_branches arms other h = clear_parts arms other (clear_within 1 clean (followed arms other) h).1

-- a function: of its body the names and the types
pub clear_bodies : (k : ℕ) (head : Note) (names types : Report) → Clear (followed (own k head) (both names types)) → Clear names × Clear types
clear_bodies k head names types h = clear_both names types (clear_within k head (both names types) h).1
