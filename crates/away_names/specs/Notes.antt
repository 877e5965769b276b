-- A result beside what was found on the way to it: the least rule that is broken, and how often the
-- recursive table is named.
use Rattle.std.specs.Prelude.{Bool, if◌then◌else◌, List, [], ◌∷◌, ◌++◌, fold, Option, Some, None}
use Rattle.away_names.specs.declared.note.Times.{Times}
use Rattle.away_names.specs.declared.note.Times.TheVariants.{Never, Once, Often}
use Rattle.away_names.specs.declared.note.Note.{Note}
use Rattle.away_names.specs.declared.note.Noted.{Noted}
use Rattle.away_names.specs.declared.rule.Rule.{Rule}
use Rattle.away_names.specs.Rules.{lesser}

unfoldable pub summed : Times → Times → Times
summed Never b = b
summed Once Never = Once
summed Once b = Often
summed Often b = Often

-- nothing was found
unfoldable pub clean : Note
clean = record { least = None; refers = Never }

unfoldable pub joined : Note → Note → Note
joined a b = record { least = lesser a.least b.least; refers = summed a.refers b.refers }

-- the rule is broken where the test holds
unfoldable pub breaks : Rule → Bool → Note
breaks rule test = record { least = if test then Some rule else None; refers = Never }

abbrev pub pure : {A : Type 0} → A → Noted A
pure x = record { it = x; note = clean }

abbrev pub noted : {A : Type 0} → Note → A → Noted A
noted n x = record { it = x; note = n }

abbrev pub mapped : {A B : Type 0} → (A → B) → Noted A → Noted B
mapped f a = record { it = f a.it; note = a.note }

abbrev pub also : {A : Type 0} → Note → Noted A → Noted A
also n a = record { it = a.it; note = joined n a.note }

-- two results, the left one first
abbrev pub paired : {A B C : Type 0} → (A → B → C) → Noted A → Noted B → Noted C
paired f a b = record { it = f a.it b.it; note = joined a.note b.note }

-- a further result at the end of a list
abbrev pub added : {A : Type 0} → Noted (List A) → Noted A → Noted (List A)
added a x = record { it = a.it ++ x.it ∷ []; note = joined a.note x.note }

-- from left to right
abbrev pub each : {A B : Type 0} → (A → Noted B) → List A → Noted (List B)
each f = fold (λ a x. added a (f x)) (pure [])

abbrev pub held : {A B : Type 0} → (A → Noted B) → Option A → Noted (Option B)
held f None = pure None
held f (Some x) = mapped Some (f x)

-- what is found at each
abbrev pub all_notes : {A : Type 0} → (A → Note) → List A → Note
all_notes f = fold (λ n x. joined n (f x)) clean
