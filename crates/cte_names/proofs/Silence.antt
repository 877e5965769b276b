-- Notes in which the recursive table isn't named.
use Rattle.std.proofs.Common.{◌≡◌, refl, Bool, false, List, [], ◌∷◌, map, fold, Option, Some, None, option_map}
use Rattle.away_names.specs.declared.rule.Rule.{Rule}
use Rattle.away_names.specs.declared.rule.Rule.TheVariants as rule
use Rattle.away_names.specs.declared.note.Note.{Note}
use Rattle.away_names.specs.declared.note.Noted.{Noted}
use Rattle.away_names.specs.declared.note.Times.TheVariants.{Never}
use Rattle.away_names.specs.Lookups.{Name, Scope}
use Rattle.away_names.specs.Naming.{written, all_written, maybe_written, part_note, called, once_where}
use Rattle.away_names.specs.Notes.{clean, joined, summed, breaks, pure, added, each, held}
use Rattle.qualified_names.proofs.Gives.{Every, EveryOption}

abbrev pub IsSilent : Note → Type 0
IsSilent m = m.refers ≡ Never

pub clean_silent : IsSilent clean
unfolding clean
clean_silent = refl

pub both_silent : (a b : Note) → IsSilent a → IsSilent b → IsSilent (joined a b)
unfolding joined summed
both_silent a b h k = λ i. summed (h i) (k i)

pub breaks_silent : (broken : Rule) (test : Bool) → IsSilent (breaks broken test)
unfolding breaks
breaks_silent broken test = refl

pub written_silent : (s : Scope) (n : Name) → IsSilent (written s n)
unfolding written breaks
written_silent s n = refl

names_silent : (s : Scope) (ns : List Name) (m : Note) → IsSilent m → IsSilent (fold (λ m x. joined m (written s x)) m ns)
names_silent s [] m h = h
names_silent s (n ∷ ns) m h = names_silent s ns (joined m (written s n)) (both_silent m (written s n) h (written_silent s n))

pub all_silent : (s : Scope) (ns : List Name) → IsSilent (all_written s ns)
all_silent s ns = names_silent s ns clean clean_silent

pub maybe_silent : (s : Scope) (o : Option Name) → IsSilent (maybe_written s o)
unfolding maybe_written
maybe_silent s None = clean_silent
maybe_silent s (Some n) = written_silent s n

pub called_silent : (s : Scope) (n : Name) → IsSilent (called s n)
unfolding called
called_silent s n = both_silent (written s n) _ (written_silent s n) (breaks_silent rule.Names _)

pub part_silent : (s : Scope) (alias : Name) (columns : List Name) → IsSilent (part_note s alias columns)
unfolding part_note
part_silent s alias columns =
    both_silent (written s alias) _ (written_silent s alias) (both_silent (all_written s columns) _ (all_silent s columns) (breaks_silent rule.Duplicates _))

pub table_silent : IsSilent (once_where false)
unfolding once_where
table_silent = refl

-- ---- lists

more_silent : {A B X : Type 0} (f : A → Noted B) (g : X → A) (a : Noted (List B)) (xs : List X) → IsSilent a.note → Every (λ x. IsSilent (f (g x)).note) xs
    → IsSilent (fold (λ a x. added a (f x)) a (map g xs)).note
more_silent f g a [] h e = h
more_silent f g a (x ∷ xs) h e = more_silent f g (added a (f (g x))) xs (both_silent a.note (f (g x)).note h e.0) e.1

pub each_silent : {A B X : Type 0} (f : A → Noted B) (g : X → A) (xs : List X) → Every (λ x. IsSilent (f (g x)).note) xs → IsSilent (each f (map g xs)).note
each_silent f g xs e = more_silent f g (pure []) xs clean_silent e

pub held_silent : {A B X : Type 0} (f : A → Noted B) (g : X → A) (o : Option X) → EveryOption (λ x. IsSilent (f (g x)).note) o
    → IsSilent (held f (option_map g o)).note
held_silent f g None e = clean_silent
held_silent f g (Some x) e = e
