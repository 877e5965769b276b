-- What names stand for where no rule is broken.
use Rattle.std.proofs.Common.{◌≡◌, refl, ap, sym, subst, ◌∙◌, false, ◌&&◌, List, [], ◌∷◌, ◌++◌, map, fold, Option, Some, None, option_map}
use Rattle.std.proofs.lemmas.List.{append_assoc, append-nil}
use Rattle.away_names.specs.declared.rule.Rule.TheVariants as rule
use Rattle.away_names.specs.declared.note.Note.{Note}
use Rattle.away_names.specs.declared.note.Noted.{Noted}
use Rattle.away_names.specs.Lookups.{Name, Scope, is_kept}
use Rattle.away_names.specs.Naming.{written, all_written, maybe_written}
use Rattle.away_names.specs.declared.rule.Rule.{Rule}
use Rattle.away_names.specs.Rules.{lesser}
use Rattle.away_names.specs.Notes.{clean, joined, breaks, pure, mapped, also, paired, added, each, held}

-- ---- notes

abbrev pub IsQuiet : Note → Type 0
IsQuiet m = m.least ≡ None

pub clean_quiet : IsQuiet clean
unfolding clean
clean_quiet = refl

pub both_quiet : (a b : Note) → IsQuiet a → IsQuiet b → IsQuiet (joined a b)
unfolding joined lesser
both_quiet a b h k = λ i. lesser (h i) (k i)

pub unbroken : (broken : Rule) → IsQuiet (breaks broken false)
unfolding breaks
unbroken broken = refl

pub written_quiet : (s : Scope) (n : Name) → s.in_function ≡ false → IsQuiet (written s n)
unfolding written
written_quiet s n h = ap (λ b. (breaks rule.Reserved (b && is_kept n)).least) h ∙ unbroken rule.Reserved

names_quiet : (s : Scope) (ns : List Name) (m : Note) → s.in_function ≡ false → IsQuiet m → IsQuiet (fold (λ m x. joined m (written s x)) m ns)
names_quiet s [] m h k = k
names_quiet s (n ∷ ns) m h k = names_quiet s ns (joined m (written s n)) h (both_quiet m (written s n) k (written_quiet s n h))

pub all_quiet : (s : Scope) (ns : List Name) → s.in_function ≡ false → IsQuiet (all_written s ns)
all_quiet s ns h = names_quiet s ns clean h clean_quiet

pub maybe_quiet : (s : Scope) (o : Option Name) → s.in_function ≡ false → IsQuiet (maybe_written s o)
unfolding maybe_written
maybe_quiet s None h = clean_quiet
maybe_quiet s (Some n) h = written_quiet s n h

-- ---- results

abbrev pub Gives : {A : Type 0} → Noted A → A → Type 0
Gives x y = (x.it ≡ y) × IsQuiet x.note

pub same_gives : {A : Type 0} (a b : Noted A) (y : A) → a ≡ b → Gives b y → Gives a y
same_gives a b y e g = subst (λ z. Gives z y) (sym e) g

pub pure_gives : {A : Type 0} (y : A) → Gives (pure y) y
pure_gives y = (refl, clean_quiet)

pub mapped_gives : {A B : Type 0} (f : A → B) (x : Noted A) (y : A) → Gives x y → Gives (mapped f x) (f y)
mapped_gives f x y g = (ap f g.0, g.1)

pub also_gives : {A : Type 0} (m : Note) (x : Noted A) (y : A) → IsQuiet m → Gives x y → Gives (also m x) y
also_gives m x y h g = (g.0, both_quiet m x.note h g.1)

pub paired_gives : {A B C : Type 0} (f : A → B → C) (a : Noted A) (b : Noted B) (x : A) (y : B) → Gives a x → Gives b y → Gives (paired f a b) (f x y)
paired_gives f a b x y g h = (λ i. f (g.0 i) (h.0 i), both_quiet a.note b.note g.1 h.1)

-- ---- lists

abbrev pub Every : {A : Type 0} → (A → Type 0) → List A → Type 0
Every P [] = Unit {0}
Every P (x ∷ xs) = P x × Every P xs

abbrev pub EveryOption : {A : Type 0} → (A → Type 0) → Option A → Type 0
EveryOption P None = Unit {0}
EveryOption P (Some x) = P x

more_given : {A B : Type 0} (f : A → Noted B) (g : B → A) (a : Noted (List B)) (ys : List B) → IsQuiet a.note → Every (λ y. Gives (f (g y)) y) ys
    → Gives (fold (λ a x. added a (f x)) a (map g ys)) (a.it ++ ys)
more_given f g a [] h e = (sym (append-nil a.it), h)
more_given f g a (y ∷ ys) h e =
    let rest = more_given f g (added a (f (g y))) ys (both_quiet a.note (f (g y)).note h e.0.1) e.1 in
    (rest.0 ∙ (ap (λ z. (a.it ++ z ∷ []) ++ ys) e.0.0 ∙ append_assoc a.it (y ∷ []) ys), rest.1)

pub each_gives : {A B : Type 0} (f : A → Noted B) (g : B → A) (ys : List B) → Every (λ y. Gives (f (g y)) y) ys → Gives (each f (map g ys)) ys
each_gives f g ys e = more_given f g (pure []) ys clean_quiet e

pub held_gives : {A B : Type 0} (f : A → Noted B) (g : B → A) (o : Option B) → EveryOption (λ y. Gives (f (g y)) y) o → Gives (held f (option_map g o)) o
held_gives f g None e = pure_gives None
held_gives f g (Some y) e = mapped_gives (λ x. Some x) (f (g y)) y e
