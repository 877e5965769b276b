-- A value or a class, and lists of them from left to right, where the first class is the result.
use Rattle.std.specs.Prelude.{◌≡◌, ℕ, List, [], ◌∷◌, ◌++◌, Result, Ok, Err}
use Rattle.away_values.specs.declared.values.Class.{Class}
use Rattle.away_values.specs.declared.errors.OpError.{OpError}
use Rattle.away_values.specs.declared.errors.OpError.TheVariants as error

abbrev pub Or : Type 0 → Type 0
Or A = Result A Class

abbrev pub and_then : {A B : Type 0} → Or A → (A → Or B) → Or B
and_then (Ok a) go = go a
and_then (Err c) go = Err c

abbrev pub mapped : {A B : Type 0} → (A → B) → Or A → Or B
mapped f (Ok a) = Ok (f a)
mapped f (Err c) = Err c

-- each element's answer, left to right
abbrev pub each : {A B : Type 0} → (A → Or B) → List A → Or (List B)
each f [] = Ok []
each f (x ∷ xs) = and_then (f x) (λ y. mapped (λ ys. y ∷ ys) (each f xs))

-- the lists of all elements, one after the other
abbrev pub each_joined : {A B : Type 0} → (A → Or (List B)) → List A → Or (List B)
each_joined f [] = Ok []
each_joined f (x ∷ xs) = and_then (f x) (λ ys. mapped (λ zs. ys ++ zs) (each_joined f xs))

abbrev pub class : List ℕ → Class
class code = record { code = code }

-- what a call answers whose meaning is `meant`, where want of memory is the one free answer
abbrev pub Answers : {A : Type 0} → Or A → Result A OpError → Type 0
Answers meant (Ok a) = meant ≡ Ok a
Answers meant (Err (error.Class c)) = meant ≡ Err c
Answers meant (Err error.NoMemory) = Unit {0}
