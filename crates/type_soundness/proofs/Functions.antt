-- A name is the same function where names and types are judged and where expressions are given their values.
use Rattle.std.proofs.Common.{◌≡◌, refl, ◌∙◌, ℕ, Bool, true, false, List, [], ◌∷◌, Option, Some, None}
use Rattle.std.specs.Prelude.{bytes_eq, if◌then◌else◌, codes}
use Rattle.away_names.specs.declared.function.Known.{Known}
use Rattle.away_names.specs.declared.function.Known.TheVariants as known
use Rattle.away_names.specs.Functions as names
use Rattle.sql_meaning.specs.Functions as meant
use Rattle.sql_meaning.specs.Functions.{Function}

abbrev pub stands : Known → Function
stands known.Length = meant.Length
stands known.Substr = meant.Substr
stands known.Coalesce = meant.Coalesce
stands known.Greatest = meant.Greatest
stands known.Least = meant.Least
stands known.Count = meant.Count
stands known.Min = meant.Min
stands known.Max = meant.Max
stands known.Sum = meant.Sum
stands known.BoolAnd = meant.BoolAnd
stands known.BoolOr = meant.BoolOr

abbrev pub stands_for : Option Known → Function
stands_for None = meant.Unknown
stands_for (Some f) = stands f

-- two tables of the same names
abbrev Same : List (List ℕ × Known) → List (List ℕ × Function) → Type 0
Same [] [] = Unit {0}
Same (x ∷ xs) (y ∷ ys) = (y.0 ≡ x.0) × (y.1 ≡ stands x.1) × Same xs ys
Same _ _ = ⊥

first_of_two : (b : Bool) (x : Known) (o : Option Known) → (if b then stands x else stands_for o) ≡ stands_for (if b then Some x else o)
first_of_two true x o = refl
first_of_two false x o = refl

same_names : (xs : List (List ℕ × Known)) (ys : List (List ℕ × Function)) (name : List ℕ) → Same xs ys → meant.named_by ys name ≡ stands_for (names.named_by xs name)
same_names [] [] name h = refl
same_names (x ∷ xs) (y ∷ ys) name h =
    (λ i. if bytes_eq (h.0 i) name then h.1 i else same_names xs ys name h.2 i) ∙ first_of_two (bytes_eq x.0 name) x.1 (names.named_by xs name)
same_names _ _ name h = absurd h

pub function_is : (name : List ℕ) → meant.function name ≡ stands_for (names.function name)
unfolding names.function
function_is name =
    same_names
    ((codes "length", known.Length) ∷ (codes "substr", known.Substr) ∷ (codes "coalesce", known.Coalesce) ∷ (codes "greatest", known.Greatest) ∷ (codes "least", known.Least)
    ∷ (codes "count", known.Count) ∷ (codes "min", known.Min) ∷ (codes "max", known.Max) ∷ (codes "sum", known.Sum) ∷ (codes "bool_and", known.BoolAnd) ∷ (codes "bool_or", known.BoolOr) ∷ [])
    ((codes "length", meant.Length) ∷ (codes "substr", meant.Substr) ∷ (codes "coalesce", meant.Coalesce) ∷ (codes "greatest", meant.Greatest) ∷ (codes "least", meant.Least)
    ∷ (codes "count", meant.Count) ∷ (codes "min", meant.Min) ∷ (codes "max", meant.Max) ∷ (codes "sum", meant.Sum) ∷ (codes "bool_and", meant.BoolAnd) ∷ (codes "bool_or", meant.BoolOr) ∷ [])
    name
    (refl, refl, (refl, refl, (refl, refl, (refl, refl, (refl, refl, (refl, refl, (refl, refl, (refl, refl, (refl, refl, (refl, refl, (refl, refl, tt)))))))))))
