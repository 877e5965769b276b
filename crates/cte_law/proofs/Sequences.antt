-- Results one after the other.
use Rattle.std.proofs.Common.{◌≡◌, List, [], ◌++◌, Ok, Err, refl, ap, append-nil}
use Rattle.away_values.specs.Results.{Or, and_then, mapped}

-- nothing more is done
pub unit : {A : Type 0} (o : Or A) → and_then o (λ x. Ok x) ≡ o
unit (Ok x) = refl
unit (Err c) = refl

pub unit_twice : {A : Type 0} (o : Or A) → and_then (and_then o (λ x. Ok x)) (λ x. Ok x) ≡ o
unit_twice (Ok x) = refl
unit_twice (Err c) = refl

-- one list, and nothing behind it
pub alone : {A : Type 0} (o : Or (List A)) → and_then o (λ ys. Ok (ys ++ [])) ≡ o
alone (Ok xs) = ap Ok (append-nil xs)
alone (Err c) = refl

-- nothing before it
pub after_nothing : {A : Type 0} (o : Or (List A)) → mapped (λ (zs : List A). [] ++ zs) o ≡ o
after_nothing (Ok xs) = refl
after_nothing (Err c) = refl
