-- What a result in parts says of the parts.
use Rattle.std.proofs.Common.{◌≡◌, refl, Ok, Err}
use Rattle.away_values.specs.Results.{Or, and_then, mapped}

-- a first result, and what follows it
pub record Then {A B : Type 0} (o : Or A) (go : A → Or B) (y : B) : Type 0 where
  pub x : A
  pub first : o ≡ Ok x
  pub second : go x ≡ Ok y

pub then_of : {A B : Type 0} (o : Or A) (go : A → Or B) (y : B) → and_then o go ≡ Ok y → Then o go y
then_of (Ok x) go y h = record { x = x; first = refl; second = h }
then_of (Err c) go y h = cc

pub record Mapped {A B : Type 0} (f : A → B) (o : Or A) (y : B) : Type 0 where
  pub x : A
  pub first : o ≡ Ok x
  pub second : y ≡ f x

same_ok : {A : Type 0} (x y : A) → ◌≡◌ {A = Or A} (Ok x) (Ok y) → y ≡ x
same_ok x y h = cc

pub ok_is : {A : Type 0} (x y : A) → ◌≡◌ {A = Or A} (Ok x) (Ok y) → y ≡ x
ok_is x y h = same_ok x y h

pub mapped_of : {A B : Type 0} (f : A → B) (o : Or A) (y : B) → mapped f o ≡ Ok y → Mapped f o y
mapped_of f (Ok x) y h = record { x = x; first = refl; second = same_ok (f x) y h }
mapped_of f (Err c) y h = cc
