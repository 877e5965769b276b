-- What holds of each element of a list, by the places of the elements.
use Rattle.std.specs.Prelude.{◌≡◌, ◌≢◌, ◌⊎◌, ℕ, ◌<◌, List, [], ◌∷◌, slice_get, Option, Some, None}

-- each element
abbrev pub Each : {X : Type 0} → (X → Type 0) → List X → Type 0
Each {X} P xs = (i : ℕ) (x : X) → slice_get xs i ≡ Some x → P x

-- each element, by its place
abbrev pub EachAt : {X : Type 0} → (ℕ → X → Type 0) → List X → Type 0
EachAt {X} P xs = (i : ℕ) (x : X) → slice_get xs i ≡ Some x → P i x

-- each two elements at one place
abbrev pub EachPair : {X Y : Type 0} → (ℕ → X → Y → Type 0) → List X → List Y → Type 0
EachPair {X} {Y} P xs ys = (i : ℕ) (x : X) (y : Y) → slice_get xs i ≡ Some x → slice_get ys i ≡ Some y → P i x y

-- no element before the place has the key
pub record NoneBefore {X K : Type 0} (key : X → K) (xs : List X) (place : ℕ) (k : K) : Type 0 where
  pub others : EachAt (λ j y. j < place → key y ≢ k) xs

-- no key stands at two places
abbrev pub Distinct : {X K : Type 0} → (X → K) → List X → Type 0
Distinct key xs = EachAt (λ i x. NoneBefore key xs i (key x)) xs

abbrev pub first_of : ℕ × ℕ → ℕ
first_of p = p.0

abbrev pub IsThere : {X : Type 0} → Option X → Type 0
IsThere None = ⊥
IsThere (Some x) = Unit {0}

-- x is an element
abbrev pub In : {X : Type 0} → List X → X → Type 0
In [] x = ⊥
In (y ∷ ys) x = (y ≡ x) ⊎ In ys x
