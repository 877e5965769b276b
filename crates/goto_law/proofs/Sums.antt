-- Sums of lists that are longer by one.
use Rattle.std.proofs.Common.{◌≡◌, ℕ, ◌+◌, List, [], ◌∷◌, ◌++◌, map, arith}
use Rattle.std.specs.Prelude.{sum}
use Rattle.std.proofs.lemmas.List.Sums.{sum_by-cons}

pub sum_cons : (x : ℕ) (xs : List ℕ) → sum (x ∷ xs) ≡ x + sum xs
sum_cons x xs = sum_by-cons (λ k. k) x xs

pub sum_push : {A : Type 0} (f : A → ℕ) (xs : List A) (x : A) → sum (map f (xs ++ x ∷ [])) ≡ sum (map f xs) + f x
sum_push f [] x = omega (arith, sum_cons (f x) [])
sum_push f (y ∷ ys) x = omega (arith, sum_cons (f y) (map f (ys ++ x ∷ [])), sum_cons (f y) (map f ys), sum_push f ys x)
