-- A function of what is left of two lists, one step on and where one of them ends.
use Rattle.std.proofs.Common.{◌≡◌, ℕ, ◌+◌, ◌<◌, ◌≤◌, List, [], ◌∷◌, length, drop, get_or, ap}
use Rattle.std.proofs.lemmas.List.{drop_more, drop_all}

module _ {A B Y : Type 0} (F : List A → List B → Y) (xs : List A) (ys : List B) (i : ℕ) where
  pub at_both : (a : A) (b : B) → i < length xs → i < length ys
      → F (drop i xs) (drop i ys) ≡ F (get_or xs i a ∷ drop (i + 1) xs) (get_or ys i b ∷ drop (i + 1) ys)
  at_both a b g h = λ z. F (drop_more xs i a g z) (drop_more ys i b h z)

  pub at_first_end : length xs ≤ i → F (drop i xs) (drop i ys) ≡ F [] (drop i ys)
  at_first_end g = ap (λ zs. F zs (drop i ys)) (drop_all i xs g)

  pub at_second_end : length ys ≤ i → F (drop i xs) (drop i ys) ≡ F (drop i xs) []
  at_second_end g = ap (λ zs. F (drop i xs) zs) (drop_all i ys g)
