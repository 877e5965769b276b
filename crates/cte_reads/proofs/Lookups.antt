-- Looking a key up, place by place.
use Rattle.std.proofs.Common.{◌≡◌, ℕ, ◌+◌, ◌<◌, ◌≤◌, List, length, get_or, drop, Option, Some, None, ap, ◌∙◌}
use Rattle.std.specs.Prelude.{if◌then◌else◌}
use Rattle.std.proofs.lemmas.Bool.{eq-eqb, ne_eqb}
use Rattle.cte_reads.specs.References.{lookup}
use Rattle.cte_reads.proofs.ListPlaces.{drop_from, drop_past}

module _ {A : Type 0} (keys : List ℕ) (values : List A) (k : ℕ) where
  -- the value among the keys from a place on
  abbrev pub from_place : ℕ → Option A
  from_place i = lookup (drop i keys) (drop i values) k

  pub is_here : (i : ℕ) (d : A) → i < length keys → i < length values → get_or keys i 0 ≡ k → from_place i ≡ Some (get_or values i d)
  is_here i d lt lv same =
      (λ j. lookup (drop_from keys i 0 lt j) (drop_from values i d lv j) k)
      ∙ ap (λ b. if b then Some (get_or values i d) else from_place (i + 1)) (eq-eqb (get_or keys i 0) k same)

  pub is_further : (i : ℕ) (d : A) → i < length keys → i < length values → (get_or keys i 0 ≡ k → ⊥) → from_place i ≡ from_place (i + 1)
  is_further i d lt lv other =
      (λ j. lookup (drop_from keys i 0 lt j) (drop_from values i d lv j) k)
      ∙ ap (λ b. if b then Some (get_or values i d) else from_place (i + 1)) (ne_eqb (get_or keys i 0) k other)

  pub no_value : (i : ℕ) → i < length keys → length values ≤ i → from_place i ≡ None
  no_value i lt le = λ j. lookup (drop_from keys i 0 lt j) (drop_past values i le j) k

  pub no_key : (i : ℕ) → length keys ≤ i → from_place i ≡ None
  no_key i le = ap (λ l. lookup l (drop i values) k) (drop_past keys i le)
