-- Whether a body in memory is closed, by its parts.
use Rattle.std.proofs.Common.{◌≡◌, ℕ, Bool, true, false, ◌&&◌, List, ap, sym, ◌∙◌}
use Rattle.block_forms.specs.declared.forms.Term.{Term}
use Rattle.turn_bodies.specs.declared.bodies.Body.{Body}
use Rattle.turn_bodies.specs.declared.bodies.Body.TheVariants as tree
use Rattle.turn_bodies.specs.Testing.{closed}
use Rattle.turn_bodies.specs.Trees.{as_body}
use Rattle.turn_bodies.proofs.BodyTrees.{of_sets, of_enters, of_picks}

abbrev is_closed : ℕ → Body → Bool
is_closed bound x = closed bound (as_body x)

module _ (bound : ℕ) (r : Bool) (whole x part : Body) (told : r ≡ is_closed bound x) (same : x ≡ part) where
  -- what is told of a part
  of_part : r ≡ is_closed bound part
  of_part = told ∙ ap (is_closed bound) same

  pub closed_sets : (n : ℕ) (t : Term) → whole ≡ tree.Sets n t part → r ≡ is_closed bound whole
  closed_sets n t e = of_part ∙ sym (ap (is_closed bound) e ∙ ap (closed bound) (of_sets n t part))

  pub closed_enters : (params args : List ℕ) → whole ≡ tree.Enters params args part → r ≡ is_closed bound whole
  closed_enters params args e = of_part ∙ sym (ap (is_closed bound) e ∙ ap (closed bound) (of_enters params args part))

  -- the first of two decides
  pub closed_first : (t : Term) (other : Body) → whole ≡ tree.Picks t part other → r ≡ false → r ≡ is_closed bound whole
  closed_first t other e failed =
      let first : is_closed bound part ≡ false = sym of_part ∙ failed in
      failed ∙ sym (ap (is_closed bound) e ∙ (ap (closed bound) (of_picks t part other) ∙ ap (λ c. c && is_closed bound other) first))

  -- the second does
  pub closed_second : (t : Term) (other : Body) → whole ≡ tree.Picks t other part → is_closed bound other ≡ true → r ≡ is_closed bound whole
  closed_second t other e holds =
      of_part ∙ sym (ap (is_closed bound) e ∙ (ap (closed bound) (of_picks t other part) ∙ ap (λ c. c && is_closed bound part) holds))
