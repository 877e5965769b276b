-- What stands beside a key, along the loop that finds it.
use Rattle.std.proofs.Common.{◌≡◌, ℕ, ◌+◌, ◌<◌, ◌≤◌, if◌then◌else◌, List, [], ◌∷◌, length, drop, get_or, Option, Some, None, refl, ◌∙◌}
use Rattle.std.specs.Prelude.{nat_eq}
use Rattle.turn_template.specs.TurnTemplate.{passed}
use Rattle.turn_query.proofs.TwoLists.{at_both, at_first_end, at_second_end}

no_names : (keys : List ℕ) (n : ℕ) → passed keys [] n ≡ None
no_names [] n = refl
no_names (k ∷ keys) n = refl

abbrev beside : ℕ → List ℕ → List ℕ → Option ℕ
beside n keys names = passed keys names n

pub passed_short : (keys names : List ℕ) (n i : ℕ) → length names ≤ i → passed (drop i keys) (drop i names) n ≡ None
passed_short keys names n i h = at_second_end (beside n) keys names i h ∙ no_names (drop i keys) n

pub passed_end : (keys names : List ℕ) (n i : ℕ) → length keys ≤ i → passed (drop i keys) (drop i names) n ≡ None
passed_end keys names n i h = at_first_end (beside n) keys names i h

pub passed_step : (keys names : List ℕ) (n i : ℕ) → i < length keys → i < length names
    → passed (drop i keys) (drop i names) n ≡ (if nat_eq (get_or keys i 0) n then Some (get_or names i 0) else passed (drop (i + 1) keys) (drop (i + 1) names) n)
passed_step keys names n i g h = at_both (beside n) keys names i 0 0 g h

pub ruleset passed_rules = (passed_short, passed_end, passed_step)
