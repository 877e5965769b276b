-- The numbers below a number, with one more at their end.
use Rattle.std.proofs.Common.{◌≡◌, ap, ◌∙◌, ℕ, ◌+◌, [], ◌∷◌, ◌++◌, map}
use Rattle.std.proofs.lemmas.List.{map-append}
use Rattle.sql_meaning.specs.Template.{below}
use Rattle.sql_meaning.specs.Trees.{col, item}
use Rattle.cte_parts.proofs.Lists.{one_more_below}
use Rattle.turn_template.specs.TurnTemplate.{all_cells}
use Rattle.turn_query.specs.TurnTree.{step_name, step_names}

pub one_more_step : (n : ℕ) → step_names (n + 1) ≡ step_names n ++ (step_name n ∷ [])
one_more_step n = ap (map step_name) (one_more_below n) ∙ map-append step_name (below n) (n ∷ [])

pub one_more_of : (n : ℕ) → map item (all_cells (n + 1)) ≡ map item (all_cells n) ++ (item (col 0 0 n) ∷ [])
one_more_of n =
    ap (λ xs. map item (map (col 0 0) xs)) (one_more_below n)
    ∙ (ap (map item) (map-append (col 0 0) (below n) (n ∷ [])) ∙ map-append item (map (col 0 0) (below n)) (col 0 0 n ∷ []))
