-- A select over one select takes rows of the tables of which this takes rows.
use Rattle.std.proofs.Common.{◌≡◌, refl, ◌∙◌, Bool, true, false, ◌||◌, [], ◌∷◌, None}
use Rattle.away_trees.proofs.Equations as e
use Rattle.away_trees.specs.declared.queries.Expr.TheViews.{roll-Query}
use Rattle.wider_recursion.specs.Laws.{SelectsOverSelects, over_select}
use Rattle.wider_recursion.specs.TakenRows.{of_alone, takes_rows, taking}

only : (b : Bool) → (b || false) ≡ b
only true = refl
only false = refl

pub over_selects : SelectsOverSelects
unfolding takes_rows of_alone
over_selects name alias s lateral columns list filter limit order =
    e.of_select (taking name) list (over_select s lateral alias columns ∷ []) filter order limit
    ∙ (only _ ∙ (e.of_sub (taking name) (roll-Query (record { recursive = None; selects = s ∷ [] })) lateral ∙ e.of_query (taking name) (s ∷ [])))
