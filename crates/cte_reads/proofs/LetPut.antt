-- The events of `LATERAL (SELECT e)`.
use Rattle.std.proofs.Common.{◌≡◌, [], ◌∷◌, map, None, sym, ap, ◌∙◌}
use Rattle.std.specs.Prelude.{true}
use Rattle.away_trees.specs.declared.queries.Expr.{Expr}
use Rattle.away_trees.specs.declared.queries.Select.{Select}
use Rattle.away_trees.proofs.Equations as eq
use Rattle.sql_meaning.specs.Template.{let_item}
use Rattle.sql_meaning.specs.Trees.{item, select, one}
use Rattle.tree_events.specs.declared.events.Kind.TheVariants as kind
use Rattle.tree_events.specs.declared.events.Manner.TheVariants.{Whole}
use Rattle.tree_events.specs.declared.events.TreeEvent.TheVariants as event
use Rattle.tree_events.specs.Events.{Events, shaping}
use Rattle.tree_events.proofs.PutNodes as n
use Rattle.cte_reads.specs.Puts.{expr_put, from_put, lateral_put, lateral_end_put, no_filter_put}

pub let_put : (e : Expr) (rest : Events)
    → lateral_put (event.Enter ∷ event.Open kind.From ∷ event.Close ∷ event.Open kind.List ∷ expr_put e (event.Close ∷ no_filter_put (lateral_end_put rest)))
    ≡ from_put (let_item e) rest
let_put e rest =
    let s : Select = select (e ∷ []) [] None in
    ap (λ z. event.Open (kind.Sub true) ∷ event.Open kind.Query ∷ event.Open kind.With ∷ event.Close ∷ z) (n.rolled_select Whole (map item (e ∷ [])) [] None [] None (event.Close ∷ event.Close ∷ rest))
    ∙ (ap (λ z. event.Open (kind.Sub true) ∷ z) (n.rolled_query None (s ∷ []) (event.Close ∷ rest))
    ∙ sym (ap (λ f. f [] rest) (eq.of_sub (shaping Whole) (one s) true)))
