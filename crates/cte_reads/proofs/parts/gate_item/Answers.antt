use Rattle.std.proofs.Common.{true, [], ◌∷◌, Some, ap, ◌∙◌}
use Rattle.sql_meaning.specs.Trees.{truth, select}
use Rattle.cte_reads.specs.Puts.{condition, lateral_put, lateral_end_put}
use Rattle.cte_reads.proofs.OneByOne.{then_reads, as_reads}
use Rattle.cte_reads.proofs.TreeEvents.{select_events, one_events}
use Rattle.cte_reads.proofs.parts.gate_item.Goals as goal

pub returns : goal.returns
returns c =
    let s = select (truth true ∷ []) [] (Some (condition c.args.gate)) in
    as_reads (λ rest. ap lateral_put (select_events (truth true ∷ []) [] (Some (condition c.args.gate)) (lateral_end_put rest)) ∙ one_events s rest)
    (then_reads c.open_lateral.ensures (then_reads c.enter-at.ensures (then_reads c.empty.ensures (then_reads c.open-at.ensures (then_reads c.truth.ensures (then_reads c.close-at.ensures (then_reads c.open.ensures (then_reads c.condition-at.ensures (then_reads c.close.ensures (then_reads c.rest_of_select-at.ensures c.close_lateral.ensures))))))))))
