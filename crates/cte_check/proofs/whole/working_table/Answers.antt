use Rattle.std.proofs.Common.{◌∷◌, decimal, ap, ◌∙◌}
use Rattle.tree_events.specs.declared.events.Kind.TheVariants as kind
use Rattle.tree_events.specs.declared.events.TreeEvent.TheVariants as event
use Rattle.cte_reads.proofs.OneByOne.{then_reads, as_reads}
use Rattle.cte_reads.proofs.TreeEvents.{table_events}
use Rattle.cte_check.proofs.whole.working_table.Goals as goal

pub returns : goal.returns
returns c =
    as_reads (λ rest. ap (λ d. event.Open kind.Table ∷ event.Name d ∷ event.Close ∷ rest) c.format-digits.ensures.text ∙ table_events (decimal c.args.tables) rest)
    (then_reads c.open.ensures (then_reads c.name-at.ensures c.close.ensures))
