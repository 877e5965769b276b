use Rattle.std.proofs.Common.{◌∷◌, sym, ap, ◌∙◌}
use Rattle.tree_events.specs.declared.events.TreeEvent.TheVariants as event
use Rattle.cte_reads.specs.Placing.{placed_event_put}
use Rattle.cte_reads.proofs.OneByOne.{then_reads, as_reads}
use Rattle.cte_reads.proofs.lets.placed_event.Goals as goal

pub returns-in-Open : goal.returns-in-Open
returns-in-Open c = as_reads (λ rest. ap (λ s. placed_event_put c.args.depth c.args.slots.now c.args.refs.now s rest) (sym c.in-Open.is)) c.placed_node.ensures

pub returns-in-Close : goal.returns-in-Close
returns-in-Close c = as_reads (λ rest. ap (λ s. placed_event_put c.args.depth c.args.slots.now c.args.refs.now s rest) (sym c.in-Close.is)) c.close.ensures

pub returns-in-Enter : goal.returns-in-Enter
returns-in-Enter c = as_reads (λ rest. ap (λ s. placed_event_put c.args.depth c.args.slots.now c.args.refs.now s rest) (sym c.in-Enter.is)) c.enter.ensures

pub returns-in-Leave : goal.returns-in-Leave
returns-in-Leave c = as_reads (λ rest. ap (λ s. placed_event_put c.args.depth c.args.slots.now c.args.refs.now s rest) (sym c.in-Leave.is)) c.leave.ensures

pub returns-in-Text : goal.returns-in-Text
returns-in-Text c = as_reads (λ rest. ap (λ s. placed_event_put c.args.depth c.args.slots.now c.args.refs.now s rest) (sym c.in-Text.is)) (then_reads c.event.ensures c.close-in-Text.ensures)

pub returns-in-Name : goal.returns-in-Name
returns-in-Name c =
    as_reads (λ rest. ap (λ n. event.Name n ∷ rest) c.text.ensures.value ∙ ap (λ s. placed_event_put c.args.depth c.args.slots.now c.args.refs.now s rest) (sym c.in-Name.is)) c.name.ensures
