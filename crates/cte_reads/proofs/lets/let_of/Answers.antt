use Rattle.sql_meaning.specs.Placed.{placed_at}
use Rattle.cte_reads.specs.Placing.{slot_column}
use Rattle.cte_reads.proofs.LetPut.{let_put}
use Rattle.cte_reads.proofs.OneByOne.{then_reads, as_reads}
use Rattle.cte_reads.proofs.lets.let_of.Goals as goal

pub returns : goal.returns
returns c e h =
    as_reads (let_put (placed_at c.args.ty (slot_column c.args.out c.args.entry.now.slots c.args.refs.now) e))
    (then_reads c.open_lateral.ensures
    (then_reads c.enter-at.ensures
    (then_reads c.empty.ensures
    (then_reads c.open-at.ensures
    (then_reads (c.expression-at.ensures e h)
    (then_reads c.close.ensures
    (then_reads c.end_of_body-at.ensures c.close_lateral.ensures)))))))
