use Rattle.std.proofs.Common.{◌≡◌, ◌-◌, sym, ap, ◌∙◌, arith}
use Rattle.tree_events.proofs.PutNodes.{row_map}
use Rattle.tree_events.specs.Events.{row}
use Rattle.sql_meaning.specs.Template.{below, count_from}
use Rattle.sql_meaning.specs.Trees.{col}
use Rattle.cte_reads.specs.Puts.{expr_put}
use Rattle.cte_reads.proofs.OneByOne.{as_reads}
use Rattle.cte_reads.proofs.RowsRead.{one_read, all_read, numbers_next, numbers_over}
use Rattle.cte_reads.proofs.parts.all_of.Goals as goal

pub loop-place-init : goal.loop-place-init
loop-place-init c to h =
    let all : c.args.columns - 0 ≡ c.args.columns = omega arith in
    as_reads (λ rest. ap (λ n. row (λ place. expr_put (col 0 c.args.item place)) (count_from 0 n) rest) all ∙ sym (row_map expr_put (col 0 c.args.item) (below c.args.columns) rest)) h

pub loop-place-preserved : goal.loop-place-preserved
loop-place-preserved c =
    one_read c.loop-place.invariant c.column-at.ensures (numbers_next (λ place. expr_put (col 0 c.args.item place)) c.loop-place.place c.args.columns c.loop-place-test.true)

pub returns : goal.returns
returns c = all_read c.loop-place.invariant (numbers_over (λ place. expr_put (col 0 c.args.item place)) c.loop-place.place c.args.columns c.loop-place-test.false)
