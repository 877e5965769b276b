use Rattle.std.proofs.Common.{◌≡◌, suc, ◌+◌, length, map, ap, ◌∙◌, arith}
use Rattle.sql_meaning.specs.Template.{below}
use Rattle.sql_meaning.specs.Trees.{col}
use Rattle.cte_reads.specs.Puts.{exprs_put}
use Rattle.cte_reads.proofs.OneByOne.{then_reads, as_reads}
use Rattle.cte_check.proofs.whole.rest_of_step.Goals as goal

pub returns : goal.returns
returns c =
    let four : length c.args.g.now.tail.now.columns + 4 ≡ suc (suc (suc (suc (length c.args.g.now.tail.now.columns)))) = omega arith in
    let many : length c.as_slice.result.now + 4 ≡ suc (suc (suc (suc (length c.args.g.now.tail.now.columns)))) = ap (λ l. length l + 4) c.as_slice.ensures ∙ four in
    let all = as_reads (λ rest. ap (λ n. exprs_put (map (col 0 1) (below n)) rest) many) c.all_of.ensures in
    then_reads c.close_lateral.ensures (then_reads c.to_list-at.ensures (then_reads all (then_reads c.close-at.ensures (then_reads c.open.ensures (then_reads c.column-at.ensures (then_reads c.close.ensures c.rest_of_select.ensures))))))
