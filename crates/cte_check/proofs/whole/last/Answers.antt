use Rattle.std.proofs.Common.{◌≡◌, suc, ◌+◌, decimal, [], ◌∷◌, Some, length, ap, ◌∙◌, arith}
use Rattle.away_trees.specs.declared.queries.Expr.TheVariants as expr
use Rattle.sql_meaning.specs.Trees.{col, table_by}
use Rattle.cte_reads.specs.Puts.{expr_put}
use Rattle.cte_reads.proofs.TreeEvents.{select_events, not_events}
use Rattle.cte_reads.proofs.OneByOne.{then_reads, as_reads}
use Rattle.cte_check.proofs.whole.last.Goals as goal

pub returns : goal.returns
returns c =
    let n = length c.args.g.now.tail.now.columns in
    let two : length c.as_slice-columns.result.now + 2 ≡ suc (suc n) = ap (λ l. length l + 2) c.as_slice-columns.ensures ∙ (let q : n + 2 ≡ suc (suc n) = omega arith in q) in
    let three : length c.as_slice-columns.result.now + 3 ≡ suc (suc (suc n)) = ap (λ l. length l + 3) c.as_slice-columns.ensures ∙ (let q : n + 3 ≡ suc (suc (suc n)) = omega arith in q) in
    let first = as_reads (λ rest. ap (λ n. expr_put (col 0 0 n) rest) two) c.column.ensures in
    let second = as_reads (λ rest. ap (λ n. expr_put (col 0 0 n) rest) three) c.column-at.ensures in
    let not = as_reads (not_events (col 0 0 0)) (then_reads c.open-at-2.ensures (then_reads c.column-2.ensures c.close-2.ensures)) in
    as_reads (select_events (col 0 0 (suc (suc n)) ∷ col 0 0 (suc (suc (suc n))) ∷ []) (table_by (decimal c.args.tables) ∷ []) (Some (expr.Not (col 0 0 0))))
    (then_reads c.enter.ensures (then_reads c.open-at.ensures (then_reads c.working_table.ensures (then_reads c.to_list-at.ensures (then_reads first (then_reads second
    (then_reads c.close.ensures (then_reads c.open.ensures (then_reads not (then_reads c.close-at.ensures c.rest_of_select.ensures))))))))))
