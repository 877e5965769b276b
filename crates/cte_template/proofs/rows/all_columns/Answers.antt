use Rattle.std.proofs.Common.{◌≡◌, ◌++◌, ◌∙◌, suc, ap, map, length, length-append, arith}
use Rattle.sql_meaning.specs.Template.{below}
use Rattle.sql_meaning.specs.Trees.{col, item}
use Rattle.cte_template.proofs.rows.all_columns.Goals as goal

pub returns : goal.returns
returns c =
    let carried = c.args.w.now.carried.now in
    let columns = c.args.w.now.tail.now.columns in
    let whole : c.loop-i.i ≡ suc (suc (suc (suc (length (carried ++ columns))))) = omega (arith, length-append carried columns, c.loop-i-test.false, c.loop-i.auto.i-end, c.in_ok-many.ensures, c.in_ok-sum.ensures, c.len.ensures) in
    c.loop-i.invariant ∙ ap (λ n. map item (map (col 0 c.args.item) (below n))) whole
