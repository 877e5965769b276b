use Rattle.std.proofs.Common.{◌++◌, ◌∙◌, ap, map}
use Rattle.sql_meaning.specs.Trees.{item}
use Rattle.inline_calls.specs.Tree.{cell, cells}
use Rattle.inline_calls.proofs.StartRules.{one_more_cell}
use Rattle.inline_calls.proofs.starts.add_cells.Goals as goal

pub loop-i-preserved : goal.loop-i-preserved
loop-i-preserved c =
    let es = c.args.es.now in
    let keys = c.args.keys.now in
    let params = c.args.params.now in
    let ts = c.args.columns.now in
    one_more_cell c.loop-i.list c.add.new.list (c.args.list.now ++ map item (cells es 0 keys params ts)) es keys params ts c.loop-i.i c.in_ok-small.field-0 _ c.in_ok-cell.field-0
    c.in_ok-add.ensures c.loop-i-test.true c.in_ok-small.ensures (c.in_ok-cell.ensures ∙ ap (cell es _) c.beside-passed.ensures) c.loop-i.invariant
