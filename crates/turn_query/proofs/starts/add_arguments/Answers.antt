use Rattle.std.proofs.Common.{take, ◌+◌}
use Rattle.std.proofs.lemmas.List.{take_more}
use Rattle.turn_terms.specs.Writing.{types_in}
use Rattle.turn_query.proofs.StartRules.{one_more_argument, taken}
use Rattle.turn_query.proofs.starts.add_arguments.Goals as goal

pub loop-i-preserved : goal.loop-i-preserved
loop-i-preserved c =
    let cs = c.args.columns.now in
    let i = c.loop-i.i in
    one_more_argument (types_in c.args.w.now) c.args.places.now c.args.params.now c.args.list.now c.loop-i.list c.add.new.list i c.in_ok-small.field-0
    (take i cs) (take (i + 1) cs) _ c.in_ok-argument.field-0 c.loop-i.invariant (take_more cs i _ c.loop-i-test.true) (taken cs i c.loop-i-test.true)
    c.in_ok-small.ensures c.in_ok-argument.ensures c.in_ok-add.ensures
