use Rattle.std.proofs.Common.{Bool, List, length, subst}
use Rattle.std.proofs.lemmas.Result.{IfOk-weaker}
use Rattle.block_forms.specs.declared.forms.Block.{Block}
use Rattle.inline_calls.specs.Faults.{AreFaults}
use Rattle.inline_calls.specs.MarkedFaults.{AreMarkedBelow}
use Rattle.inline_calls.proofs.FaultRules.{faults_from}
use Rattle.inline_calls.proofs.faults.faults_of.Goals as goal

pub returns : goal.returns
returns c =
    let goto = c.args.goto.now in
    let blocks = c.as_slice.result.now in
    let marks = c.deref.result.now in
    IfOk-weaker c.marked_classes.result (λ classes. AreMarkedBelow blocks marks (length blocks) classes.items) (λ classes. AreFaults goto classes.items)
    (λ classes are. faults_from goto c.in_ok-marks.marks.items classes.items c.in_ok-marks.ensures
    (subst (λ (ms : List Bool). AreMarkedBelow goto.blocks ms (length goto.blocks) classes.items) c.deref.ensures.value
    (subst (λ (bs : List Block). AreMarkedBelow bs marks (length bs) classes.items) c.as_slice.ensures are)))
    c.marked_classes.ensures
