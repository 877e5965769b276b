use Rattle.block_forms.proofs.Verdicts.{decided}
use Rattle.call_check.proofs.Counting.{among_rest, among_more}
use Rattle.call_check.proofs.reads.is_own.Goals as goal

pub returns-else-assigned-n : goal.returns-else-assigned-n
returns-else-assigned-n c =
    decided c.stands_in-in-Some.result c.stands_in-in-Some.ensures
    (λ a. among_more c.args.set.now c.in-Some.assigned c.args.params.now c.args.n c.in-Some.is a)
    (λ a. among_rest c.args.set.now c.in-Some.assigned c.args.params.now c.args.n c.in-Some.is c.if-assigned-n.false a)
