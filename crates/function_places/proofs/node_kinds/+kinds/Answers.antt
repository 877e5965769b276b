use Rattle.std.proofs.Common.{ap, ◌∙◌}
use Rattle.away_trees.specs.declared.statements.Stmt.TheVariants as s
use Rattle.function_places.proofs.AddedKinds as k
use Rattle.function_places.proofs.AddedKinds.{as_kinds, then_on}
use Rattle.function_places.proofs.node_kinds.+kinds.Goals as goal

pub add_arm-returns : goal.add_arm-returns
add_arm-returns t c = as_kinds (k.of_an_arm _ c.as_slice.ensures) (then_on c.in_ok-add_one.ensures c.add_statements.ensures)

pub add_statement-returns-in_ok-add_all-in-Block : goal.add_statement-returns-in_ok-add_all-in-Block
add_statement-returns-in_ok-add_all-in-Block t c =
    as_kinds (k.of_a_block _ _ c.in-Block.is c.len.ensures c.as_slice.ensures)
    (then_on c.in_ok-add_one-in-Block.ensures (then_on c.in_ok-add_all-in-Block.ensures c.add_statements.ensures))

pub add_statement-returns-in_ok-add_one-in-Loop : goal.add_statement-returns-in_ok-add_one-in-Loop
add_statement-returns-in_ok-add_one-in-Loop t c =
    as_kinds (k.of_a_loop _ _ c.in-Loop.is c.kind_of_loop.ensures c.as_slice-in-Loop.ensures) (then_on c.in_ok-add_one-in-Loop.ensures c.add_statements-in-Loop.ensures)

pub add_statement-returns-in_ok-add_one-in-Into : goal.add_statement-returns-in_ok-add_one-in-Into
add_statement-returns-in_ok-add_one-in-Into t c =
    as_kinds (k.of_an_into _ _ c.in-Into.is c.len-in-Into.ensures) (then_on c.in_ok-add_one-in-Into.ensures c.add_all-in-Into.ensures)

pub add_statement-returns-in-Assign : goal.add_statement-returns-in-Assign
add_statement-returns-in-Assign t c = as_kinds (k.of_an_assignment _ c.in-Assign.is) c.add_one-in-Assign.ensures

pub add_statement-returns-in-Exit : goal.add_statement-returns-in-Exit
add_statement-returns-in-Exit t c = as_kinds (k.of_an_exit _ c.in-Exit.is) c.add_one-in-Exit.ensures

pub add_statement-returns-in-Continue : goal.add_statement-returns-in-Continue
add_statement-returns-in-Continue t c = as_kinds (k.of_a_continue _ c.in-Continue.is) c.add_one-in-Continue.ensures

pub add_statement-returns-in-Return : goal.add_statement-returns-in-Return
add_statement-returns-in-Return t c = as_kinds (k.of_a_return _ c.in-Return.is) c.add_one-in-Return.ensures

pub add_statement-returns-in-Raise : goal.add_statement-returns-in-Raise
add_statement-returns-in-Raise t c = as_kinds (k.of_a_raise _ c.in-Raise.is) c.add_one-in-Raise.ensures

pub add_statement-returns-in-Nothing : goal.add_statement-returns-in-Nothing
add_statement-returns-in-Nothing t c = as_kinds (k.of_nothing _ c.in-Nothing.is) c.add_one-in-Nothing.ensures

pub add_statement-returns-in-None : goal.add_statement-returns-in-None
add_statement-returns-in-None t c =
    as_kinds (k.of_an_if _ (c.in-If.is ∙ ap (λ o. s.If c.in-If.arms o) c.in-None.is) c.as_slice-in-If.ensures) (then_on c.in_ok-add_one-in-If.ensures c.in_ok-add_arms-in-If.ensures)

pub add_statement-returns-in-Some : goal.add_statement-returns-in-Some
add_statement-returns-in-Some t c =
    as_kinds (k.of_if_with_else _ (c.in-If.is ∙ ap (λ o. s.If c.in-If.arms o) c.in-Some.is) c.as_slice-in-If.ensures c.as_slice-in-Some.ensures)
    (then_on c.in_ok-add_one-in-If.ensures (then_on c.in_ok-add_arms-in-If.ensures c.add_else.ensures))

pub add_statement-returns-in-None-other : goal.add_statement-returns-in-None-other
add_statement-returns-in-None-other t c =
    as_kinds (k.of_a_case _ (c.in-Cases.is ∙ ap (λ o. s.Cases c.in-Cases.arms o) c.in-None-other.is) c.as_slice-in-Cases.ensures)
    (then_on c.in_ok-add_one-in-Cases.ensures c.in_ok-add_arms-in-Cases.ensures)

pub add_statement-returns-in-Some-other : goal.add_statement-returns-in-Some-other
add_statement-returns-in-Some-other t c =
    as_kinds (k.of_case_with_else _ (c.in-Cases.is ∙ ap (λ o. s.Cases c.in-Cases.arms o) c.in-Some-other.is) c.as_slice-in-Cases.ensures c.as_slice-in-Some-other.ensures)
    (then_on c.in_ok-add_one-in-Cases.ensures (then_on c.in_ok-add_arms-in-Cases.ensures c.add_else-in-Some-other.ensures))
