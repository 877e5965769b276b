use Rattle.std.proofs.Common.{rules, ◌∷◌, sym, refl, arith}
use Rattle.std.proofs.lemmas.Grind.{common_steps}
use Rattle.std.proofs.lemmas.Result.{err_from_is_err_and}
use Rattle.away_grammar.specs.declared.grammar.Mark.TheVariants as m
use Rattle.away_trees.specs.declared.statements.Stmt.TheVariants as s
use Rattle.away_grammar.specs.FunctionGrammar.{elsifs, whens}
use Rattle.sql_text.specs.TerminalKinds.{name_in}
use Rattle.sql_text.specs.Plans.{done, no_memory}
use Rattle.sql_text.proofs.Steps.{finished, eaten, left, read_on, read_no, taken, wanted, not_wanted, looked, overlooked, refused, failed}
use Rattle.plsql_parse.proofs.BodySteps.{maybe_named, begins_none, behind_arms, arms_on, arms_no}
use Rattle.plsql_parse.proofs.BodyLoops.{statements_more, statements_end, statements_fail, elsifs_more, elsifs_end, elsifs_fail, whens_more, whens_end, whens_fail}
use Rattle.plsql_parse.proofs.statements.+reader.Goals as goal

pub statements_of-returns-in_err-statement_of-clause-found : goal.statements_of-returns-in_err-statement_of-clause-found
statements_of-returns-in_err-statement_of-clause-found t c =
    let p = err_from_is_err_and c.from_residual.result c.from_residual.ensures.1 in
    rw (p.1, p.2) (statements_fail _ c.loop-alloc.invariant.begun (sym c.loop-alloc-test.ensures) c.in_err-statement_of.ensures.found)

pub statements_of-returns-in_err-push-clause-found : goal.statements_of-returns-in_err-push-clause-found
statements_of-returns-in_err-push-clause-found t c =
    let p = err_from_is_err_and c.from_residual-in_err-push.result c.from_residual-in_err-push.ensures.1 in
    rw (p.1, p.2) (no_memory)

pub statements_of-loop-alloc-preserved : goal.statements_of-loop-alloc-preserved
statements_of-loop-alloc-preserved t c = record { begun = rw c.in_ok-push.ensures.ok (statements_more _ c.loop-alloc.invariant.begun (sym c.loop-alloc-test.ensures) c.in_ok-statement_of.ensures.found); shrinks = first_of (search rules, grind (arith, common_steps)) }

pub statements_of-returns-clause-found : goal.statements_of-returns-clause-found
statements_of-returns-clause-found t c = statements_end _ c.loop-alloc.invariant.begun (sym c.loop-alloc-test.ensures)

pub statement_of-returns-in_err-label-clause-found : goal.statement_of-returns-in_err-label-clause-found
statement_of-returns-in_err-label-clause-found t c =
    let p = err_from_is_err_and c.from_residual.result c.from_residual.ensures.1 in
    rw (p.1, p.2) (eaten m.LabelOpen c.if-eat.ensures.yes (not_wanted name_in _ c.in_err-label.field-0.0 c.in_err-label.ensures.found))

pub statement_of-returns-in_err-expect-clause-found : goal.statement_of-returns-in_err-expect-clause-found
statement_of-returns-in_err-expect-clause-found t c =
    let p = err_from_is_err_and c.from_residual-in_err-expect.result c.from_residual-in_err-expect.ensures.1 in
    rw (p.1, p.2) (eaten m.LabelOpen c.if-eat.ensures.yes (wanted name_in _ c.in_ok-label.ensures.found c.in_ok-label.ensures.rest (refused m.LabelClose c.in_err-expect.ensures.found)))

pub statement_of-returns-then-eat-clause-found : goal.statement_of-returns-then-eat-clause-found
statement_of-returns-then-eat-clause-found t c = eaten m.LabelOpen c.if-eat.ensures.yes (wanted name_in _ c.in_ok-label.ensures.found c.in_ok-label.ensures.rest (eaten m.LabelClose c.in_ok-expect.ensures.found (c.labelled.ensures.found)))

pub statement_of-returns-then-sees_opening-clause-found : goal.statement_of-returns-then-sees_opening-clause-found
statement_of-returns-then-sees_opening-clause-found t c = left m.LabelOpen c.if-eat.ensures.no (looked (sym c.if-sees_opening.ensures) (c.labelled-then-sees_opening.ensures.found))

pub statement_of-returns-in_err-name-in-Some-Name-clause-found : goal.statement_of-returns-in_err-name-in-Some-Name-clause-found
statement_of-returns-in_err-name-in-Some-Name-clause-found t c =
    let p = err_from_is_err_and c.from_residual-in_err-name-in-Some-Name.result c.from_residual-in_err-name-in-Some-Name.ensures.1 in
    rw (p.1, p.2) (no_memory)

pub statement_of-returns-in_ok-name-in-Some-Name-clause-found : goal.statement_of-returns-in_ok-name-in-Some-Name-clause-found
statement_of-returns-in_ok-name-in-Some-Name-clause-found t c = left m.LabelOpen c.if-eat.ensures.no (overlooked (sym c.if-sees_opening.ensures) (taken (rw c.in-Some-Name.field-0-is at c.in-Some-Name.ensures.next) c.in-Some-Name.ensures.rest ((rw c.in_ok-name-in-Some-Name.ensures at c.assignment_statement.ensures.found))))

pub statement_of-returns-in-Some-Mark-clause-found : goal.statement_of-returns-in-Some-Mark-clause-found
statement_of-returns-in-Some-Mark-clause-found t c = left m.LabelOpen c.if-eat.ensures.no (overlooked (sym c.if-sees_opening.ensures) (taken (rw c.in-Some-Mark.field-0-is at c.in-Some-Mark.ensures.next) c.in-Some-Mark.ensures.rest (c.marked.ensures.found)))

pub statement_of-returns-in-Some-Integer-clause-found : goal.statement_of-returns-in-Some-Integer-clause-found
statement_of-returns-in-Some-Integer-clause-found t c = left m.LabelOpen c.if-eat.ensures.no (overlooked (sym c.if-sees_opening.ensures) (taken (rw c.in-Some-Integer.field-0-is at c.in-Some-Integer.ensures.next) c.in-Some-Integer.ensures.rest (failed)))

pub statement_of-returns-in-Some-Text-clause-found : goal.statement_of-returns-in-Some-Text-clause-found
statement_of-returns-in-Some-Text-clause-found t c = left m.LabelOpen c.if-eat.ensures.no (overlooked (sym c.if-sees_opening.ensures) (taken (rw c.in-Some-Text.field-0-is at c.in-Some-Text.ensures.next) c.in-Some-Text.ensures.rest (failed)))

pub statement_of-returns-in-Some-Parameter-clause-found : goal.statement_of-returns-in-Some-Parameter-clause-found
statement_of-returns-in-Some-Parameter-clause-found t c = left m.LabelOpen c.if-eat.ensures.no (overlooked (sym c.if-sees_opening.ensures) (taken (rw c.in-Some-Parameter.field-0-is at c.in-Some-Parameter.ensures.next) c.in-Some-Parameter.ensures.rest (failed)))

pub statement_of-returns-in-Some-Quote-clause-found : goal.statement_of-returns-in-Some-Quote-clause-found
statement_of-returns-in-Some-Quote-clause-found t c = left m.LabelOpen c.if-eat.ensures.no (overlooked (sym c.if-sees_opening.ensures) (taken (rw c.in-Some-Quote.field-0-is at c.in-Some-Quote.ensures.next) c.in-Some-Quote.ensures.rest (failed)))

pub statement_of-returns-in-None-clause-found : goal.statement_of-returns-in-None-clause-found
statement_of-returns-in-None-clause-found t c = left m.LabelOpen c.if-eat.ensures.no (overlooked (sym c.if-sees_opening.ensures) (taken c.in-None.ensures.next c.in-None.ensures.rest (failed)))

pub labelled-returns-in_err-found-clause-found : goal.labelled-returns-in_err-found-clause-found
labelled-returns-in_err-found-clause-found t c =
    let p = err_from_is_err_and c.from_residual.result c.from_residual.ensures.1 in
    rw (p.1, p.2) (looked (sym c.if-sees_block.ensures) (read_no c.in_err-found.ensures.found))

pub labelled-returns-in_err-expect-clause-found : goal.labelled-returns-in_err-expect-clause-found
labelled-returns-in_err-expect-clause-found t c =
    let p = err_from_is_err_and c.from_residual-in_err-expect.result c.from_residual-in_err-expect.ensures.1 in
    rw (p.1, p.2) (looked (sym c.if-sees_block.ensures) (read_on c.in_ok-found.ensures.found (refused m.Semicolon c.in_err-expect.ensures.found)))

pub labelled-returns-in_ok-expect-clause-found : goal.labelled-returns-in_ok-expect-clause-found
labelled-returns-in_ok-expect-clause-found t c = rw c.into_inner.ensures (looked (sym c.if-sees_block.ensures) (read_on c.in_ok-found.ensures.found (eaten m.Semicolon c.in_ok-expect.ensures.found (finished refl))))

pub labelled-returns-in_err-found-2-clause-found : goal.labelled-returns-in_err-found-2-clause-found
labelled-returns-in_err-found-2-clause-found t c =
    let p = err_from_is_err_and c.from_residual-in_err-found-2.result c.from_residual-in_err-found-2.ensures.1 in
    rw (p.1, p.2) (overlooked (sym c.if-sees_block.ensures) (read_no c.in_err-found-2.ensures.found))

pub labelled-returns-in_err-expect-2-clause-found : goal.labelled-returns-in_err-expect-2-clause-found
labelled-returns-in_err-expect-2-clause-found t c =
    let p = err_from_is_err_and c.from_residual-in_err-expect-2.result c.from_residual-in_err-expect-2.ensures.1 in
    rw (p.1, p.2) (overlooked (sym c.if-sees_block.ensures) (read_on c.in_ok-found-2.ensures.found (refused m.Semicolon c.in_err-expect-2.ensures.found)))

pub labelled-returns-in_ok-expect-2-clause-found : goal.labelled-returns-in_ok-expect-2-clause-found
labelled-returns-in_ok-expect-2-clause-found t c = rw c.into_inner-else-sees_block.ensures (overlooked (sym c.if-sees_block.ensures) (read_on c.in_ok-found-2.ensures.found (eaten m.Semicolon c.in_ok-expect-2.ensures.found (finished refl))))

pub marked-returns-in_default-clause-found : goal.marked-returns-in_default-clause-found
marked-returns-in_default-clause-found t c = begins_none _ (λ e. c.in_default.not-Null e) (λ e. c.in_default.not-Return e) (λ e. c.in_default.not-If e) (λ e. c.in_default.not-Case e) (λ e. c.in_default.not-Exit e) (λ e. c.in_default.not-Continue e) (λ e. c.in_default.not-Raise e) (λ e. c.in_default.not-Select e)

pub if_of-returns-in_err-arms-clause-found : goal.if_of-returns-in_err-arms-clause-found
if_of-returns-in_err-arms-clause-found t c =
    let p = err_from_is_err_and c.from_residual.result c.from_residual.ensures.1 in
    rw (p.1, p.2) (arms_no {p = elsifs} (λ a more. a ∷ more) (behind_arms s.If m.If) c.in_err-arms.ensures.found)

pub if_of-returns-in_err-other-clause-found : goal.if_of-returns-in_err-other-clause-found
if_of-returns-in_err-other-clause-found t c =
    let p = err_from_is_err_and c.from_residual-in_err-other.result c.from_residual-in_err-other.ensures.1 in
    rw (p.1, p.2) (arms_on {p = elsifs} (λ a more. a ∷ more) (behind_arms s.If m.If) c.in_ok-arms.ensures.found (read_no c.in_err-other.ensures.found))

pub if_of-returns-in_err-end_of-clause-found : goal.if_of-returns-in_err-end_of-clause-found
if_of-returns-in_err-end_of-clause-found t c =
    let p = err_from_is_err_and c.from_residual-in_err-end_of.result c.from_residual-in_err-end_of.ensures.1 in
    rw (p.1, p.2) (arms_on {p = elsifs} (λ a more. a ∷ more) (behind_arms s.If m.If) c.in_ok-arms.ensures.found (read_on c.in_ok-other.ensures.found (c.in_err-end_of.ensures.found _)))

pub if_of-returns-clause-found : goal.if_of-returns-clause-found
if_of-returns-clause-found t c = arms_on {p = elsifs} (λ a more. a ∷ more) (behind_arms s.If m.If) c.in_ok-arms.ensures.found (read_on c.in_ok-other.ensures.found (c.in_ok-end_of.ensures.found _))

pub case_of-returns-in_err-expect-clause-found : goal.case_of-returns-in_err-expect-clause-found
case_of-returns-in_err-expect-clause-found t c =
    let p = err_from_is_err_and c.from_residual.result c.from_residual.ensures.1 in
    rw (p.1, p.2) (refused m.When c.in_err-expect.ensures.found)

pub case_of-returns-in_err-arms-clause-found : goal.case_of-returns-in_err-arms-clause-found
case_of-returns-in_err-arms-clause-found t c =
    let p = err_from_is_err_and c.from_residual-in_err-arms.result c.from_residual-in_err-arms.ensures.1 in
    rw (p.1, p.2) (eaten m.When c.in_ok-expect.ensures.found (arms_no {p = whens} (λ a more. a ∷ more) (behind_arms s.Cases m.Case) c.in_err-arms.ensures.found))

pub case_of-returns-in_err-other-clause-found : goal.case_of-returns-in_err-other-clause-found
case_of-returns-in_err-other-clause-found t c =
    let p = err_from_is_err_and c.from_residual-in_err-other.result c.from_residual-in_err-other.ensures.1 in
    rw (p.1, p.2) (eaten m.When c.in_ok-expect.ensures.found (arms_on {p = whens} (λ a more. a ∷ more) (behind_arms s.Cases m.Case) c.in_ok-arms.ensures.found (read_no c.in_err-other.ensures.found)))

pub case_of-returns-in_err-end_of-clause-found : goal.case_of-returns-in_err-end_of-clause-found
case_of-returns-in_err-end_of-clause-found t c =
    let p = err_from_is_err_and c.from_residual-in_err-end_of.result c.from_residual-in_err-end_of.ensures.1 in
    rw (p.1, p.2) (eaten m.When c.in_ok-expect.ensures.found (arms_on {p = whens} (λ a more. a ∷ more) (behind_arms s.Cases m.Case) c.in_ok-arms.ensures.found (read_on c.in_ok-other.ensures.found (c.in_err-end_of.ensures.found _))))

pub case_of-returns-clause-found : goal.case_of-returns-clause-found
case_of-returns-clause-found t c = eaten m.When c.in_ok-expect.ensures.found (arms_on {p = whens} (λ a more. a ∷ more) (behind_arms s.Cases m.Case) c.in_ok-arms.ensures.found (read_on c.in_ok-other.ensures.found (c.in_ok-end_of.ensures.found _)))

pub elsif_arms-returns-in_err-arm_of-clause-found : goal.elsif_arms-returns-in_err-arm_of-clause-found
elsif_arms-returns-in_err-arm_of-clause-found t c =
    let p = err_from_is_err_and c.from_residual.result c.from_residual.ensures.1 in
    rw (p.1, p.2) (elsifs_fail _ c.loop-found.invariant.begun c.in_err-arm_of.ensures.found)

pub elsif_arms-returns-in_err-push-clause-found : goal.elsif_arms-returns-in_err-push-clause-found
elsif_arms-returns-in_err-push-clause-found t c =
    let p = err_from_is_err_and c.from_residual-in_err-push.result c.from_residual-in_err-push.ensures.1 in
    rw (p.1, p.2) (no_memory)

pub elsif_arms-returns-then-not-eat_elsif-clause-found : goal.elsif_arms-returns-then-not-eat_elsif-clause-found
elsif_arms-returns-then-not-eat_elsif-clause-found t c = rw c.in_ok-push.ensures.ok (elsifs_end _ c.loop-found.invariant.begun c.in_ok-arm_of.ensures.found c.if-not-eat_elsif.ensures.no)

pub elsif_arms-loop-found-preserved : goal.elsif_arms-loop-found-preserved
elsif_arms-loop-found-preserved t c = record { begun = rw c.in_ok-push.ensures.ok (elsifs_more _ c.loop-found.invariant.begun c.in_ok-arm_of.ensures.found c.if-not-eat_elsif.ensures.yes); shrinks = first_of (search rules, grind (arith, common_steps)) }

pub when_arms-returns-in_err-arm_of-clause-found : goal.when_arms-returns-in_err-arm_of-clause-found
when_arms-returns-in_err-arm_of-clause-found t c =
    let p = err_from_is_err_and c.from_residual.result c.from_residual.ensures.1 in
    rw (p.1, p.2) (whens_fail _ c.loop-found.invariant.begun c.in_err-arm_of.ensures.found)

pub when_arms-returns-in_err-push-clause-found : goal.when_arms-returns-in_err-push-clause-found
when_arms-returns-in_err-push-clause-found t c =
    let p = err_from_is_err_and c.from_residual-in_err-push.result c.from_residual-in_err-push.ensures.1 in
    rw (p.1, p.2) (no_memory)

pub when_arms-returns-then-not-eat-clause-found : goal.when_arms-returns-then-not-eat-clause-found
when_arms-returns-then-not-eat-clause-found t c = rw c.in_ok-push.ensures.ok (whens_end _ c.loop-found.invariant.begun c.in_ok-arm_of.ensures.found c.if-not-eat.ensures.no)

pub when_arms-loop-found-preserved : goal.when_arms-loop-found-preserved
when_arms-loop-found-preserved t c = record { begun = rw c.in_ok-push.ensures.ok (whens_more _ c.loop-found.invariant.begun c.in_ok-arm_of.ensures.found c.if-not-eat.ensures.yes); shrinks = first_of (search rules, grind (arith, common_steps)) }

pub arm_of-returns-in_err-test-clause-found : goal.arm_of-returns-in_err-test-clause-found
arm_of-returns-in_err-test-clause-found t c =
    let p = err_from_is_err_and c.from_residual.result c.from_residual.ensures.1 in
    rw (p.1, p.2) (read_no c.in_err-test.ensures.found)

pub arm_of-returns-in_err-expect-clause-found : goal.arm_of-returns-in_err-expect-clause-found
arm_of-returns-in_err-expect-clause-found t c =
    let p = err_from_is_err_and c.from_residual-in_err-expect.result c.from_residual-in_err-expect.ensures.1 in
    rw (p.1, p.2) (read_on c.in_ok-test.ensures.found (refused m.Then c.in_err-expect.ensures.found))

pub arm_of-returns-in_err-body-clause-found : goal.arm_of-returns-in_err-body-clause-found
arm_of-returns-in_err-body-clause-found t c =
    let p = err_from_is_err_and c.from_residual-in_err-body.result c.from_residual-in_err-body.ensures.1 in
    rw (p.1, p.2) (read_on c.in_ok-test.ensures.found (eaten m.Then c.in_ok-expect.ensures.found (read_no c.in_err-body.ensures.found)))

pub arm_of-returns-clause-found : goal.arm_of-returns-clause-found
arm_of-returns-clause-found t c = rw c.new_arm.ensures (read_on c.in_ok-test.ensures.found (eaten m.Then c.in_ok-expect.ensures.found (read_on c.in_ok-body.ensures.found (finished refl))))

pub otherwise-returns-in_err-statements_of-clause-found : goal.otherwise-returns-in_err-statements_of-clause-found
otherwise-returns-in_err-statements_of-clause-found t c =
    let p = err_from_is_err_and c.from_residual.result c.from_residual.ensures.1 in
    rw (p.1, p.2) (eaten m.Else c.if-eat.ensures.yes (read_no c.in_err-statements_of.ensures.found))

pub otherwise-returns-in_ok-statements_of-clause-found : goal.otherwise-returns-in_ok-statements_of-clause-found
otherwise-returns-in_ok-statements_of-clause-found t c = eaten m.Else c.if-eat.ensures.yes (read_on c.in_ok-statements_of.ensures.found (finished refl))

pub otherwise-returns-else-eat-clause-found : goal.otherwise-returns-else-eat-clause-found
otherwise-returns-else-eat-clause-found t c = left m.Else c.if-eat.ensures.no (finished refl)

pub block-returns-in_err-expect-clause-found : goal.block-returns-in_err-expect-clause-found
block-returns-in_err-expect-clause-found t c =
    let p = err_from_is_err_and c.from_residual.result c.from_residual.ensures.1 in
    rw (p.1, p.2) (left m.Declare c.if-not-eat.ensures.no (refused m.Begin c.in_err-expect.ensures.found))

pub block-returns-then-not-eat-clause-found : goal.block-returns-then-not-eat-clause-found
block-returns-then-not-eat-clause-found t c = left m.Declare c.if-not-eat.ensures.no (eaten m.Begin c.in_ok-expect.ensures.found ((rw c.new.ensures at c.begun.ensures.found)))

pub block-returns-in_err-decls-clause-found : goal.block-returns-in_err-decls-clause-found
block-returns-in_err-decls-clause-found t c =
    let p = err_from_is_err_and c.from_residual-in_err-decls.result c.from_residual-in_err-decls.ensures.1 in
    rw (p.1, p.2) (eaten m.Declare c.if-not-eat.ensures.yes (read_no c.in_err-decls.ensures.found))

pub block-returns-in_err-expect-2-clause-found : goal.block-returns-in_err-expect-2-clause-found
block-returns-in_err-expect-2-clause-found t c =
    let p = err_from_is_err_and c.from_residual-in_err-expect-2.result c.from_residual-in_err-expect-2.ensures.1 in
    rw (p.1, p.2) (eaten m.Declare c.if-not-eat.ensures.yes (read_on c.in_ok-decls.ensures.found (refused m.Begin c.in_err-expect-2.ensures.found)))

pub block-returns-clause-found : goal.block-returns-clause-found
block-returns-clause-found t c = eaten m.Declare c.if-not-eat.ensures.yes (read_on c.in_ok-decls.ensures.found (eaten m.Begin c.in_ok-expect-2.ensures.found (c.begun-2.ensures.found)))

pub begun-returns-in_err-body-clause-found : goal.begun-returns-in_err-body-clause-found
begun-returns-in_err-body-clause-found t c =
    let p = err_from_is_err_and c.from_residual.result c.from_residual.ensures.1 in
    rw (p.1, p.2) (read_no c.in_err-body.ensures.found)

pub begun-returns-in_err-expect-clause-found : goal.begun-returns-in_err-expect-clause-found
begun-returns-in_err-expect-clause-found t c =
    let p = err_from_is_err_and c.from_residual-in_err-expect.result c.from_residual-in_err-expect.ensures.1 in
    rw (p.1, p.2) (read_on c.in_ok-body.ensures.found (refused m.End c.in_err-expect.ensures.found))

pub begun-returns-in_err-closing-clause-found : goal.begun-returns-in_err-closing-clause-found
begun-returns-in_err-closing-clause-found t c =
    let p = err_from_is_err_and c.from_residual-in_err-closing.result c.from_residual-in_err-closing.ensures.1 in
    rw (p.1, p.2) (no_memory)

pub begun-returns-in_err-new-clause-found : goal.begun-returns-in_err-new-clause-found
begun-returns-in_err-new-clause-found t c =
    let p = err_from_is_err_and c.from_residual-in_err-new.result c.from_residual-in_err-new.ensures.1 in
    rw (p.1, p.2) (no_memory)

pub begun-returns-clause-found : goal.begun-returns-clause-found
begun-returns-clause-found t c = rw (c.in_ok-new.ensures, c.new_block.ensures) (read_on c.in_ok-body.ensures.found (eaten m.End c.in_ok-expect.ensures.found (maybe_named (λ closing. done (s.Block c.args.label c.args.decls c.in_ok-body.body closing)) _ c.in_ok-closing.ensures.found (finished refl))))

pub repeated-returns-in_err-kind-clause-found : goal.repeated-returns-in_err-kind-clause-found
repeated-returns-in_err-kind-clause-found t c =
    let p = err_from_is_err_and c.from_residual.result c.from_residual.ensures.1 in
    rw (p.1, p.2) (read_no c.in_err-kind.ensures.found)

pub repeated-returns-in_err-expect-clause-found : goal.repeated-returns-in_err-expect-clause-found
repeated-returns-in_err-expect-clause-found t c =
    let p = err_from_is_err_and c.from_residual-in_err-expect.result c.from_residual-in_err-expect.ensures.1 in
    rw (p.1, p.2) (read_on c.in_ok-kind.ensures.found (refused m.Loop c.in_err-expect.ensures.found))

pub repeated-returns-clause-found : goal.repeated-returns-clause-found
repeated-returns-clause-found t c = read_on c.in_ok-kind.ensures.found (eaten m.Loop c.in_ok-expect.ensures.found (c.repeating.ensures.found))

pub repeating-returns-in_err-body-clause-found : goal.repeating-returns-in_err-body-clause-found
repeating-returns-in_err-body-clause-found t c =
    let p = err_from_is_err_and c.from_residual.result c.from_residual.ensures.1 in
    rw (p.1, p.2) (read_no c.in_err-body.ensures.found)

pub repeating-returns-in_err-expect-clause-found : goal.repeating-returns-in_err-expect-clause-found
repeating-returns-in_err-expect-clause-found t c =
    let p = err_from_is_err_and c.from_residual-in_err-expect.result c.from_residual-in_err-expect.ensures.1 in
    rw (p.1, p.2) (read_on c.in_ok-body.ensures.found (refused m.End c.in_err-expect.ensures.found))

pub repeating-returns-in_err-expect-2-clause-found : goal.repeating-returns-in_err-expect-2-clause-found
repeating-returns-in_err-expect-2-clause-found t c =
    let p = err_from_is_err_and c.from_residual-in_err-expect-2.result c.from_residual-in_err-expect-2.ensures.1 in
    rw (p.1, p.2) (read_on c.in_ok-body.ensures.found (eaten m.End c.in_ok-expect.ensures.found (refused m.Loop c.in_err-expect-2.ensures.found)))

pub repeating-returns-in_err-closing-clause-found : goal.repeating-returns-in_err-closing-clause-found
repeating-returns-in_err-closing-clause-found t c =
    let p = err_from_is_err_and c.from_residual-in_err-closing.result c.from_residual-in_err-closing.ensures.1 in
    rw (p.1, p.2) (no_memory)

pub repeating-returns-in_err-new-clause-found : goal.repeating-returns-in_err-new-clause-found
repeating-returns-in_err-new-clause-found t c =
    let p = err_from_is_err_and c.from_residual-in_err-new.result c.from_residual-in_err-new.ensures.1 in
    rw (p.1, p.2) (no_memory)

pub repeating-returns-clause-found : goal.repeating-returns-clause-found
repeating-returns-clause-found t c = rw (c.in_ok-new.ensures, c.new_loop.ensures) (read_on c.in_ok-body.ensures.found (eaten m.End c.in_ok-expect.ensures.found (eaten m.Loop c.in_ok-expect-2.ensures.found (maybe_named (λ closing. done (s.Loop c.args.label c.args.kind c.in_ok-body.body closing)) _ c.in_ok-closing.ensures.found (finished refl)))))
