use Rattle.std.proofs.Common.{rules, sym, refl, arith}
use Rattle.std.proofs.lemmas.Grind.{common_steps}
use Rattle.std.proofs.lemmas.Result.{err_from_is_err_and}
use Rattle.away_grammar.specs.declared.grammar.Mark.TheVariants as m
use Rattle.sql_text.specs.TerminalKinds.{comparison_in, name_in, type_in}
use Rattle.sql_text.specs.Plans.{no_memory}
use Rattle.sql_text.proofs.Steps.{finished, eaten, left, read_on, read_no, taken, wanted, not_wanted, perhaps_found, perhaps_missed, looked, overlooked, refused, failed, moved}
use Rattle.sql_text.proofs.Loops.{list_more, list_ends, list_fails, arms_more, arms_end, arms_fail, chain_fails, chain_alone, chain_on, links_begin, links_more, links_fail, links_end, levelled, passed, passed_keys, items_more, items_end, items_fail, from_more, from_end, from_fail, keys_more, keys_end, keys_fail, selects_more, selects_end, selects_fail, selects_break}
use Rattle.sql_text.proofs.Cases.{number_gives, word_literal, word_called, word_refused, case_on, case_without, range_on, unranged, query_refused, query_given, key_refused, key_on, direction}
use Rattle.sql_text.proofs.+reader.Goals as goal

pub primaries::arms_of-returns-in_err-test-clause-found : goal.primaries::arms_of-returns-in_err-test-clause-found
primaries::arms_of-returns-in_err-test-clause-found t c =
    let p = err_from_is_err_and c.from_residual.result c.from_residual.ensures.1 in
    rw (p.1, p.2) (arms_fail _ c.loop-alloc.invariant.begun (eaten m.When c.loop-alloc-test.ensures.yes (read_no c.in_err-test.ensures.found)))

pub primaries::arms_of-returns-in_err-expect-clause-found : goal.primaries::arms_of-returns-in_err-expect-clause-found
primaries::arms_of-returns-in_err-expect-clause-found t c =
    let p = err_from_is_err_and c.from_residual-in_err-expect.result c.from_residual-in_err-expect.ensures.1 in
    rw (p.1, p.2) (arms_fail _ c.loop-alloc.invariant.begun (eaten m.When c.loop-alloc-test.ensures.yes (read_on c.in_ok-test.ensures.found (refused m.Then c.in_err-expect.ensures.found))))

pub primaries::arms_of-returns-in_err-value-clause-found : goal.primaries::arms_of-returns-in_err-value-clause-found
primaries::arms_of-returns-in_err-value-clause-found t c =
    let p = err_from_is_err_and c.from_residual-in_err-value.result c.from_residual-in_err-value.ensures.1 in
    rw (p.1, p.2) (arms_fail _ c.loop-alloc.invariant.begun (eaten m.When c.loop-alloc-test.ensures.yes (read_on c.in_ok-test.ensures.found (eaten m.Then c.in_ok-expect.ensures.found (read_no c.in_err-value.ensures.found)))))

pub primaries::arms_of-loop-alloc-preserved : goal.primaries::arms_of-loop-alloc-preserved
primaries::arms_of-loop-alloc-preserved t c = record { begun = rw (c.in_ok-push.ensures.ok, c.into_inner.ensures) (arms_more _ c.loop-alloc.invariant.begun c.loop-alloc-test.ensures.yes c.in_ok-test.ensures.found c.in_ok-expect.ensures.found c.in_ok-value.ensures.found); shrinks = first_of (search rules, grind (arith, common_steps)) }

pub primaries::arms_of-returns-in_err-push-clause-found : goal.primaries::arms_of-returns-in_err-push-clause-found
primaries::arms_of-returns-in_err-push-clause-found t c =
    let p = err_from_is_err_and c.from_residual-in_err-push.result c.from_residual-in_err-push.ensures.1 in
    rw (p.1, p.2) (no_memory)

pub primaries::arms_of-returns-clause-found : goal.primaries::arms_of-returns-clause-found
primaries::arms_of-returns-clause-found t c = arms_end c.loop-alloc.invariant.begun c.loop-alloc-test.ensures.no

pub expressions::between-returns-in_err-low-clause-found : goal.expressions::between-returns-in_err-low-clause-found
expressions::between-returns-in_err-low-clause-found t c =
    let p = err_from_is_err_and c.from_residual.result c.from_residual.ensures.1 in
    rw (p.1, p.2) (read_no c.in_err-low.ensures.found)

pub expressions::between-returns-in_err-expect-clause-found : goal.expressions::between-returns-in_err-expect-clause-found
expressions::between-returns-in_err-expect-clause-found t c =
    let p = err_from_is_err_and c.from_residual-in_err-expect.result c.from_residual-in_err-expect.ensures.1 in
    rw (p.1, p.2) (read_on c.in_ok-low.ensures.found (refused m.And c.in_err-expect.ensures.found))

pub expressions::between-returns-in_err-high-clause-found : goal.expressions::between-returns-in_err-high-clause-found
expressions::between-returns-in_err-high-clause-found t c =
    let p = err_from_is_err_and c.from_residual-in_err-high.result c.from_residual-in_err-high.ensures.1 in
    rw (p.1, p.2) (read_on c.in_ok-low.ensures.found (eaten m.And c.in_ok-expect.ensures.found (read_no c.in_err-high.ensures.found)))

pub expressions::between-returns-clause-found : goal.expressions::between-returns-clause-found
expressions::between-returns-clause-found t c = read_on c.in_ok-low.ensures.found (eaten m.And c.in_ok-expect.ensures.found (read_on c.in_ok-high.ensures.found (finished refl)))

pub primaries::case-returns-in_err-arms-clause-found : goal.primaries::case-returns-in_err-arms-clause-found
primaries::case-returns-in_err-arms-clause-found t c =
    let p = err_from_is_err_and c.from_residual.result c.from_residual.ensures.1 in
    rw (p.1, p.2) (read_no c.in_err-arms.ensures.found)

pub primaries::cast_call-returns-in_err-expect-clause-found : goal.primaries::cast_call-returns-in_err-expect-clause-found
primaries::cast_call-returns-in_err-expect-clause-found t c =
    let p = err_from_is_err_and c.from_residual.result c.from_residual.ensures.1 in
    rw (p.1, p.2) (refused m.Open c.in_err-expect.ensures.found)

pub primaries::cast_call-returns-then-sees_typed_parameter-clause-found : goal.primaries::cast_call-returns-then-sees_typed_parameter-clause-found
primaries::cast_call-returns-then-sees_typed_parameter-clause-found t c = eaten m.Open c.in_ok-expect.ensures.found (looked (sym c.if-sees_typed_parameter.ensures) c.typed_parameter.ensures.found)

pub primaries::cast_call-returns-in_err-operand-clause-found : goal.primaries::cast_call-returns-in_err-operand-clause-found
primaries::cast_call-returns-in_err-operand-clause-found t c =
    let p = err_from_is_err_and c.from_residual-in_err-operand.result c.from_residual-in_err-operand.ensures.1 in
    rw (p.1, p.2) (eaten m.Open c.in_ok-expect.ensures.found (overlooked (sym c.if-sees_typed_parameter.ensures) (read_no c.in_err-operand.ensures.found)))

pub primaries::cast_call-returns-in_err-expect-2-clause-found : goal.primaries::cast_call-returns-in_err-expect-2-clause-found
primaries::cast_call-returns-in_err-expect-2-clause-found t c =
    let p = err_from_is_err_and c.from_residual-in_err-expect-2.result c.from_residual-in_err-expect-2.ensures.1 in
    rw (p.1, p.2) (eaten m.Open c.in_ok-expect.ensures.found (overlooked (sym c.if-sees_typed_parameter.ensures) (read_on c.in_ok-operand.ensures.found (refused m.As c.in_err-expect-2.ensures.found))))

pub primaries::cast_call-returns-in_err-ty-clause-found : goal.primaries::cast_call-returns-in_err-ty-clause-found
primaries::cast_call-returns-in_err-ty-clause-found t c =
    let p = err_from_is_err_and c.from_residual-in_err-ty.result c.from_residual-in_err-ty.ensures.1 in
    rw (p.1, p.2) (eaten m.Open c.in_ok-expect.ensures.found (overlooked (sym c.if-sees_typed_parameter.ensures) (read_on c.in_ok-operand.ensures.found (eaten m.As c.in_ok-expect-2.ensures.found (not_wanted type_in _ c.in_err-ty.field-0.0 c.in_err-ty.ensures.found)))))

pub primaries::cast_call-returns-in_err-expect-3-clause-found : goal.primaries::cast_call-returns-in_err-expect-3-clause-found
primaries::cast_call-returns-in_err-expect-3-clause-found t c =
    let p = err_from_is_err_and c.from_residual-in_err-expect-3.result c.from_residual-in_err-expect-3.ensures.1 in
    rw (p.1, p.2) (eaten m.Open c.in_ok-expect.ensures.found (overlooked (sym c.if-sees_typed_parameter.ensures) (read_on c.in_ok-operand.ensures.found (eaten m.As c.in_ok-expect-2.ensures.found (wanted type_in _ c.in_ok-ty.ensures.found c.in_ok-ty.ensures.rest (refused m.Close c.in_err-expect-3.ensures.found))))))

pub primaries::cast_call-returns-clause-found : goal.primaries::cast_call-returns-clause-found
primaries::cast_call-returns-clause-found t c = eaten m.Open c.in_ok-expect.ensures.found (overlooked (sym c.if-sees_typed_parameter.ensures) (read_on c.in_ok-operand.ensures.found (eaten m.As c.in_ok-expect-2.ensures.found (wanted type_in _ c.in_ok-ty.ensures.found c.in_ok-ty.ensures.rest (eaten m.Close c.in_ok-expect-3.ensures.found (finished refl))))))

pub expressions::expression-returns-in-Or-clause-found : goal.expressions::expression-returns-in-Or-clause-found
expressions::expression-returns-in-Or-clause-found t c = rw c.in-Or.is c.chain.ensures.found

pub expressions::expression-returns-in-And-clause-found : goal.expressions::expression-returns-in-And-clause-found
expressions::expression-returns-in-And-clause-found t c = rw c.in-And.is c.chain-in-And.ensures.found

pub expressions::expression-returns-in-Not-clause-found : goal.expressions::expression-returns-in-Not-clause-found
expressions::expression-returns-in-Not-clause-found t c = rw c.in-Not.is c.negation.ensures.found

pub expressions::expression-returns-in-Is-clause-found : goal.expressions::expression-returns-in-Is-clause-found
expressions::expression-returns-in-Is-clause-found t c = rw c.in-Is.is c.tested.ensures.found

pub expressions::expression-returns-in-Compare-clause-found : goal.expressions::expression-returns-in-Compare-clause-found
expressions::expression-returns-in-Compare-clause-found t c = rw c.in-Compare.is c.compared.ensures.found

pub expressions::expression-returns-in-Range-clause-found : goal.expressions::expression-returns-in-Range-clause-found
expressions::expression-returns-in-Range-clause-found t c = rw c.in-Range.is c.ranged.ensures.found

pub expressions::expression-returns-in-Concat-clause-found : goal.expressions::expression-returns-in-Concat-clause-found
expressions::expression-returns-in-Concat-clause-found t c = rw c.in-Concat.is c.chain-in-Concat.ensures.found

pub expressions::expression-returns-in-Sum-clause-found : goal.expressions::expression-returns-in-Sum-clause-found
expressions::expression-returns-in-Sum-clause-found t c = rw c.in-Sum.is c.chain-in-Sum.ensures.found

pub expressions::expression-returns-in-Product-clause-found : goal.expressions::expression-returns-in-Product-clause-found
expressions::expression-returns-in-Product-clause-found t c = rw c.in-Product.is c.chain-in-Product.ensures.found

pub expressions::expression-returns-in-Sign-clause-found : goal.expressions::expression-returns-in-Sign-clause-found
expressions::expression-returns-in-Sign-clause-found t c = rw c.in-Sign.is c.signed.ensures.found

pub expressions::expression-returns-in-Cast-clause-found : goal.expressions::expression-returns-in-Cast-clause-found
expressions::expression-returns-in-Cast-clause-found t c = rw c.in-Cast.is c.cast.ensures.found

pub expressions::expression-returns-in-Primary-clause-found : goal.expressions::expression-returns-in-Primary-clause-found
expressions::expression-returns-in-Primary-clause-found t c = rw c.in-Primary.is c.primary.ensures.found

pub primaries::inside-returns-in_err-query-clause-found : goal.primaries::inside-returns-in_err-query-clause-found
primaries::inside-returns-in_err-query-clause-found t c =
    let p = err_from_is_err_and c.from_residual.result c.from_residual.ensures.1 in
    rw (p.1, p.2) (looked (sym c.if-sees_select.ensures) (read_no c.in_err-query.ensures.found))

pub primaries::inside-returns-in_err-expect-clause-found : goal.primaries::inside-returns-in_err-expect-clause-found
primaries::inside-returns-in_err-expect-clause-found t c =
    let p = err_from_is_err_and c.from_residual-in_err-expect.result c.from_residual-in_err-expect.ensures.1 in
    rw (p.1, p.2) (looked (sym c.if-sees_select.ensures) (read_on c.in_ok-query.ensures.found (refused m.Close c.in_err-expect.ensures.found)))

pub primaries::inside-returns-in_err-inside-clause-found : goal.primaries::inside-returns-in_err-inside-clause-found
primaries::inside-returns-in_err-inside-clause-found t c =
    let p = err_from_is_err_and c.from_residual-in_err-inside.result c.from_residual-in_err-inside.ensures.1 in
    rw (p.1, p.2) (overlooked (sym c.if-sees_select.ensures) (read_no c.in_err-inside.ensures.found))

pub primaries::inside-returns-in_err-expect-2-clause-found : goal.primaries::inside-returns-in_err-expect-2-clause-found
primaries::inside-returns-in_err-expect-2-clause-found t c =
    let p = err_from_is_err_and c.from_residual-in_err-expect-2.result c.from_residual-in_err-expect-2.ensures.1 in
    rw (p.1, p.2) (overlooked (sym c.if-sees_select.ensures) (read_on c.in_ok-inside.ensures.found (refused m.Close c.in_err-expect-2.ensures.found)))

pub primaries::inside-returns-in_ok-expect-clause-found : goal.primaries::inside-returns-in_ok-expect-clause-found
primaries::inside-returns-in_ok-expect-clause-found t c = looked (sym c.if-sees_select.ensures) (read_on c.in_ok-query.ensures.found (eaten m.Close c.in_ok-expect.ensures.found (finished refl)))

pub primaries::inside-returns-in_ok-expect-2-clause-found : goal.primaries::inside-returns-in_ok-expect-2-clause-found
primaries::inside-returns-in_ok-expect-2-clause-found t c = rw c.into_inner.ensures (overlooked (sym c.if-sees_select.ensures) (read_on c.in_ok-inside.ensures.found (eaten m.Close c.in_ok-expect-2.ensures.found (finished refl))))

pub primaries::list_of-returns-in_err-expression-clause-found : goal.primaries::list_of-returns-in_err-expression-clause-found
primaries::list_of-returns-in_err-expression-clause-found t c =
    let p = err_from_is_err_and c.from_residual.result c.from_residual.ensures.1 in
    rw (p.1, p.2) (list_fails _ c.loop-found.invariant.begun c.in_err-expression.ensures.found)

pub primaries::list_of-returns-in_err-push-clause-found : goal.primaries::list_of-returns-in_err-push-clause-found
primaries::list_of-returns-in_err-push-clause-found t c =
    let p = err_from_is_err_and c.from_residual-in_err-push.result c.from_residual-in_err-push.ensures.1 in
    rw (p.1, p.2) (no_memory)

pub primaries::list_of-returns-then-not-eat-clause-found : goal.primaries::list_of-returns-then-not-eat-clause-found
primaries::list_of-returns-then-not-eat-clause-found t c = rw c.in_ok-push.ensures.ok (list_ends _ c.loop-found.invariant.begun c.in_ok-expression.ensures.found c.if-not-eat.ensures.no)

pub primaries::list_of-loop-found-preserved : goal.primaries::list_of-loop-found-preserved
primaries::list_of-loop-found-preserved t c = record { begun = rw c.in_ok-push.ensures.ok (list_more _ c.loop-found.invariant.begun c.in_ok-expression.ensures.found c.if-not-eat.ensures.yes); shrinks = first_of (search rules, grind (arith, common_steps)) }

pub primaries::named-returns-in_err-column-clause-found : goal.primaries::named-returns-in_err-column-clause-found
primaries::named-returns-in_err-column-clause-found t c =
    let p = err_from_is_err_and c.from_residual.result c.from_residual.ensures.1 in
    rw (p.1, p.2) (eaten m.Dot c.if-eat.ensures.yes (not_wanted name_in _ c.in_err-column.field-0.0 c.in_err-column.ensures.found))

pub primaries::named-returns-then-eat-clause-found : goal.primaries::named-returns-then-eat-clause-found
primaries::named-returns-then-eat-clause-found t c = eaten m.Dot c.if-eat.ensures.yes (wanted name_in _ c.in_ok-column.ensures.found c.in_ok-column.ensures.rest (finished refl))

pub primaries::named-returns-then-not-eat-clause-found : goal.primaries::named-returns-then-not-eat-clause-found
primaries::named-returns-then-not-eat-clause-found t c = left m.Dot c.if-eat.ensures.no (left m.Open c.if-not-eat.ensures.no (finished refl))

pub primaries::named-returns-then-eat-2-clause-found : goal.primaries::named-returns-then-eat-2-clause-found
primaries::named-returns-then-eat-2-clause-found t c = left m.Dot c.if-eat.ensures.no (eaten m.Open c.if-not-eat.ensures.yes (eaten m.Star c.if-eat-2.ensures.yes (c.rows_of.ensures.found)))

pub primaries::named-returns-then-eat-3-clause-found : goal.primaries::named-returns-then-eat-3-clause-found
primaries::named-returns-then-eat-3-clause-found t c = rw c.new.ensures (left m.Dot c.if-eat.ensures.no (eaten m.Open c.if-not-eat.ensures.yes (left m.Star c.if-eat-2.ensures.no (eaten m.Close c.if-eat-3.ensures.yes (finished refl)))))

pub primaries::named-returns-in_err-arguments-clause-found : goal.primaries::named-returns-in_err-arguments-clause-found
primaries::named-returns-in_err-arguments-clause-found t c =
    let p = err_from_is_err_and c.from_residual-in_err-arguments.result c.from_residual-in_err-arguments.ensures.1 in
    rw (p.1, p.2) (left m.Dot c.if-eat.ensures.no (eaten m.Open c.if-not-eat.ensures.yes (left m.Star c.if-eat-2.ensures.no (left m.Close c.if-eat-3.ensures.no (read_no c.in_err-arguments.ensures.found)))))

pub primaries::named-returns-in_err-expect-clause-found : goal.primaries::named-returns-in_err-expect-clause-found
primaries::named-returns-in_err-expect-clause-found t c =
    let p = err_from_is_err_and c.from_residual-in_err-expect.result c.from_residual-in_err-expect.ensures.1 in
    rw (p.1, p.2) (left m.Dot c.if-eat.ensures.no (eaten m.Open c.if-not-eat.ensures.yes (left m.Star c.if-eat-2.ensures.no (left m.Close c.if-eat-3.ensures.no (read_on c.in_ok-arguments.ensures.found (refused m.Close c.in_err-expect.ensures.found))))))

pub primaries::named-returns-clause-found : goal.primaries::named-returns-clause-found
primaries::named-returns-clause-found t c = left m.Dot c.if-eat.ensures.no (eaten m.Open c.if-not-eat.ensures.yes (left m.Star c.if-eat-2.ensures.no (left m.Close c.if-eat-3.ensures.no (read_on c.in_ok-arguments.ensures.found (eaten m.Close c.in_ok-expect.ensures.found (finished refl))))))

pub expressions::negation-returns-in_err-operand-clause-found : goal.expressions::negation-returns-in_err-operand-clause-found
expressions::negation-returns-in_err-operand-clause-found t c =
    let p = err_from_is_err_and c.from_residual.result c.from_residual.ensures.1 in
    rw (p.1, p.2) (eaten m.Not c.if-eat.ensures.yes (read_no c.in_err-operand.ensures.found))

pub expressions::negation-returns-in_ok-operand-clause-found : goal.expressions::negation-returns-in_ok-operand-clause-found
expressions::negation-returns-in_ok-operand-clause-found t c = eaten m.Not c.if-eat.ensures.yes (read_on c.in_ok-operand.ensures.found (finished refl))

pub expressions::negation-returns-else-eat-clause-found : goal.expressions::negation-returns-else-eat-clause-found
expressions::negation-returns-else-eat-clause-found t c = left m.Not c.if-eat.ensures.no (levelled c.expression.ensures.found)

pub expressions::operand-returns-in_err-new-clause-found : goal.expressions::operand-returns-in_err-new-clause-found
expressions::operand-returns-in_err-new-clause-found t c =
    let p = err_from_is_err_and c.from_residual-in_err-new.result c.from_residual-in_err-new.ensures.1 in
    rw (p.1, p.2) (no_memory)

pub primaries::primary-returns-in_err-text_of-in-Some-Text-clause-found : goal.primaries::primary-returns-in_err-text_of-in-Some-Text-clause-found
primaries::primary-returns-in_err-text_of-in-Some-Text-clause-found t c =
    let p = err_from_is_err_and c.from_residual.result c.from_residual.ensures.1 in
    rw (p.1, p.2) (no_memory)

pub primaries::primary-returns-in_err-name-in-Some-Name-clause-found : goal.primaries::primary-returns-in_err-name-in-Some-Name-clause-found
primaries::primary-returns-in_err-name-in-Some-Name-clause-found t c =
    let p = err_from_is_err_and c.from_residual-in_err-name-in-Some-Name.result c.from_residual-in_err-name-in-Some-Name.ensures.1 in
    rw (p.1, p.2) (no_memory)

pub primaries::primary-returns-in-Some-Integer-clause-found : goal.primaries::primary-returns-in-Some-Integer-clause-found
primaries::primary-returns-in-Some-Integer-clause-found t c = taken (rw c.in-Some-Integer.field-0-is at c.in-Some-Integer.ensures.next) c.in-Some-Integer.ensures.rest (number_gives _ _ _ c.number.ensures)

pub primaries::primary-returns-in_ok-text_of-in-Some-Text-clause-found : goal.primaries::primary-returns-in_ok-text_of-in-Some-Text-clause-found
primaries::primary-returns-in_ok-text_of-in-Some-Text-clause-found t c = rw c.in_ok-text_of-in-Some-Text.ensures (taken (rw c.in-Some-Text.field-0-is at c.in-Some-Text.ensures.next) c.in-Some-Text.ensures.rest (finished refl))

pub primaries::primary-returns-in_ok-name-in-Some-Name-clause-found : goal.primaries::primary-returns-in_ok-name-in-Some-Name-clause-found
primaries::primary-returns-in_ok-name-in-Some-Name-clause-found t c = taken (rw c.in-Some-Name.field-0-is at c.in-Some-Name.ensures.next) c.in-Some-Name.ensures.rest (rw c.in_ok-name-in-Some-Name.ensures at c.named.ensures.found)

pub primaries::primary-returns-in-Some-Parameter-clause-found : goal.primaries::primary-returns-in-Some-Parameter-clause-found
primaries::primary-returns-in-Some-Parameter-clause-found t c = taken (rw c.in-Some-Parameter.field-0-is at c.in-Some-Parameter.ensures.next) c.in-Some-Parameter.ensures.rest (c.parameter.ensures.found)

pub primaries::primary-returns-in-Some-Mark-clause-found : goal.primaries::primary-returns-in-Some-Mark-clause-found
primaries::primary-returns-in-Some-Mark-clause-found t c = taken (rw c.in-Some-Mark.field-0-is at c.in-Some-Mark.ensures.next) c.in-Some-Mark.ensures.rest (c.marked.ensures.found)

pub primaries::primary-returns-in-Some-Quote-clause-found : goal.primaries::primary-returns-in-Some-Quote-clause-found
primaries::primary-returns-in-Some-Quote-clause-found t c = taken (rw c.in-Some-Quote.field-0-is at c.in-Some-Quote.ensures.next) c.in-Some-Quote.ensures.rest (failed)

pub primaries::primary-returns-in-None-clause-found : goal.primaries::primary-returns-in-None-clause-found
primaries::primary-returns-in-None-clause-found t c = taken c.in-None.ensures.next c.in-None.ensures.rest failed

pub primaries::case-returns-then-is_empty-clause-found : goal.primaries::case-returns-then-is_empty-clause-found
primaries::case-returns-then-is_empty-clause-found t c = case_without c.in_ok-arms.ensures.found (c.if-is_empty.ensures.0 refl)

pub primaries::case-returns-in_err-expect-clause-found : goal.primaries::case-returns-in_err-expect-clause-found
primaries::case-returns-in_err-expect-clause-found t c =
    let p = err_from_is_err_and c.from_residual-in_err-expect.result c.from_residual-in_err-expect.ensures.1 in
    rw (p.1, p.2) (case_on c.in_ok-arms.ensures.found (λ e. c.if-is_empty.ensures.1 e) (left m.Else c.if-not-eat.ensures.no (refused m.End c.in_err-expect.ensures.found)))

pub primaries::case-returns-then-not-eat-clause-found : goal.primaries::case-returns-then-not-eat-clause-found
primaries::case-returns-then-not-eat-clause-found t c = case_on c.in_ok-arms.ensures.found (λ e. c.if-is_empty.ensures.1 e) (left m.Else c.if-not-eat.ensures.no (eaten m.End c.in_ok-expect.ensures.found (finished refl)))

pub primaries::case-returns-in_err-other-clause-found : goal.primaries::case-returns-in_err-other-clause-found
primaries::case-returns-in_err-other-clause-found t c =
    let p = err_from_is_err_and c.from_residual-in_err-other.result c.from_residual-in_err-other.ensures.1 in
    rw (p.1, p.2) (case_on c.in_ok-arms.ensures.found (λ e. c.if-is_empty.ensures.1 e) (eaten m.Else c.if-not-eat.ensures.yes (read_no c.in_err-other.ensures.found)))

pub primaries::case-returns-in_err-expect-2-clause-found : goal.primaries::case-returns-in_err-expect-2-clause-found
primaries::case-returns-in_err-expect-2-clause-found t c =
    let p = err_from_is_err_and c.from_residual-in_err-expect-2.result c.from_residual-in_err-expect-2.ensures.1 in
    rw (p.1, p.2) (case_on c.in_ok-arms.ensures.found (λ e. c.if-is_empty.ensures.1 e) (eaten m.Else c.if-not-eat.ensures.yes (read_on c.in_ok-other.ensures.found (refused m.End c.in_err-expect-2.ensures.found))))

pub primaries::case-returns-clause-found : goal.primaries::case-returns-clause-found
primaries::case-returns-clause-found t c = case_on c.in_ok-arms.ensures.found (λ e. c.if-is_empty.ensures.1 e) (eaten m.Else c.if-not-eat.ensures.yes (read_on c.in_ok-other.ensures.found (eaten m.End c.in_ok-expect-2.ensures.found (finished refl))))

pub expressions::signed-returns-then-not-eat-clause-found : goal.expressions::signed-returns-then-not-eat-clause-found
expressions::signed-returns-then-not-eat-clause-found t c = left m.Minus c.if-not-eat.ensures.no (levelled c.expression.ensures.found)

pub expressions::signed-returns-then-eat_least-clause-found : goal.expressions::signed-returns-then-eat_least-clause-found
expressions::signed-returns-then-eat_least-clause-found t c = eaten m.Minus c.if-not-eat.ensures.yes (looked c.if-eat_least.ensures.yes.0 (taken refl c.if-eat_least.ensures.yes.1 (finished refl)))

pub expressions::signed-returns-in_err-operand-clause-found : goal.expressions::signed-returns-in_err-operand-clause-found
expressions::signed-returns-in_err-operand-clause-found t c =
    let p = err_from_is_err_and c.from_residual.result c.from_residual.ensures.1 in
    rw (p.1, p.2) (eaten m.Minus c.if-not-eat.ensures.yes (overlooked c.if-eat_least.ensures.no.0 (read_no (moved c.if-eat_least.ensures.no.1 c.in_err-operand.ensures.found))))

pub expressions::signed-returns-clause-found : goal.expressions::signed-returns-clause-found
expressions::signed-returns-clause-found t c = eaten m.Minus c.if-not-eat.ensures.yes (overlooked c.if-eat_least.ensures.no.0 (read_on (moved c.if-eat_least.ensures.no.1 c.in_ok-operand.ensures.found) (finished refl)))

pub expressions::within-returns-in_err-expect-clause-found : goal.expressions::within-returns-in_err-expect-clause-found
expressions::within-returns-in_err-expect-clause-found t c =
    let p = err_from_is_err_and c.from_residual.result c.from_residual.ensures.1 in
    rw (p.1, p.2) (left m.Between c.if-eat.ensures.no (eaten m.In c.if-eat-2.ensures.yes (refused m.Open c.in_err-expect.ensures.found)))

pub expressions::within-returns-in_err-choices-clause-found : goal.expressions::within-returns-in_err-choices-clause-found
expressions::within-returns-in_err-choices-clause-found t c =
    let p = err_from_is_err_and c.from_residual-in_err-choices.result c.from_residual-in_err-choices.ensures.1 in
    rw (p.1, p.2) (left m.Between c.if-eat.ensures.no (eaten m.In c.if-eat-2.ensures.yes (eaten m.Open c.in_ok-expect.ensures.found (read_no c.in_err-choices.ensures.found))))

pub expressions::within-returns-in_err-expect-2-clause-found : goal.expressions::within-returns-in_err-expect-2-clause-found
expressions::within-returns-in_err-expect-2-clause-found t c =
    let p = err_from_is_err_and c.from_residual-in_err-expect-2.result c.from_residual-in_err-expect-2.ensures.1 in
    rw (p.1, p.2) (left m.Between c.if-eat.ensures.no (eaten m.In c.if-eat-2.ensures.yes (eaten m.Open c.in_ok-expect.ensures.found (read_on c.in_ok-choices.ensures.found (refused m.Close c.in_err-expect-2.ensures.found)))))

pub expressions::within-returns-then-eat-clause-found : goal.expressions::within-returns-then-eat-clause-found
expressions::within-returns-then-eat-clause-found t c = eaten m.Between c.if-eat.ensures.yes (c.between.ensures.found)

pub expressions::within-returns-in_ok-expect-2-clause-found : goal.expressions::within-returns-in_ok-expect-2-clause-found
expressions::within-returns-in_ok-expect-2-clause-found t c = left m.Between c.if-eat.ensures.no (eaten m.In c.if-eat-2.ensures.yes (eaten m.Open c.in_ok-expect.ensures.found (read_on c.in_ok-choices.ensures.found (eaten m.Close c.in_ok-expect-2.ensures.found (finished refl)))))

pub expressions::within-returns-then-negated-clause-found : goal.expressions::within-returns-then-negated-clause-found
expressions::within-returns-then-negated-clause-found t c = left m.Between c.if-eat.ensures.no (left m.In c.if-eat-2.ensures.no (rw c.if-negated.true failed))

pub expressions::within-returns-else-negated-clause-found : goal.expressions::within-returns-else-negated-clause-found
expressions::within-returns-else-negated-clause-found t c = left m.Between c.if-eat.ensures.no (left m.In c.if-eat-2.ensures.no (rw (c.if-negated.false, c.into_inner.ensures) (finished refl)))

pub primaries::word-returns-in-Some-clause-found : goal.primaries::word-returns-in-Some-clause-found
primaries::word-returns-in-Some-clause-found t c = word_literal _ _ _ c.in-Some.ensures

pub primaries::word-returns-in_err-name-clause-found : goal.primaries::word-returns-in_err-name-clause-found
primaries::word-returns-in_err-name-clause-found t c =
    let p = err_from_is_err_and c.from_residual.result c.from_residual.ensures.1 in
    rw (p.1, p.2) (word_refused _ _ _ _ c.in_default.ensures c.in_err-name.ensures)

pub primaries::word-returns-in_err-expect-clause-found : goal.primaries::word-returns-in_err-expect-clause-found
primaries::word-returns-in_err-expect-clause-found t c =
    let p = err_from_is_err_and c.from_residual-in_err-expect.result c.from_residual-in_err-expect.ensures.1 in
    rw (p.1, p.2) (word_called _ _ _ _ _ c.in_default.ensures c.in_ok-name.ensures (refused m.Open c.in_err-expect.ensures.found))

pub primaries::word-returns-in_err-arguments-clause-found : goal.primaries::word-returns-in_err-arguments-clause-found
primaries::word-returns-in_err-arguments-clause-found t c =
    let p = err_from_is_err_and c.from_residual-in_err-arguments.result c.from_residual-in_err-arguments.ensures.1 in
    rw (p.1, p.2) (word_called _ _ _ _ _ c.in_default.ensures c.in_ok-name.ensures (eaten m.Open c.in_ok-expect.ensures.found (read_no c.in_err-arguments.ensures.found)))

pub primaries::word-returns-in_err-expect-2-clause-found : goal.primaries::word-returns-in_err-expect-2-clause-found
primaries::word-returns-in_err-expect-2-clause-found t c =
    let p = err_from_is_err_and c.from_residual-in_err-expect-2.result c.from_residual-in_err-expect-2.ensures.1 in
    rw (p.1, p.2) (word_called _ _ _ _ _ c.in_default.ensures c.in_ok-name.ensures (eaten m.Open c.in_ok-expect.ensures.found (read_on c.in_ok-arguments.ensures.found (refused m.Close c.in_err-expect-2.ensures.found))))

pub primaries::word-returns-clause-found : goal.primaries::word-returns-clause-found
primaries::word-returns-clause-found t c = word_called _ _ _ _ _ c.in_default.ensures c.in_ok-name.ensures (eaten m.Open c.in_ok-expect.ensures.found (read_on c.in_ok-arguments.ensures.found (eaten m.Close c.in_ok-expect-2.ensures.found (finished refl))))

pub primaries::exists-returns-in_err-expect-clause-found : goal.primaries::exists-returns-in_err-expect-clause-found
primaries::exists-returns-in_err-expect-clause-found t c =
    let p = err_from_is_err_and c.from_residual.result c.from_residual.ensures.1 in
    rw (p.1, p.2) (refused m.Open c.in_err-expect.ensures.found)

pub primaries::exists-returns-in_err-query-clause-found : goal.primaries::exists-returns-in_err-query-clause-found
primaries::exists-returns-in_err-query-clause-found t c =
    let p = err_from_is_err_and c.from_residual-in_err-query.result c.from_residual-in_err-query.ensures.1 in
    rw (p.1, p.2) (eaten m.Open c.in_ok-expect.ensures.found (read_no c.in_err-query.ensures.found))

pub primaries::exists-returns-in_err-expect-2-clause-found : goal.primaries::exists-returns-in_err-expect-2-clause-found
primaries::exists-returns-in_err-expect-2-clause-found t c =
    let p = err_from_is_err_and c.from_residual-in_err-expect-2.result c.from_residual-in_err-expect-2.ensures.1 in
    rw (p.1, p.2) (eaten m.Open c.in_ok-expect.ensures.found (read_on c.in_ok-query.ensures.found (refused m.Close c.in_err-expect-2.ensures.found)))

pub primaries::exists-returns-clause-found : goal.primaries::exists-returns-clause-found
primaries::exists-returns-clause-found t c = eaten m.Open c.in_ok-expect.ensures.found (read_on c.in_ok-query.ensures.found (eaten m.Close c.in_ok-expect-2.ensures.found (finished refl)))

pub selects::query_of-returns-in_err-selects-clause-found : goal.selects::query_of-returns-in_err-selects-clause-found
selects::query_of-returns-in_err-selects-clause-found t c =
    let p = err_from_is_err_and c.from_residual.result c.from_residual.ensures.1 in
    rw (p.1, p.2) (read_no c.in_err-selects.ensures.found)

pub selects::query_of-returns-then-not-may_join-clause-found : goal.selects::query_of-returns-then-not-may_join-clause-found
selects::query_of-returns-then-not-may_join-clause-found t c = query_refused _ c.in_ok-selects.ensures.found (rw c.as_slice.ensures at c.if-not-may_join.ensures)

pub selects::query_of-returns-in_err-new-clause-found : goal.selects::query_of-returns-in_err-new-clause-found
selects::query_of-returns-in_err-new-clause-found t c =
    let p = err_from_is_err_and c.from_residual-in_err-new.result c.from_residual-in_err-new.ensures.1 in
    rw (p.1, p.2) (no_memory)

pub selects::query_of-returns-clause-found : goal.selects::query_of-returns-clause-found
selects::query_of-returns-clause-found t c = rw (c.in_ok-new.ensures, c.plain_query.ensures) (query_given _ c.in_ok-selects.ensures.found (rw c.as_slice.ensures at c.if-not-may_join.ensures))

pub selects::selects_of-returns-in_err-select_of-clause-found : goal.selects::selects_of-returns-in_err-select_of-clause-found
selects::selects_of-returns-in_err-select_of-clause-found t c =
    let p = err_from_is_err_and c.from_residual.result c.from_residual.ensures.1 in
    rw (p.1, p.2) (selects_fail _ c.loop-found.invariant.begun c.in_err-select_of.ensures.found)

pub selects::selects_of-returns-in_err-push-clause-found : goal.selects::selects_of-returns-in_err-push-clause-found
selects::selects_of-returns-in_err-push-clause-found t c =
    let p = err_from_is_err_and c.from_residual-in_err-push.result c.from_residual-in_err-push.ensures.1 in
    rw (p.1, p.2) (no_memory)

pub selects::selects_of-returns-then-not-eat-clause-found : goal.selects::selects_of-returns-then-not-eat-clause-found
selects::selects_of-returns-then-not-eat-clause-found t c = rw c.in_ok-push.ensures.ok (selects_end _ c.loop-found.invariant.begun c.in_ok-select_of.ensures.found c.if-not-eat.ensures.no)

pub selects::selects_of-returns-in_err-expect-clause-found : goal.selects::selects_of-returns-in_err-expect-clause-found
selects::selects_of-returns-in_err-expect-clause-found t c =
    let p = err_from_is_err_and c.from_residual-in_err-expect.result c.from_residual-in_err-expect.ensures.1 in
    rw (p.1, p.2) (selects_break _ c.loop-found.invariant.begun c.in_ok-select_of.ensures.found c.if-not-eat.ensures.yes c.in_err-expect.ensures.found)

pub selects::selects_of-loop-found-preserved : goal.selects::selects_of-loop-found-preserved
selects::selects_of-loop-found-preserved t c = record { begun = rw c.in_ok-push.ensures.ok (selects_more _ c.loop-found.invariant.begun c.in_ok-select_of.ensures.found c.if-not-eat.ensures.yes c.in_ok-expect.ensures.found); shrinks = first_of (search rules, grind (arith, common_steps)) }

pub selects::items_of-returns-in_err-item_of-clause-found : goal.selects::items_of-returns-in_err-item_of-clause-found
selects::items_of-returns-in_err-item_of-clause-found t c =
    let p = err_from_is_err_and c.from_residual.result c.from_residual.ensures.1 in
    rw (p.1, p.2) (items_fail _ c.loop-found.invariant.begun c.in_err-item_of.ensures.found)

pub selects::items_of-returns-in_err-push-clause-found : goal.selects::items_of-returns-in_err-push-clause-found
selects::items_of-returns-in_err-push-clause-found t c =
    let p = err_from_is_err_and c.from_residual-in_err-push.result c.from_residual-in_err-push.ensures.1 in
    rw (p.1, p.2) (no_memory)

pub selects::items_of-returns-then-not-eat-clause-found : goal.selects::items_of-returns-then-not-eat-clause-found
selects::items_of-returns-then-not-eat-clause-found t c = rw c.in_ok-push.ensures.ok (items_end _ c.loop-found.invariant.begun c.in_ok-item_of.ensures.found c.if-not-eat.ensures.no)

pub selects::items_of-loop-found-preserved : goal.selects::items_of-loop-found-preserved
selects::items_of-loop-found-preserved t c = record { begun = rw c.in_ok-push.ensures.ok (items_more _ c.loop-found.invariant.begun c.in_ok-item_of.ensures.found c.if-not-eat.ensures.yes); shrinks = first_of (search rules, grind (arith, common_steps)) }

pub selects::from_items_of-returns-in_err-from_item_of-clause-found : goal.selects::from_items_of-returns-in_err-from_item_of-clause-found
selects::from_items_of-returns-in_err-from_item_of-clause-found t c =
    let p = err_from_is_err_and c.from_residual.result c.from_residual.ensures.1 in
    rw (p.1, p.2) (from_fail _ c.loop-found.invariant.begun c.in_err-from_item_of.ensures.found)

pub selects::from_items_of-returns-in_err-push-clause-found : goal.selects::from_items_of-returns-in_err-push-clause-found
selects::from_items_of-returns-in_err-push-clause-found t c =
    let p = err_from_is_err_and c.from_residual-in_err-push.result c.from_residual-in_err-push.ensures.1 in
    rw (p.1, p.2) (no_memory)

pub selects::from_items_of-returns-then-not-eat-clause-found : goal.selects::from_items_of-returns-then-not-eat-clause-found
selects::from_items_of-returns-then-not-eat-clause-found t c = rw c.in_ok-push.ensures.ok (from_end _ c.loop-found.invariant.begun c.in_ok-from_item_of.ensures.found c.if-not-eat.ensures.no)

pub selects::from_items_of-loop-found-preserved : goal.selects::from_items_of-loop-found-preserved
selects::from_items_of-loop-found-preserved t c = record { begun = rw c.in_ok-push.ensures.ok (from_more _ c.loop-found.invariant.begun c.in_ok-from_item_of.ensures.found c.if-not-eat.ensures.yes); shrinks = first_of (search rules, grind (arith, common_steps)) }

pub selects::keys_of-returns-in_err-key_of-clause-found : goal.selects::keys_of-returns-in_err-key_of-clause-found
selects::keys_of-returns-in_err-key_of-clause-found t c =
    let p = err_from_is_err_and c.from_residual.result c.from_residual.ensures.1 in
    rw (p.1, p.2) (keys_fail _ c.loop-found.invariant.begun c.in_err-key_of.ensures.found)

pub selects::keys_of-returns-in_err-push-clause-found : goal.selects::keys_of-returns-in_err-push-clause-found
selects::keys_of-returns-in_err-push-clause-found t c =
    let p = err_from_is_err_and c.from_residual-in_err-push.result c.from_residual-in_err-push.ensures.1 in
    rw (p.1, p.2) (no_memory)

pub selects::keys_of-returns-then-not-eat-clause-found : goal.selects::keys_of-returns-then-not-eat-clause-found
selects::keys_of-returns-then-not-eat-clause-found t c = rw c.in_ok-push.ensures.ok (keys_end _ c.loop-found.invariant.begun c.in_ok-key_of.ensures.found c.if-not-eat.ensures.no)

pub selects::keys_of-loop-found-preserved : goal.selects::keys_of-loop-found-preserved
selects::keys_of-loop-found-preserved t c = record { begun = rw c.in_ok-push.ensures.ok (keys_more _ c.loop-found.invariant.begun c.in_ok-key_of.ensures.found c.if-not-eat.ensures.yes); shrinks = first_of (search rules, grind (arith, common_steps)) }

pub selects::select_of-returns-in_err-expect-clause-found : goal.selects::select_of-returns-in_err-expect-clause-found
selects::select_of-returns-in_err-expect-clause-found t c =
    let p = err_from_is_err_and c.from_residual.result c.from_residual.ensures.1 in
    rw (p.1, p.2) (refused m.Select c.in_err-expect.ensures.found)

pub selects::select_of-returns-in_err-list-clause-found : goal.selects::select_of-returns-in_err-list-clause-found
selects::select_of-returns-in_err-list-clause-found t c =
    let p = err_from_is_err_and c.from_residual-in_err-list.result c.from_residual-in_err-list.ensures.1 in
    rw (p.1, p.2) (eaten m.Select c.in_ok-expect.ensures.found (read_no c.in_err-list.ensures.found))

pub selects::select_of-returns-in_err-from-clause-found : goal.selects::select_of-returns-in_err-from-clause-found
selects::select_of-returns-in_err-from-clause-found t c =
    let p = err_from_is_err_and c.from_residual-in_err-from.result c.from_residual-in_err-from.ensures.1 in
    rw (p.1, p.2) (eaten m.Select c.in_ok-expect.ensures.found (read_on c.in_ok-list.ensures.found (read_no c.in_err-from.ensures.found)))

pub selects::select_of-returns-in_err-filter-clause-found : goal.selects::select_of-returns-in_err-filter-clause-found
selects::select_of-returns-in_err-filter-clause-found t c =
    let p = err_from_is_err_and c.from_residual-in_err-filter.result c.from_residual-in_err-filter.ensures.1 in
    rw (p.1, p.2) (eaten m.Select c.in_ok-expect.ensures.found (read_on c.in_ok-list.ensures.found (read_on c.in_ok-from.ensures.found (read_no c.in_err-filter.ensures.found))))

pub selects::select_of-returns-in_err-order-clause-found : goal.selects::select_of-returns-in_err-order-clause-found
selects::select_of-returns-in_err-order-clause-found t c =
    let p = err_from_is_err_and c.from_residual-in_err-order.result c.from_residual-in_err-order.ensures.1 in
    rw (p.1, p.2) (eaten m.Select c.in_ok-expect.ensures.found (read_on c.in_ok-list.ensures.found (read_on c.in_ok-from.ensures.found (read_on c.in_ok-filter.ensures.found (read_no c.in_err-order.ensures.found)))))

pub selects::select_of-returns-in_err-limit-clause-found : goal.selects::select_of-returns-in_err-limit-clause-found
selects::select_of-returns-in_err-limit-clause-found t c =
    let p = err_from_is_err_and c.from_residual-in_err-limit.result c.from_residual-in_err-limit.ensures.1 in
    rw (p.1, p.2) (eaten m.Select c.in_ok-expect.ensures.found (read_on c.in_ok-list.ensures.found (read_on c.in_ok-from.ensures.found (read_on c.in_ok-filter.ensures.found (read_on c.in_ok-order.ensures.found (read_no c.in_err-limit.ensures.found))))))

pub selects::select_of-returns-clause-found : goal.selects::select_of-returns-clause-found
selects::select_of-returns-clause-found t c = rw (c.unboxed.ensures, c.unboxed-2.ensures) (eaten m.Select c.in_ok-expect.ensures.found (read_on c.in_ok-list.ensures.found (read_on c.in_ok-from.ensures.found (read_on c.in_ok-filter.ensures.found (read_on c.in_ok-order.ensures.found (read_on c.in_ok-limit.ensures.found (finished refl)))))))

pub selects::item_of-returns-in_err-expr-clause-found : goal.selects::item_of-returns-in_err-expr-clause-found
selects::item_of-returns-in_err-expr-clause-found t c =
    let p = err_from_is_err_and c.from_residual.result c.from_residual.ensures.1 in
    rw (p.1, p.2) (read_no c.in_err-expr.ensures.found)

pub selects::item_of-returns-then-not-eat-clause-found : goal.selects::item_of-returns-then-not-eat-clause-found
selects::item_of-returns-then-not-eat-clause-found t c = rw c.item_with.ensures (read_on c.in_ok-expr.ensures.found (left m.As c.if-not-eat.ensures.no (finished refl)))

pub selects::item_of-returns-in_err-alias-clause-found : goal.selects::item_of-returns-in_err-alias-clause-found
selects::item_of-returns-in_err-alias-clause-found t c =
    let p = err_from_is_err_and c.from_residual-in_err-alias.result c.from_residual-in_err-alias.ensures.1 in
    rw (p.1, p.2) (read_on c.in_ok-expr.ensures.found (eaten m.As c.if-not-eat.ensures.yes (not_wanted name_in _ c.in_err-alias.field-0.0 c.in_err-alias.ensures.found)))

pub selects::item_of-returns-clause-found : goal.selects::item_of-returns-clause-found
selects::item_of-returns-clause-found t c = rw c.item_with-2.ensures (read_on c.in_ok-expr.ensures.found (eaten m.As c.if-not-eat.ensures.yes (wanted name_in _ c.in_ok-alias.ensures.found c.in_ok-alias.ensures.rest (finished refl))))

pub selects::from_of-returns-then-eat-clause-found : goal.selects::from_of-returns-then-eat-clause-found
selects::from_of-returns-then-eat-clause-found t c = eaten m.From c.if-eat.ensures.yes (passed c.from_items_of.ensures.found)

pub selects::from_of-returns-else-eat-clause-found : goal.selects::from_of-returns-else-eat-clause-found
selects::from_of-returns-else-eat-clause-found t c = rw c.new.ensures (left m.From c.if-eat.ensures.no (finished refl))

pub selects::from_item_of-returns-in_err-expect-clause-found : goal.selects::from_item_of-returns-in_err-expect-clause-found
selects::from_item_of-returns-in_err-expect-clause-found t c =
    let p = err_from_is_err_and c.from_residual.result c.from_residual.ensures.1 in
    rw (p.1, p.2) (eaten m.Lateral c.if-eat.ensures.yes (refused m.Open c.in_err-expect.ensures.found))

pub selects::from_item_of-returns-in_ok-expect-clause-found : goal.selects::from_item_of-returns-in_ok-expect-clause-found
selects::from_item_of-returns-in_ok-expect-clause-found t c = eaten m.Lateral c.if-eat.ensures.yes (eaten m.Open c.in_ok-expect.ensures.found (c.subquery.ensures.found))

pub selects::from_item_of-returns-then-eat-2-clause-found : goal.selects::from_item_of-returns-then-eat-2-clause-found
selects::from_item_of-returns-then-eat-2-clause-found t c = left m.Lateral c.if-eat.ensures.no (eaten m.Open c.if-eat-2.ensures.yes (c.subquery-then-eat-2.ensures.found))

pub selects::from_item_of-returns-else-eat-2-clause-found : goal.selects::from_item_of-returns-else-eat-2-clause-found
selects::from_item_of-returns-else-eat-2-clause-found t c = left m.Lateral c.if-eat.ensures.no (left m.Open c.if-eat-2.ensures.no (c.table_item.ensures.found))

pub selects::subquery-returns-in_err-query-clause-found : goal.selects::subquery-returns-in_err-query-clause-found
selects::subquery-returns-in_err-query-clause-found t c =
    let p = err_from_is_err_and c.from_residual.result c.from_residual.ensures.1 in
    rw (p.1, p.2) (read_no c.in_err-query.ensures.found)

pub selects::subquery-returns-in_err-expect-clause-found : goal.selects::subquery-returns-in_err-expect-clause-found
selects::subquery-returns-in_err-expect-clause-found t c =
    let p = err_from_is_err_and c.from_residual-in_err-expect.result c.from_residual-in_err-expect.ensures.1 in
    rw (p.1, p.2) (read_on c.in_ok-query.ensures.found (refused m.Close c.in_err-expect.ensures.found))

pub selects::subquery-returns-clause-found : goal.selects::subquery-returns-clause-found
selects::subquery-returns-clause-found t c = read_on c.in_ok-query.ensures.found (eaten m.Close c.in_ok-expect.ensures.found (c.named_subquery.ensures.found))

pub selects::where_of-returns-in_err-operand-clause-found : goal.selects::where_of-returns-in_err-operand-clause-found
selects::where_of-returns-in_err-operand-clause-found t c =
    let p = err_from_is_err_and c.from_residual.result c.from_residual.ensures.1 in
    rw (p.1, p.2) (eaten m.Where c.if-eat.ensures.yes (read_no c.in_err-operand.ensures.found))

pub selects::where_of-returns-in_ok-operand-clause-found : goal.selects::where_of-returns-in_ok-operand-clause-found
selects::where_of-returns-in_ok-operand-clause-found t c = eaten m.Where c.if-eat.ensures.yes (read_on c.in_ok-operand.ensures.found (finished refl))

pub selects::where_of-returns-else-eat-clause-found : goal.selects::where_of-returns-else-eat-clause-found
selects::where_of-returns-else-eat-clause-found t c = left m.Where c.if-eat.ensures.no (finished refl)

pub selects::limit_of-returns-in_err-operand-clause-found : goal.selects::limit_of-returns-in_err-operand-clause-found
selects::limit_of-returns-in_err-operand-clause-found t c =
    let p = err_from_is_err_and c.from_residual.result c.from_residual.ensures.1 in
    rw (p.1, p.2) (eaten m.Limit c.if-eat.ensures.yes (read_no c.in_err-operand.ensures.found))

pub selects::limit_of-returns-in_ok-operand-clause-found : goal.selects::limit_of-returns-in_ok-operand-clause-found
selects::limit_of-returns-in_ok-operand-clause-found t c = eaten m.Limit c.if-eat.ensures.yes (read_on c.in_ok-operand.ensures.found (finished refl))

pub selects::limit_of-returns-else-eat-clause-found : goal.selects::limit_of-returns-else-eat-clause-found
selects::limit_of-returns-else-eat-clause-found t c = left m.Limit c.if-eat.ensures.no (finished refl)

pub selects::order_of-returns-in_err-expect-clause-found : goal.selects::order_of-returns-in_err-expect-clause-found
selects::order_of-returns-in_err-expect-clause-found t c =
    let p = err_from_is_err_and c.from_residual.result c.from_residual.ensures.1 in
    rw (p.1, p.2) (eaten m.Order c.if-eat.ensures.yes (refused m.By c.in_err-expect.ensures.found))

pub selects::order_of-returns-in_ok-expect-clause-found : goal.selects::order_of-returns-in_ok-expect-clause-found
selects::order_of-returns-in_ok-expect-clause-found t c = eaten m.Order c.if-eat.ensures.yes (eaten m.By c.in_ok-expect.ensures.found (passed_keys c.keys_of.ensures.found))

pub selects::order_of-returns-else-eat-clause-found : goal.selects::order_of-returns-else-eat-clause-found
selects::order_of-returns-else-eat-clause-found t c = rw c.new.ensures (left m.Order c.if-eat.ensures.no (finished refl))

pub selects::key_of-returns-in_err-expr-clause-found : goal.selects::key_of-returns-in_err-expr-clause-found
selects::key_of-returns-in_err-expr-clause-found t c =
    let p = err_from_is_err_and c.from_residual.result c.from_residual.ensures.1 in
    rw (p.1, p.2) (read_no c.in_err-expr.ensures.found)

pub selects::key_of-returns-then-is_number-clause-found : goal.selects::key_of-returns-then-is_number-clause-found
selects::key_of-returns-then-is_number-clause-found t c = key_refused c.in_ok-expr.ensures.found (rw c.get.ensures at c.if-is_number.ensures)

pub selects::key_of-returns-then-eat-clause-found : goal.selects::key_of-returns-then-eat-clause-found
selects::key_of-returns-then-eat-clause-found t c = rw c.key_with.ensures (key_on c.in_ok-expr.ensures.found (rw c.get.ensures at c.if-is_number.ensures) (eaten m.Desc c.if-eat.ensures.yes (finished refl)))

pub selects::key_of-returns-clause-found : goal.selects::key_of-returns-clause-found
selects::key_of-returns-clause-found t c = rw c.key_with-2.ensures (key_on c.in_ok-expr.ensures.found (rw c.get.ensures at c.if-is_number.ensures) (left m.Desc c.if-eat.ensures.no (direction _ _ _ _ c.eat-2.ensures.yes c.eat-2.ensures.no)))

pub expressions::cast-returns-in_err-operand-clause-found : goal.expressions::cast-returns-in_err-operand-clause-found
expressions::cast-returns-in_err-operand-clause-found t c =
    let p = err_from_is_err_and c.from_residual.result c.from_residual.ensures.1 in
    rw (p.1, p.2) (read_no c.in_err-operand.ensures.found)

pub expressions::cast-returns-then-not-eat-clause-found : goal.expressions::cast-returns-then-not-eat-clause-found
expressions::cast-returns-then-not-eat-clause-found t c = read_on c.in_ok-operand.ensures.found (left m.Colons c.if-not-eat.ensures.no (finished refl))

pub expressions::cast-returns-in_err-new-clause-found : goal.expressions::cast-returns-in_err-new-clause-found
expressions::cast-returns-in_err-new-clause-found t c =
    let p = err_from_is_err_and c.from_residual-in_err-new.result c.from_residual-in_err-new.ensures.1 in
    rw (p.1, p.2) (no_memory)

pub expressions::cast-returns-clause-found : goal.expressions::cast-returns-clause-found
expressions::cast-returns-clause-found t c = read_on c.in_ok-operand.ensures.found (eaten m.Colons c.if-not-eat.ensures.yes (rw c.in_ok-new.ensures at c.casts_of.ensures.found))

pub expressions::chain-returns-in_err-first-clause-found : goal.expressions::chain-returns-in_err-first-clause-found
expressions::chain-returns-in_err-first-clause-found t c =
    let p = err_from_is_err_and c.from_residual.result c.from_residual.ensures.1 in
    rw (p.1, p.2) (chain_fails c.requires.inner c.in_err-first.ensures.found)

pub expressions::chain-returns-then-not-sees_operator-clause-found : goal.expressions::chain-returns-then-not-sees_operator-clause-found
expressions::chain-returns-then-not-sees_operator-clause-found t c = chain_alone c.requires.inner c.in_ok-first.ensures.found c.if-not-sees_operator.ensures

pub expressions::chain-returns-in_err-boxed-clause-found : goal.expressions::chain-returns-in_err-boxed-clause-found
expressions::chain-returns-in_err-boxed-clause-found t c =
    let p = err_from_is_err_and c.from_residual-in_err-boxed.result c.from_residual-in_err-boxed.ensures.1 in
    rw (p.1, p.2) (no_memory)

pub expressions::chain-returns-in_err-more-clause-found : goal.expressions::chain-returns-in_err-more-clause-found
expressions::chain-returns-in_err-more-clause-found t c =
    let p = err_from_is_err_and c.from_residual-in_err-more.result c.from_residual-in_err-more.ensures.1 in
    rw (p.1, p.2) (chain_on c.requires.inner c.in_ok-first.ensures.found (read_no c.in_err-more.ensures.found))

pub expressions::chain-returns-clause-found : goal.expressions::chain-returns-clause-found
expressions::chain-returns-clause-found t c = rw (c.chain_of.ensures, c.in_ok-boxed.ensures) (chain_on c.requires.inner c.in_ok-first.ensures.found (read_on c.in_ok-more.ensures.found (finished refl)))

pub expressions::links_of-loop-op-init : goal.expressions::links_of-loop-op-init
expressions::links_of-loop-op-init t c = record { begun = rw c.new-found.ensures (links_begin _ _); shrinks = first_of (search rules, grind (arith, common_steps)) }

pub expressions::links_of-returns-in_err-expression-clause-found : goal.expressions::links_of-returns-in_err-expression-clause-found
expressions::links_of-returns-in_err-expression-clause-found t c =
    let p = err_from_is_err_and c.from_residual.result c.from_residual.ensures.1 in
    rw (p.1, p.2) (links_fail _ c.loop-op.invariant.begun c.in-Some.ensures.found c.in-Some.ensures.rest c.requires c.in_err-expression.ensures.found)

pub expressions::links_of-loop-op-preserved : goal.expressions::links_of-loop-op-preserved
expressions::links_of-loop-op-preserved t c = record { begun = rw c.in_ok-push.ensures.ok (links_more _ c.loop-op.invariant.begun c.in-Some.ensures.found c.in-Some.ensures.rest c.requires c.in_ok-expression.ensures.found); shrinks = first_of (search rules, grind (arith, common_steps)) }

pub expressions::links_of-returns-in_err-push-clause-found : goal.expressions::links_of-returns-in_err-push-clause-found
expressions::links_of-returns-in_err-push-clause-found t c =
    let p = err_from_is_err_and c.from_residual-in_err-push.result c.from_residual-in_err-push.ensures.1 in
    rw (p.1, p.2) (no_memory)

pub expressions::links_of-returns-clause-found : goal.expressions::links_of-returns-clause-found
expressions::links_of-returns-clause-found t c = links_end c.loop-op.invariant.begun c.in_default.ensures.found c.in_default.ensures.rest

pub expressions::compared-returns-in_err-left-clause-found : goal.expressions::compared-returns-in_err-left-clause-found
expressions::compared-returns-in_err-left-clause-found t c =
    let p = err_from_is_err_and c.from_residual.result c.from_residual.ensures.1 in
    rw (p.1, p.2) (read_no c.in_err-left.ensures.found)

pub expressions::compared-returns-in_default-clause-found : goal.expressions::compared-returns-in_default-clause-found
expressions::compared-returns-in_default-clause-found t c = read_on c.in_ok-left.ensures.found (perhaps_missed comparison_in _ (sym c.in_default.ensures.found) c.in_default.ensures.rest (finished refl))

pub expressions::compared-returns-in_err-boxed-clause-found : goal.expressions::compared-returns-in_err-boxed-clause-found
expressions::compared-returns-in_err-boxed-clause-found t c =
    let p = err_from_is_err_and c.from_residual-in_err-boxed.result c.from_residual-in_err-boxed.ensures.1 in
    rw (p.1, p.2) (no_memory)

pub expressions::compared-returns-in_err-operand-clause-found : goal.expressions::compared-returns-in_err-operand-clause-found
expressions::compared-returns-in_err-operand-clause-found t c =
    let p = err_from_is_err_and c.from_residual-in_err-operand.result c.from_residual-in_err-operand.ensures.1 in
    rw (p.1, p.2) (read_on c.in_ok-left.ensures.found (perhaps_found comparison_in _ (sym c.in-Some.ensures.found) c.in-Some.ensures.rest (read_no c.in_err-operand.ensures.found)))

pub expressions::compared-returns-clause-found : goal.expressions::compared-returns-clause-found
expressions::compared-returns-clause-found t c = rw c.in_ok-boxed.ensures (read_on c.in_ok-left.ensures.found (perhaps_found comparison_in _ (sym c.in-Some.ensures.found) c.in-Some.ensures.rest (read_on c.in_ok-operand.ensures.found (finished refl))))

pub expressions::ranged-returns-in_err-operand-clause-found : goal.expressions::ranged-returns-in_err-operand-clause-found
expressions::ranged-returns-in_err-operand-clause-found t c =
    let p = err_from_is_err_and c.from_residual.result c.from_residual.ensures.1 in
    rw (p.1, p.2) (read_no c.in_err-operand.ensures.found)

pub expressions::ranged-returns-then-not-sees_range-clause-found : goal.expressions::ranged-returns-then-not-sees_range-clause-found
expressions::ranged-returns-then-not-sees_range-clause-found t c = read_on c.in_ok-operand.ensures.found (unranged c.if-not-sees_range.ensures)

pub expressions::ranged-returns-in_err-boxed-clause-found : goal.expressions::ranged-returns-in_err-boxed-clause-found
expressions::ranged-returns-in_err-boxed-clause-found t c =
    let p = err_from_is_err_and c.from_residual-in_err-boxed.result c.from_residual-in_err-boxed.ensures.1 in
    rw (p.1, p.2) (no_memory)

pub expressions::ranged-returns-clause-found : goal.expressions::ranged-returns-clause-found
expressions::ranged-returns-clause-found t c = read_on c.in_ok-operand.ensures.found (range_on _ _ _ _ _ _ c.eat-negated.ensures.yes c.eat-negated.ensures.no (rw c.in_ok-boxed.ensures at c.within.ensures.found))

pub expressions::tested-returns-in_err-operand-clause-found : goal.expressions::tested-returns-in_err-operand-clause-found
expressions::tested-returns-in_err-operand-clause-found t c =
    let p = err_from_is_err_and c.from_residual.result c.from_residual.ensures.1 in
    rw (p.1, p.2) (read_no c.in_err-operand.ensures.found)

pub expressions::tested-returns-then-not-eat-clause-found : goal.expressions::tested-returns-then-not-eat-clause-found
expressions::tested-returns-then-not-eat-clause-found t c = read_on c.in_ok-operand.ensures.found (left m.Is c.if-not-eat.ensures.no (finished refl))

pub expressions::tested-returns-in_err-new-clause-found : goal.expressions::tested-returns-in_err-new-clause-found
expressions::tested-returns-in_err-new-clause-found t c =
    let p = err_from_is_err_and c.from_residual-in_err-new.result c.from_residual-in_err-new.ensures.1 in
    rw (p.1, p.2) (no_memory)

pub expressions::tested-returns-clause-found : goal.expressions::tested-returns-clause-found
expressions::tested-returns-clause-found t c = read_on c.in_ok-operand.ensures.found (eaten m.Is c.if-not-eat.ensures.yes (rw c.in_ok-new.ensures at c.test_of.ensures.found))
