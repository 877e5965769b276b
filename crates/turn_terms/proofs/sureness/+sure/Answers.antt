use Rattle.std.proofs.Common.{rules, ◌≡◌, sym, ap, ◌∙◌, true}
use Rattle.turn_terms.proofs.SureRules.{all_arms, all_exprs, all_links, always, between_is, cases_is, cast_is, chain_is, compare_is, is_sure, later, not_sure, one_of_is, two_no, two_yes}
use Rattle.turn_terms.proofs.sureness.+sure.Goals as goal

pub is_sure-returns-then-not-is_sure : goal.is_sure-returns-then-not-is_sure
is_sure-returns-then-not-is_sure t c =
    sym c.if-not-is_sure.true
    ∙ two_no _ _ _ _ (between_is c.args.e.now c.in-Between.a c.in-Between.low c.in-Between.high c.in-Between.field-0 c.in-Between.is)
    (c.is_sure-in-Between.ensures ∙ ap always c.get-in-Between.ensures) c.if-not-is_sure.true

pub is_sure-returns-in-Not : goal.is_sure-returns-in-Not
is_sure-returns-in-Not t c = c.is_sure.ensures ∙ (ap always c.get.ensures ∙ sym (not_sure c.args.e.now c.in-Not.a c.in-Not.is))

pub is_sure-returns-in-Is : goal.is_sure-returns-in-Is
is_sure-returns-in-Is t c =
    c.is_sure-in-Is.ensures ∙ (ap always c.get-in-Is.ensures ∙ sym (is_sure c.args.e.now c.in-Is.a c.in-Is.field-1 c.in-Is.field-2 c.in-Is.is))

pub is_sure-returns-then-is_sure : goal.is_sure-returns-then-is_sure
is_sure-returns-then-is_sure t c =
    two_yes _ _ _ _ _ (chain_is c.args.e.now c.in-Chain.a c.in-Chain.links c.in-Chain.is) (c.is_sure-in-Chain.ensures
    ∙ ap always c.get-in-Chain.ensures) c.if-is_sure.true
    (c.links_sure.ensures ∙ ap all_links c.as_slice.ensures)

pub is_sure-returns-else-is_sure : goal.is_sure-returns-else-is_sure
is_sure-returns-else-is_sure t c =
    two_no _ _ _ _ (chain_is c.args.e.now c.in-Chain.a c.in-Chain.links c.in-Chain.is) (c.is_sure-in-Chain.ensures
    ∙ ap always c.get-in-Chain.ensures) c.if-is_sure.false

pub is_sure-returns-then-is_sure-2 : goal.is_sure-returns-then-is_sure-2
is_sure-returns-then-is_sure-2 t c =
    two_yes _ _ _ _ _ (compare_is c.args.e.now c.in-Compare.a c.in-Compare.b c.in-Compare.field-0 c.in-Compare.is)
    (c.is_sure-in-Compare.ensures ∙ ap always c.get-in-Compare.ensures) c.if-is_sure-2.true (c.is_sure-then-is_sure-2.ensures
    ∙ ap always c.get-then-is_sure-2.ensures)

pub is_sure-returns-else-is_sure-2 : goal.is_sure-returns-else-is_sure-2
is_sure-returns-else-is_sure-2 t c =
    two_no _ _ _ _ (compare_is c.args.e.now c.in-Compare.a c.in-Compare.b c.in-Compare.field-0 c.in-Compare.is)
    (c.is_sure-in-Compare.ensures ∙ ap always c.get-in-Compare.ensures) c.if-is_sure-2.false

pub is_sure-returns-then-is_sure-3 : goal.is_sure-returns-then-is_sure-3
is_sure-returns-then-is_sure-3 t c =
    let first : c.is_sure-in-Between.result ≡ true = search rules in
    two_yes (always c.args.e.now) (always c.in-Between.low) (always c.in-Between.high) _ _
    (later (always c.args.e.now) (always c.in-Between.a) (always c.in-Between.low) (always c.in-Between.high) _
    (between_is c.args.e.now c.in-Between.a c.in-Between.low c.in-Between.high c.in-Between.field-0 c.in-Between.is)
    (c.is_sure-in-Between.ensures ∙ ap always c.get-in-Between.ensures) first)
    (c.is_sure-in-Between-2.ensures ∙ ap always c.get-in-Between-2.ensures) c.if-is_sure-3.true
    (c.is_sure-then-is_sure-3.ensures ∙ ap always c.get-then-is_sure-3.ensures)

pub is_sure-returns-else-is_sure-3 : goal.is_sure-returns-else-is_sure-3
is_sure-returns-else-is_sure-3 t c =
    let first : c.is_sure-in-Between.result ≡ true = search rules in
    two_no (always c.args.e.now) (always c.in-Between.low) (always c.in-Between.high) _
    (later (always c.args.e.now) (always c.in-Between.a) (always c.in-Between.low) (always c.in-Between.high) _
    (between_is c.args.e.now c.in-Between.a c.in-Between.low c.in-Between.high c.in-Between.field-0 c.in-Between.is)
    (c.is_sure-in-Between.ensures ∙ ap always c.get-in-Between.ensures) first)
    (c.is_sure-in-Between-2.ensures ∙ ap always c.get-in-Between-2.ensures) c.if-is_sure-3.false

pub is_sure-returns-then-is_sure-4 : goal.is_sure-returns-then-is_sure-4
is_sure-returns-then-is_sure-4 t c =
    two_yes _ _ _ _ _ (one_of_is c.args.e.now c.in-OneOf.a c.in-OneOf.field-0 c.in-OneOf.list c.in-OneOf.is)
    (c.is_sure-in-OneOf.ensures ∙ ap always c.get-in-OneOf.ensures) c.if-is_sure-4.true (c.list_sure.ensures ∙ ap all_exprs c.as_slice-then-is_sure-4.ensures)

pub is_sure-returns-else-is_sure-4 : goal.is_sure-returns-else-is_sure-4
is_sure-returns-else-is_sure-4 t c =
    two_no _ _ _ _ (one_of_is c.args.e.now c.in-OneOf.a c.in-OneOf.field-0 c.in-OneOf.list c.in-OneOf.is)
    (c.is_sure-in-OneOf.ensures ∙ ap always c.get-in-OneOf.ensures) c.if-is_sure-4.false

pub is_sure-returns-then-is_sure-5 : goal.is_sure-returns-then-is_sure-5
is_sure-returns-then-is_sure-5 t c =
    two_yes _ _ _ _ _ (cast_is c.args.e.now c.in-Cast.a c.in-Cast.ty c.in-Cast.is) (c.is_sure-in-Cast.ensures
    ∙ ap always c.get-in-Cast.ensures) c.if-is_sure-5.true
    c.cast_sure.ensures

pub is_sure-returns-else-is_sure-5 : goal.is_sure-returns-else-is_sure-5
is_sure-returns-else-is_sure-5 t c =
    two_no _ _ _ _ (cast_is c.args.e.now c.in-Cast.a c.in-Cast.ty c.in-Cast.is) (c.is_sure-in-Cast.ensures
    ∙ ap always c.get-in-Cast.ensures) c.if-is_sure-5.false

pub is_sure-returns-then-arms_sure : goal.is_sure-returns-then-arms_sure
is_sure-returns-then-arms_sure t c =
    two_yes _ _ _ _ _ (cases_is c.args.e.now c.in-Cases.arms c.in-Cases.other c.in-Cases.is) (c.arms_sure.ensures ∙ ap all_arms c.as_slice-in-Cases.ensures)
    c.if-arms_sure.true c.other_sure.ensures

pub is_sure-returns-else-arms_sure : goal.is_sure-returns-else-arms_sure
is_sure-returns-else-arms_sure t c =
    two_no _ _ _ _ (cases_is c.args.e.now c.in-Cases.arms c.in-Cases.other c.in-Cases.is) (c.arms_sure.ensures ∙ ap all_arms c.as_slice-in-Cases.ensures)
    c.if-arms_sure.false
