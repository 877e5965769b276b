use Rattle.std.proofs.Common.{◌≡◌, ◌<◌, ◌≤◌, ◌-◌, IfOk, true, false, ap, length, string_bytes, subst, sym, ◌∙◌, arith}
use Rattle.function_printer.specs.Tags.{first_free, numbered_mark, stands_in}
use Rattle.function_printer.proofs.FreeSearch.{free_mark_is, is_found, is_last, searches_on}
use Rattle.function_printer.proofs.tags.free_mark.Goals as goal

pub loop-number-init : goal.loop-number-init
loop-number-init c =
    let whole : length c.args.text.now - 0 ≡ length c.args.text.now = omega arith in
    ap (λ k. first_free k 0 c.args.text.now) whole

pub loop-number-preserved : goal.loop-number-preserved
loop-number-preserved c =
    let text = c.args.text.now in
    let n = c.loop-number.number in
    let lt : n < length text = omega (arith, c.loop-number-test.true) in
    let mark_is = c.as_str.ensures.value ∙ c.in_ok-mark.ensures in
    let stands : stands_in (numbered_mark n) text ≡ true =
    ap (λ mark. stands_in mark text) (sym mark_is) ∙ sym c.stands_in.ensures ∙ c.if-not-stands_in.false in
    searches_on text n lt stands ∙ c.loop-number.invariant

pub returns-then-not-stands_in-clause-mark : goal.returns-then-not-stands_in-clause-mark
returns-then-not-stands_in-clause-mark c =
    let text = c.args.text.now in
    let n = c.loop-number.number in
    let lt : n < length text = omega (arith, c.loop-number-test.true) in
    let mark_is = c.as_str.ensures.value ∙ c.in_ok-mark.ensures in
    let no : stands_in (numbered_mark n) text ≡ false =
    ap (λ mark. stands_in mark text) (sym mark_is) ∙ sym c.stands_in.ensures ∙ c.if-not-stands_in.true in
    c.in_ok-mark.ensures ∙ ap numbered_mark (sym (is_found text n lt no) ∙ c.loop-number.invariant) ∙ free_mark_is text

pub returns-clause-mark : goal.returns-clause-mark
returns-clause-mark c =
    let text = c.args.text.now in
    let n = c.loop-number.number in
    let le : length text ≤ n = omega (arith, c.loop-number-test.false) in
    let end : length text ≡ n = omega (arith, c.loop-number-test.false, c.loop-number.auto.number-end) in
    let last : length text ≡ first_free (length text) 0 text = end ∙ sym (is_last text n le) ∙ c.loop-number.invariant in
    subst (λ z. IfOk c.numbered_mark-2.result (λ mark. string_bytes mark ≡ z)) (ap numbered_mark last ∙ free_mark_is text) c.numbered_mark-2.ensures
