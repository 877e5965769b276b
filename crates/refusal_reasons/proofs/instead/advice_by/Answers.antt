use Rattle.std.proofs.Common.{rules, ◌≡◌, ◌∙◌, sym, ℕ, List, [], get_or, Bor, bytes_eq}
use borrow.Author.Tests.{tests}
use Rattle.refusal_reasons.specs.declared.instead.Advice.{Advice}
use Rattle.refusal_reasons.specs.declared.instead.Advice.TheVariants as advice
use Rattle.refusal_reasons.proofs.Steps.{advice_here, advice_next}
use Rattle.refusal_reasons.proofs.instead.advice_by.Goals as goal

abbrev none : Bor (List ℕ) × Advice
none = (record { ref_ptr = (0, 0); now = [] }, advice.OwnName)

pub returns-then-eq : goal.returns-then-eq
returns-then-eq c =
    let is : c.eq.result ≡ bytes_eq c.args.word.now (get_or c.args.entries.now c.loop-outside.outside-index none).0.now = search (rules, tests) in
    sym (advice_here c.args.word.now c.args.entries.now c.loop-outside.outside-index none c.loop-outside-test.true (sym is ∙ c.if-eq.true)) ∙ c.loop-outside.invariant

pub loop-outside-preserved : goal.loop-outside-preserved
loop-outside-preserved c =
    let is : c.eq.result ≡ bytes_eq c.args.word.now (get_or c.args.entries.now c.loop-outside.outside-index none).0.now = search (rules, tests) in
    advice_next c.args.word.now c.args.entries.now c.loop-outside.outside-index none c.loop-outside-test.true (sym is ∙ c.if-eq.false) ∙ c.loop-outside.invariant
