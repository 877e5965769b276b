use Rattle.std.proofs.Common.{IfSome, ◌∙◌, string_bytes, subst, sym}
use Rattle.away_top.specs.declared.findings.Found.{Found}
use Rattle.away_top.specs.Explanations.{IsFoundAt}
use Rattle.away_top.specs.Steps.{run_end}
use Rattle.away_top.proofs.Explaining.{finding_told}
use Rattle.away_top.proofs.findings.broken.Goals as goal

pub returns : goal.returns
returns c =
    let s = c.args.tables.now.schema in
    let f = c.args.function.now in
    let found =
    subst (λ o. IfSome o (λ (at : Found). IsFoundAt s f c.args.bytes.now c.args.finding at.offset (string_bytes at.reason))) c.in-Some.is c.in_ok-found.ensures in
    finding_told c.args.name.now s f c.args.bytes.now c.args.finding c.in-Some.found.offset c.deref.result.now c.deref-2.result.now (run_end c.told.result)
    (subst (λ r. IsFoundAt s f c.args.bytes.now c.args.finding c.in-Some.found.offset r) (sym c.deref-2.ensures) found)
    (c.deref.ensures.value ∙ c.in_ok-rule.ensures) c.told.ensures
