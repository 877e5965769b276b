use Rattle.std.proofs.Common.{◌≡◌, ◌∙◌, sym, subst}
use Rattle.away_top.specs.declared.compile.Wanted.TheVariants.{Certificate}
use Rattle.away_top.specs.Translation.{IsTranslation}
use Rattle.away_top.proofs.CertifiedInMemory.{accepted, fits, same_end}
use Rattle.away_top.proofs.laws.certified_is_accepted.Goals as goal

pub returns : goal.returns
returns c = λ first second schema func query cert tables function written certifies holds_schema holds_function done wrote checks holds quiet.
    let t = c.away-certified.ensures.certified done first second tables function certifies holds_schema holds_function in
    let same : t.0 ≡ written = same_end c.args.output.now.bytes t.0 written (sym t.2 ∙ wrote) in
    let translation = subst (IsTranslation Certificate tables function) (same ∙ holds.written_is) t.1 in
    let may = fits tables function holds.line holds.text translation holds.is_line c.args.others.now schema func query cert holds.holds_schema holds.holds_function holds.holds_query holds.holds_cert
    holds.short_schema holds.short_function holds.short_query holds.short_cert holds.no_failure in
    accepted tables function holds.line holds.text translation holds.is_line c.args.verdict.now c.away_in_memory-judged.new.out c.away_in_memory-judged.result
    (c.away_in_memory-judged.ensures.check schema func query cert tables function holds.text holds.line checks may quiet)
