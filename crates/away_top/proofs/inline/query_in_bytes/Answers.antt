use Rattle.std.proofs.Common.{sym, subst}
use Rattle.away_grammar.specs.Texts.{ReadsQuery}
use Rattle.away_top.specs.Refusals.{ReadsAsQuery}
use Rattle.away_top.proofs.inline.query_in_bytes.Goals as goal

pub returns-in_ok-new-in-Ok-clause-judged : goal.returns-in_ok-new-in-Ok-clause-judged
returns-in_ok-new-in-Ok-clause-judged c =
    let ok = c.in-Ok.ensures.ok in
    let reads : ReadsAsQuery c.args.bytes.now c.in-Ok.query = record { may_be_read = ok.0; reads = ok.1 } in
    (record { written = c.in-Ok.query; reads_as = reads }, c.in_ok-new-in-Ok.ensures)

pub returns-in_ok-new-in-Ok-clause-text : goal.returns-in_ok-new-in-Ok-clause-text
returns-in_ok-new-in-Ok-clause-text c = subst (ReadsQuery c.args.bytes.now) (sym c.in_ok-new-in-Ok.ensures) c.in-Ok.ensures.ok.1
