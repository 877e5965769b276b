use Rattle.std.proofs.Common.{subst}
use Rattle.away_grammar.specs.Texts.{ReadsQuery}
use Rattle.sql_text.specs.Refusals.{Refuses}
use Rattle.inline_calls.proofs.inlining.read_again.Goals as goal

pub returns-in-Err-clause-err : goal.returns-in-Err-clause-err
returns-in-Err-clause-err c =
    c.outgrown.ensures.each c.args.text.now (subst (λ z. Refuses (ReadsQuery z) z c.in-Err.error) c.as_bytes.ensures.value c.in-Err.ensures.err)
