use Rattle.std.proofs.lemmas.List.Elements.{All-push}
use Rattle.sql_text.specs.CodeTerminals.{HasSpelling}
use Rattle.sql_text.proofs.Places.{spelled_at, terminals_more}
use Rattle.sql_text.proofs.terminals.terminals_of.Goals as goal

pub terminal_of-requires : goal.terminal_of-requires
terminal_of-requires c = spelled_at c.args.tokens.now c.loop-token.token-index _ c.requires c.loop-token-test.true

pub loop-token-preserved : goal.loop-token-preserved
loop-token-preserved c =
    rw c.in_ok-push.ensures.ok
    (record {
      values = terminals_more c.loop-token.terminals c.terminal_of.result c.args.tokens.now c.loop-token.token-index _ _ c.loop-token-test.true c.terminal_of.ensures.value c.loop-token.invariant.values;
      spelled = All-push HasSpelling c.loop-token.terminals c.terminal_of.result c.loop-token.invariant.spelled c.terminal_of.ensures.spelled;
    })
