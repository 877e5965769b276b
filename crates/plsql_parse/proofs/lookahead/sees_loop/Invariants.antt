use Rattle.std.proofs.Common.{◌≡◌, length}
use Rattle.away_grammar.specs.FunctionGrammar.{loop_opens, opens_loop}
use Rattle.plsql_parse.proofs.lookahead.sees_loop.Given as goal

abbrev pub invariant-loop-terminal : goal.invariant-loop-terminal
invariant-loop-terminal l = loop_opens l.ahead l.behind_end ≡ opens_loop l.tokens

abbrev pub decreases-loop-terminal : goal.decreases-loop-terminal
decreases-loop-terminal l = length l.ahead
