use Rattle.std.proofs.Common.{All, arith, ap, map, subst, sym, ◌∙◌}
use Rattle.sql_text.specs.CodeTerminals.{meaning_of, HasSpelling}
use Rattle.sql_text.proofs.Steps.{moved}
use Rattle.plsql_parse.proofs.WholeFile.{all_given, not_all_given, not_given}
use Rattle.away_grammar.specs.FunctionGrammar.{body}
use Rattle.plsql_parse.proofs.read.whole_body.Goals as goal

pub returns-then-left-eq0 : goal.returns-then-left-eq0
returns-then-left-eq0 c = all_given body (moved (c.new-left.ensures ∙ ap (map meaning_of) c.as_slice.ensures ∙ c.in_ok-terminals.ensures.values) c.in-Ok.ensures.found) (omega (arith, c.left.ensures, c.if-left-eq0.true))

pub returns-in-Ok : goal.returns-in-Ok
returns-in-Ok c = not_all_given body (moved (c.new-left.ensures ∙ ap (map meaning_of) c.as_slice.ensures ∙ c.in_ok-terminals.ensures.values) c.in-Ok.ensures.found) (λ e. absurd (omega (arith, c.left.ensures, c.if-left-eq0.false, e)))

pub returns : goal.returns
returns c = not_given body _ c.in-Err.refusal (moved (c.new-left.ensures ∙ ap (map meaning_of) c.as_slice.ensures ∙ c.in_ok-terminals.ensures.values) c.in-Err.ensures.found)

pub new-left-requires-clause-spelled : goal.new-left-requires-clause-spelled
new-left-requires-clause-spelled c = subst (All HasSpelling) (sym c.as_slice.ensures) c.in_ok-terminals.ensures.spelled
