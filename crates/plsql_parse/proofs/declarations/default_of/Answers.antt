use Rattle.std.proofs.Common.{refl}
use Rattle.away_grammar.specs.declared.grammar.Mark.TheVariants as m
use Rattle.sql_text.proofs.Steps.{finished, eaten, left}
use Rattle.plsql_parse.proofs.declarations.default_of.Goals as goal

pub returns-then-eat-clause-found : goal.returns-then-eat-clause-found
returns-then-eat-clause-found c = eaten m.Assign c.if-eat.ensures.yes (c.default_expression.ensures.found)

pub returns-then-eat-2-clause-found : goal.returns-then-eat-2-clause-found
returns-then-eat-2-clause-found c = left m.Assign c.if-eat.ensures.no (eaten m.Equal c.if-eat-2.ensures.yes (c.default_expression-then-eat-2.ensures.found))

pub returns-then-eat-3-clause-found : goal.returns-then-eat-3-clause-found
returns-then-eat-3-clause-found c = left m.Assign c.if-eat.ensures.no (left m.Equal c.if-eat-2.ensures.no (eaten m.Default c.if-eat-3.ensures.yes (c.default_expression-then-eat-3.ensures.found)))

pub returns-clause-found : goal.returns-clause-found
returns-clause-found c = left m.Assign c.if-eat.ensures.no (left m.Equal c.if-eat-2.ensures.no (left m.Default c.if-eat-3.ensures.no (finished refl)))
