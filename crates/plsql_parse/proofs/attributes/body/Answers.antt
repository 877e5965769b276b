use Rattle.std.proofs.Common.{refl, sym, ◌∙◌}
use Rattle.plsql_parse.specs.Sorts.{quote_in}
use Rattle.sql_text.proofs.Steps.{finished}
use Rattle.plsql_parse.proofs.Words.{kind_taken, kind_missed}
use Rattle.plsql_parse.proofs.attributes.body.Goals as goal

pub returns-then-takes_quote-clause-found : goal.returns-then-takes_quote-clause-found
returns-then-takes_quote-clause-found c = kind_taken quote_in _ _ refl (sym c.if-takes_quote.true ∙ c.takes_quote.ensures.found) c.takes_quote.ensures.rest (finished refl)

pub returns-else-takes_quote-clause-found : goal.returns-else-takes_quote-clause-found
returns-else-takes_quote-clause-found c = kind_missed quote_in _ _ refl (sym c.if-takes_quote.false ∙ c.takes_quote.ensures.found)
