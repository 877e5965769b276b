use Rattle.std.proofs.Common.{refl, sym, ◌∙◌}
use Rattle.plsql_parse.specs.Sorts.{integer_in}
use Rattle.sql_text.proofs.Steps.{finished}
use Rattle.plsql_parse.proofs.Words.{kind_taken, kind_missed}
use Rattle.plsql_parse.proofs.attributes.cost.Goals as goal

pub returns-then-takes_integer-clause-found : goal.returns-then-takes_integer-clause-found
returns-then-takes_integer-clause-found c = kind_taken integer_in _ _ refl (sym c.if-takes_integer.true ∙ c.takes_integer.ensures.found) c.takes_integer.ensures.rest (finished refl)

pub returns-else-takes_integer-clause-found : goal.returns-else-takes_integer-clause-found
returns-else-takes_integer-clause-found c = kind_missed integer_in _ _ refl (sym c.if-takes_integer.false ∙ c.takes_integer.ensures.found)
