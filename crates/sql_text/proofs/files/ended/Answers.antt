use Rattle.std.proofs.Common.{refl}
use Rattle.away_grammar.specs.declared.grammar.Mark.TheVariants as m
use Rattle.sql_text.proofs.Steps.{finished}
use Rattle.sql_text.proofs.Names.{eaten_or_left}
use Rattle.sql_text.proofs.files.ended.Goals as goal

pub returns-clause-found : goal.returns-clause-found
returns-clause-found c = eaten_or_left m.Semicolon c.eat.result c.eat.ensures.yes c.eat.ensures.no (finished refl)
