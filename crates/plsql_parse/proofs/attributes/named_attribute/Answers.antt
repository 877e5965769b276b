use Rattle.std.proofs.Common.{refl, sym, ◌∙◌, subst}
use Rattle.sql_text.proofs.Steps.{finished}
use Rattle.std.proofs.Common.{Ok}
use Rattle.away_grammar.specs.FunctionGrammar.{attribute_of}
use Rattle.away_grammar.specs.Reserved.{folded}
use Rattle.sql_text.specs.Plans.{Gives}
use Rattle.plsql_parse.specs.Headers.{word_with}
use Rattle.plsql_parse.specs.Plans.{any_plan}
use Rattle.plsql_parse.specs.Sorts.{AnyTree, part}
use Rattle.plsql_parse.proofs.attributes.named_attribute.Goals as goal

pub returns-in-Some-clause-found : goal.returns-in-Some-clause-found
returns-in-Some-clause-found c = subst (λ o. Gives AnyTree any_plan (part attribute_of) (word_with (folded c.args.word.now) o) c.args.tokens.now (Ok c.in-Some.attribute) c.args.tokens.now) (sym c.in-Some.is ∙ c.one_word.ensures) (finished refl)
