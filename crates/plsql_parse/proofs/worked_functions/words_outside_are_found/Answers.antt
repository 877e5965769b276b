use Rattle.plsql_parse.proofs.Examples.{outside_words_found}
use Rattle.plsql_parse.proofs.worked_functions.words_outside_are_found.Goals as goal

pub returns : goal.returns
returns c = outside_words_found
