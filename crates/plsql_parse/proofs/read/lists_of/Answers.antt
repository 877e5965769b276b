use Rattle.std.proofs.Common.{◌≡◌, ℕ, List, subst}
use Rattle.std.proofs.lemmas.Result.{err_from_is_err_and}
use Rattle.away_grammar.specs.Texts.{IsText}
use Rattle.away_lex.specs.Lexed.{FileRefusedAs}
use Rattle.away_lex.specs.Refusals.{tokens_refused}
use Rattle.away_lex.specs.declared.refusals.TokensRefusal.{TokensRefusal}
use Rattle.away_lex.specs.declared.refusals.TokensRefusal.TheVariants.{Bad, NoMemory}
use Rattle.plsql_parse.specs.FileRead.{RefusesLists}
use Rattle.plsql_parse.proofs.read.lists_of.Goals as goal

-- what refuses the token lists of a text refuses those of its bytes
refused : {bytes text : List ℕ} (r : TokensRefusal) → IsText bytes × (text ≡ bytes) → FileRefusedAs text r → RefusesLists bytes (tokens_refused r)
refused (Bad offset) is h = (is.0, subst (λ z. FileRefusedAs z (Bad offset)) is.1 h)
refused NoMemory is h = tt

pub returns-in_err-lists-clause-err : goal.returns-in_err-lists-clause-err
returns-in_err-lists-clause-err c =
    let p = err_from_is_err_and c.from_residual.result c.from_residual.ensures.1 in
    rw (p.1, p.2) (refused c.in_err-lists.field-0.0 c.in-Some.ensures c.in_err-lists.ensures.err)
