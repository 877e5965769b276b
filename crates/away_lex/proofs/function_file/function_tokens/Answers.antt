use Rattle.std.proofs.Common.{◌≡◌, ◌∙◌, sym, ap, map, Some, arith, option_map}
use Rattle.away_grammar.specs.FunctionFile.{first_dollar}
use Rattle.away_lex.specs.Lexed.{seen}
use Rattle.away_lex.proofs.Parts.{dollar_in, file_refused}
use Rattle.away_lex.proofs.function_file.function_tokens.Goals as goal

pub returns-in-Err-clause-err : goal.returns-in-Err-clause-err
returns-in-Err-clause-err c = file_refused c.args.text.now c.in-Err.refusal c.in-Err.ensures.err

pub inside_tokens-requires-clause-spelled : goal.inside_tokens-requires-clause-spelled
inside_tokens-requires-clause-spelled c =
    let is : first_dollar (map seen c.in-Ok.list.items) ≡ Some (seen c.in-Some.quote) = ap (λ l. first_dollar (map seen l)) (sym c.as_slice.ensures.value) ∙ sym c.first_dollar.ensures ∙ ap (option_map seen) c.in-Some.is in
    (dollar_in c.in-Ok.ensures.ok (seen c.in-Some.quote) is).0

pub inside_tokens-requires-clause-within : goal.inside_tokens-requires-clause-within
inside_tokens-requires-clause-within c =
    let is : first_dollar (map seen c.in-Ok.list.items) ≡ Some (seen c.in-Some.quote) = ap (λ l. first_dollar (map seen l)) (sym c.as_slice.ensures.value) ∙ sym c.first_dollar.ensures ∙ ap (option_map seen) c.in-Some.is in
    let le = (dollar_in c.in-Ok.ensures.ok (seen c.in-Some.quote) is).1 in
    omega (arith, le)
