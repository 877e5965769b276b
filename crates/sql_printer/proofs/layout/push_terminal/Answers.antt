use Rattle.std.proofs.Common.{◌≡◌, ◌++◌, OnOk, ap, sym, subst, ◌∙◌, string_bytes}
use Rattle.std.specs.Prelude.{encode_utf8_all}
use Rattle.std.proofs.lemmas.Str.{encodes-chars}
use Rattle.away_grammar.specs.Spellings.{quoted}
use Rattle.away_grammar.specs.Printing.{spelled}
use Rattle.sql_printer.specs.PrintedTerminals.{terminal_of}
use Rattle.sql_printer.proofs.layout.push_terminal.Goals as goal

pub returns-in-Text : goal.returns-in-Text
returns-in-Text c =
    let whole : c.text.result.now ≡ encode_utf8_all c.in-Text.word.now = sym (encodes-chars c.text.result.now c.text.utf8) ∙ ap encode_utf8_all c.text.ensures.value in
    let spelled_is : quoted c.text.result.now ≡ (spelled (terminal_of c.args.terminal)).text = ap quoted whole ∙ ap (λ p. (spelled (terminal_of p)).text) (sym c.in-Text.is) in
    subst (λ z. OnOk c.push_quoted.result (string_bytes c.push_quoted.new.text ≡ string_bytes c.args.text.now ++ z)) spelled_is c.push_quoted.ensures
