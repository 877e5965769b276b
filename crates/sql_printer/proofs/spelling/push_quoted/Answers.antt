use Rattle.std.proofs.Common.{◌≡◌, ◌∷◌, ◌++◌, [], ◌∙◌, ap, refl, string_bytes}
use Rattle.away_grammar.specs.Spellings.{doubled}
use Rattle.sql_printer.proofs.Doubled.{quotes_assoc, requoted_is}
use Rattle.sql_printer.proofs.spelling.push_quoted.Goals as goal

pub returns : goal.returns
returns c =
    let h = c.in_ok-doubled.ensures.ok in
    let z = string_bytes c.args.text.now in
    let inside : c.as_str.result.now ≡ doubled c.args.inside.now = c.as_str.ensures.value ∙ requoted_is _ _ (λ p. p.now) (λ p s r f. f) (λ p q e. e) h.0 _ refl _ _ h.1 in
    c.in_ok-push_str-3.ensures.bytes
    ∙ ap (λ y. y ++ 39 ∷ []) (c.in_ok-push_str-2.ensures.bytes ∙ ap (λ y. y ++ c.as_str.result.now) c.in_ok-push_str.ensures.bytes ∙ ap (λ y. (z ++ 39 ∷ []) ++ y) inside)
    ∙ quotes_assoc z (doubled c.args.inside.now)
