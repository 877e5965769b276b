use Rattle.std.proofs.Common.{◌≡◌, sym, ◌∙◌, ap, ◌++◌, chars, string_bytes}
use Rattle.std.proofs.lemmas.Str.{IsUtf8-string_bytes}
use Rattle.std.specs.Prelude.{if◌then◌else◌, codes}
use Rattle.away_values.specs.Operators.{text_of_value}
use Rattle.away_values.proofs.TextParts.{chars-written, chars-codes}
use Rattle.away_values.proofs.texts.push_spelling.Goals as goal
use Rattle.away_values.proofs.texts.push_spelling.Goals.{then-b, else-b}

pub returns-in_ok-push_str-in-Bool-clause-written : goal.returns-in_ok-push_str-in-Bool-clause-written
returns-in_ok-push_str-in-Bool-clause-written c =
    let b : string_bytes c.push_str.new.self ≡ string_bytes c.args.text.now ++ (if c.in-Bool.b then codes "true" else codes "false") =
    c.in_ok-push_str-in-Bool.ensures.bytes
    ∙ elim c.if-b.branch [
      | then-b w ↦ ap (λ r. string_bytes c.args.text.now ++ r.now) w.push_str-is ∙ ap (λ x. string_bytes c.args.text.now ++ (if x then codes "true" else codes "false")) (sym w.if-b.true)
      | else-b w ↦ ap (λ r. string_bytes c.args.text.now ++ r.now) w.push_str-is ∙ ap (λ x. string_bytes c.args.text.now ++ (if x then codes "true" else codes "false")) (sym w.if-b.false)
    ]
    in
    chars-written (string_bytes c.args.text.now) _ (if c.in-Bool.b then codes "true" else codes "false") (IsUtf8-string_bytes c.args.text.now) b
    ∙ ap (λ t. chars (string_bytes c.args.text.now) ++ t) (chars-codes c.in-Bool.b ∙ ap text_of_value (sym c.in-Bool.is))

pub returns-in_ok-push_str-in-Text-clause-written : goal.returns-in_ok-push_str-in-Text-clause-written
returns-in_ok-push_str-in-Text-clause-written c =
    chars-written (string_bytes c.args.text.now) _ c.text.result.now (IsUtf8-string_bytes c.args.text.now) c.in_ok-push_str-in-Text.ensures.bytes
    ∙ ap (λ t. chars (string_bytes c.args.text.now) ++ t) (c.text.ensures.value ∙ ap text_of_value (sym c.in-Text.is))
