use Rattle.std.proofs.Common.{◌≡◌, ◌∙◌, ap, subst, ◌++◌, chars, string_bytes}
use Rattle.std.proofs.lemmas.Str.{chars-nil}
use Rattle.away_values.specs.Operators.{text_of_value, text_within}
use Rattle.away_values.specs.Results.{Answers}
use Rattle.away_values.proofs.texts.joined.Goals as goal

pub returns : goal.returns
returns c =
    let first : chars (string_bytes c.push_spelling.new.text) ≡ text_of_value c.args.a.now = c.in_ok-push_spelling.ensures.written ∙ ap (λ t. chars t ++ text_of_value c.args.a.now) c.new-text.ensures.bytes ∙ ap (λ t. t ++ text_of_value c.args.a.now) chars-nil in
    let both : chars (string_bytes c.push_spelling-2.new.text) ≡ text_of_value c.args.a.now ++ text_of_value c.args.b.now = c.in_ok-push_spelling-2.ensures.written ∙ ap (λ t. t ++ text_of_value c.args.b.now) first in
    subst (λ t. Answers (text_within t) c.text_within.result) both c.text_within.ensures
