use Rattle.std.proofs.Common.{◌≡◌, ◌∙◌, ◌++◌, IfOk, ap, chars, codes, encode_utf8_all, subst, sym}
use Rattle.std.proofs.lemmas.Str.{chars-encodes}
use Rattle.away_top.specs.declared.status.Status.TheVariants.{Done}
use Rattle.away_top.specs.AnswerLines.{value_line}
use Rattle.away_top.specs.Lines.{line}
use Rattle.away_top.specs.Steps.{IsEnding}
use Rattle.away_top.proofs.over_tables.answer_lines.value_ending.Goals as goal

pub returns-in-Text : goal.returns-in-Text
returns-in-Text c =
    let u = c.text.utf8 in
    let points : c.in-Text.word ≡ u.0 = sym c.text.ensures.value ∙ (ap chars (sym u.1.1) ∙ chars-encodes u.0 u.1.0) in
    let bytes : c.as_bytes.result.now ≡ encode_utf8_all c.in-Text.word = c.as_bytes.ensures.value ∙ sym u.1.1 ∙ ap encode_utf8_all (sym points) in
    subst (λ v. IfOk c.with_details-in-Text.result (λ ending. IsEnding ending Done (value_line v))) (sym c.in-Text.is)
    (subst (λ b. IfOk c.with_details-in-Text.result (λ ending. IsEnding ending Done (line (codes "value " ++ b)))) bytes c.with_details-in-Text.ensures)
