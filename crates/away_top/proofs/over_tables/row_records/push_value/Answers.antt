use Rattle.std.proofs.Common.{◌≡◌, ◌∙◌, ℕ, List, ◌∷◌, ◌++◌, [], OnOk, ap, chars, encode_utf8_all, subst, sym}
use Rattle.std.proofs.lemmas.Str.{chars-encodes}
use Rattle.csv.specs.Records.{fields_of}
use Rattle.away_top.specs.RowRecords.{field_of}
use Rattle.away_top.proofs.over_tables.row_records.push_value.Goals as goal

pub returns-in-Text-clause-added : goal.returns-in-Text-clause-added
returns-in-Text-clause-added c =
    let u = c.text.utf8 in
    let old = fields_of c.args.fields.now in
    let points : c.in-Text.word ≡ u.0 = sym c.text.ensures.value ∙ (ap chars (sym u.1.1) ∙ chars-encodes u.0 u.1.0) in
    let bytes : c.as_bytes-in-Text.result.now ≡ encode_utf8_all c.in-Text.word = c.as_bytes-in-Text.ensures.value ∙ sym u.1.1 ∙ ap encode_utf8_all (sym points) in
    let adds : List ℕ → Type 0 = λ field. OnOk c.push_field-in-Text.result (fields_of c.push_field-in-Text.new.self ≡ old ++ field ∷ []) in
    subst (λ v. adds (field_of v)) (sym c.in-Text.is)
    (subst adds (ap (λ p. p ++ c.as_bytes-in-Text.result.now) c.requires ∙ bytes) c.push_field-in-Text.ensures.fields)
