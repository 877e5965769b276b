use Rattle.std.proofs.Common.{◌≡◌, sym, ◌∙◌, ap, subst, ◌+◌, ◌++◌, arith, chars, string_bytes, length, SFits, w64, to_z-of_z}
use Rattle.std.proofs.lemmas.Str.{IsUtf8-string_bytes}
use Rattle.std.proofs.lemmas.List.{length-append}
use Rattle.std.specs.Fmt.{signed_decimal}
use Rattle.away_values.specs.Words.{HasNoZero}
use Rattle.away_values.proofs.TextParts.{chars-written, chars-signed, no_zero-signed, length-signed, HasNoZero-append}
use Rattle.away_values.proofs.texts.push_decimal.Goals as goal

-- the bytes that are written
bytes : (c : goal.In_ok-write) → string_bytes c.write.new.self ≡ string_bytes c.args.text.now ++ signed_decimal c.args.n
bytes c =
    let fits : SFits w64 c.args.n = c.ranges.n in
    simp to_z-of_z at c.in_ok-write.ensures.bytes

pub returns-clause-written : goal.returns-clause-written
returns-clause-written c =
    chars-written (string_bytes c.args.text.now) _ (signed_decimal c.args.n) (IsUtf8-string_bytes c.args.text.now) (bytes c)
    ∙ ap (λ t. chars (string_bytes c.args.text.now) ++ t) (chars-signed c.args.n c.ranges.n)

pub returns-clause-no_zero : goal.returns-clause-no_zero
returns-clause-no_zero c =
    subst HasNoZero (sym (bytes c)) (HasNoZero-append (string_bytes c.args.text.now) (signed_decimal c.args.n) c.requires (no_zero-signed c.args.n c.ranges.n))

pub returns-clause-short : goal.returns-clause-short
returns-clause-short c =
    let size : length (string_bytes c.write.new.self) ≡ length (string_bytes c.args.text.now) + length (signed_decimal c.args.n) = ap length (bytes c) ∙ length-append (string_bytes c.args.text.now) (signed_decimal c.args.n) in
    omega (arith, length-signed c.args.n c.ranges.n)
