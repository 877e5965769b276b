use Rattle.std.proofs.Common.{◌≡◌, ◌∙◌, ap, rules, chars, length, ◌≤◌, arith, pos, w64}
use Rattle.std.proofs.lemmas.Str.{chars_from_encodes, encodes-chars, length-le-encodes}
use Rattle.std.proofs.lemmas.Int.{to_z_pos}
use lib.Utf8.{encodes}
use Rattle.away_values.proofs.texts.count_of.Goals as goal

counted : (c : goal.After-count) → c.count.result ≡ length (chars c.text.result.now)
counted c = search (rules, chars_from_encodes)

pub returns : goal.returns
returns c =
    let count : c.count.result ≡ length (chars c.text.result.now) = counted c in
    let bytes : length (chars c.text.result.now) ≤ length (encodes (chars c.text.result.now)) = length-le-encodes (chars c.text.result.now) in
    let same : length (encodes (chars c.text.result.now)) ≡ length c.text.result.now = ap length (encodes-chars c.text.result.now c.text.utf8) in
    let short : length c.text.result.now ≤ 1048576 = c.text.ensures.within.short in
    to_z_pos w64 c.count.result (omega arith) ∙ ap pos (count ∙ ap length c.text.ensures.value)
