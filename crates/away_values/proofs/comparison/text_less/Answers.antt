use Rattle.std.proofs.Common.{◌≡◌, refl, sym, ◌∙◌, ap}
use Rattle.std.proofs.lemmas.Iterator.{YieldsList-from_chars}
use Rattle.std.proofs.lemmas.Iterator.Search.{cmp_from_yields_List}
use Rattle.std.proofs.lemmas.Cmp.{is_lt_index}
use Rattle.std.specs.Cmp.Lexicographic.{slice_cmp}
use Rattle.std.specs.Ordering.{nat_cmp, is_lt}
use Rattle.std.specs.Str.{chars}
use Rattle.away_values.specs.Operators.{text_less as before}
use Rattle.away_values.proofs.Orders.{is_lt-slice_cmp}
use Rattle.away_values.proofs.comparison.text_less.Goals as goal

pub returns : goal.returns
returns c =
    let ordered : c.cmp.result ≡ slice_cmp nat_cmp (chars c.text.result.now) (chars c.text-2.result.now) =
    cmp_from_yields_List (λ x y. y ≡ x) _ nat_cmp _ c.cmp.ensures.ran (YieldsList-from_chars c.text.result.now c.text.utf8 cc) (λ it e. YieldsList-from_chars c.text-2.result.now c.text-2.utf8 cc) (λ x y. refl)
    in
    let less : is_lt c.cmp.result ≡ before (chars c.text.result.now) (chars c.text-2.result.now) = is_lt-slice_cmp (chars c.text.result.now) (chars c.text-2.result.now) c.cmp.result ordered in
    let test : is_lt c.cmp.result ≡ c.eq.result = is_lt_index c.cmp.result ∙ sym c.eq.ensures in
    sym test ∙ less ∙ ap (before (chars c.text.result.now)) c.text-2.ensures.value ∙ ap (λ x. before x c.args.b.now) c.text.ensures.value
