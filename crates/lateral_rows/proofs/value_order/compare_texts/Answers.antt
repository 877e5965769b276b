use Rattle.std.proofs.Common.{◌≡◌, refl, ◌∙◌, ap}
use Rattle.std.proofs.lemmas.Iterator.{YieldsList-from_chars}
use Rattle.std.proofs.lemmas.Iterator.Search.{cmp_from_yields_List}
use Rattle.std.specs.Cmp.Lexicographic.{slice_cmp}
use Rattle.std.specs.Ordering.{nat_cmp}
use Rattle.std.specs.Str.{chars}
use Rattle.lateral_rows.proofs.value_order.compare_texts.Goals as goal

pub returns : goal.returns
returns c =
    let ordered : c.cmp.result ≡ slice_cmp nat_cmp (chars c.text.result.now) (chars c.text-2.result.now) =
    cmp_from_yields_List (λ x y. y ≡ x) _ nat_cmp _ c.cmp.ensures.ran (YieldsList-from_chars c.text.result.now c.text.utf8 cc) (λ it e. YieldsList-from_chars c.text-2.result.now c.text-2.utf8 cc) (λ x y. refl)
    in
    ordered ∙ ap (slice_cmp nat_cmp (chars c.text.result.now)) c.text-2.ensures.value ∙ ap (λ t. slice_cmp nat_cmp t c.args.y.now) c.text.ensures.value
