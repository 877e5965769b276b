use Rattle.std.proofs.Common.{◌≡◌, ℕ, List, ap, sym, ◌∙◌}
use Rattle.std.specs.Bool.{Decides}
use Rattle.std.specs.Str.{chars}
use Rattle.std.proofs.lemmas.Str.{encodes-chars}
use lib.Utf8.{encodes as encode_all}
use Rattle.std.specs.Cmp.Lexicographic.{bytes_decides}
use Rattle.std.proofs.lemmas.Bool.Decides.{Decides-at}
use Rattle.tree_events.specs.declared.events.TreeEvent.TheVariants as event
use Rattle.written_queries.proofs.same.same_event.Goals as goal

text_same : (xs ys : List ℕ) → event.Text xs ≡ event.Text ys → xs ≡ ys
text_same xs ys e = cc

pub returns-in-Text-right : goal.returns-in-Text-right
returns-in-Text-right c =
    let one = c.text.ensures.value in let two = c.text-in-Text-right.ensures.value in
    let told : Decides c.eq.result (c.text.result.now ≡ c.text-in-Text-right.result.now) = Decides-at c.eq.result _ c.eq.ensures (bytes_decides _ _) in (
      λ y. c.in-Text.is ∙ (ap event.Text (sym one ∙ (ap chars (told.0 y) ∙ two)) ∙ sym c.in-Text-right.is),
      λ e. told.1 (let q : event.Text c.in-Text.text ≡ event.Text c.in-Text-right.other = sym c.in-Text.is ∙ (e ∙ c.in-Text-right.is) in
          let texts : chars c.text.result.now ≡ chars c.text-in-Text-right.result.now = one ∙ (text_same _ _ q ∙ sym two) in
          sym (encodes-chars c.text.result.now c.text.utf8) ∙ (ap encode_all texts ∙ encodes-chars c.text-in-Text-right.result.now c.text-in-Text-right.utf8)),
    )
