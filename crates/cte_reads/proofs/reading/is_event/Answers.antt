use Rattle.std.proofs.Common.{◌≡◌, ℕ, List, ap, sym, ◌∙◌}
use Rattle.std.specs.Bool.{Decides}
use Rattle.std.specs.Str.{chars}
use Rattle.std.proofs.lemmas.Str.{encodes-chars}
use lib.Utf8.{encodes as encode_all}
use Rattle.std.specs.Cmp.Lexicographic.{bytes_decides}
use Rattle.std.proofs.lemmas.Bool.Decides.{Decides-at}
use Rattle.tree_events.specs.declared.events.TreeEvent.TheVariants as event
use Rattle.cte_reads.specs.Read.{event_of}
use Rattle.cte_reads.proofs.reading.is_event.Goals as goal

text_same : (xs ys : List ℕ) → event.Text xs ≡ event.Text ys → xs ≡ ys
text_same xs ys e = cc

pub returns-in-Text-here-2 : goal.returns-in-Text-here-2
returns-in-Text-here-2 c =
    let one = c.text.ensures.value in let two = c.text-in-Text-here-2.ensures.value in
    let told : Decides c.eq.result (c.text.result.now ≡ c.text-in-Text-here-2.result.now) = Decides-at c.eq.result _ c.eq.ensures (bytes_decides _ _) in
    let want : event_of c.args.want ≡ event.Text c.in-Text.text.now = ap event_of c.in-Text.is in (
      λ y. c.in-Text-here-2.is ∙ (ap event.Text (sym one ∙ (ap chars (told.0 y) ∙ two)) ∙ sym want),
      λ e. told.1 (let q : event.Text c.in-Text-here-2.other ≡ event.Text c.in-Text.text.now = sym c.in-Text-here-2.is ∙ (e ∙ want) in
          let texts : chars c.text.result.now ≡ chars c.text-in-Text-here-2.result.now = one ∙ (text_same _ _ q ∙ sym two) in
          sym (encodes-chars c.text.result.now c.text.utf8) ∙ (ap encode_all texts ∙ encodes-chars c.text-in-Text-here-2.result.now c.text-in-Text-here-2.utf8)),
    )
