-- The three lines of an explanation.
use Rattle.std.proofs.Common.{◌≡◌, ◌∙◌, ◌++◌, ap, ℕ, List}
use Rattle.text_places.specs.declared.lines.Display.{Display}
use Rattle.text_places.specs.Lines.{IsShown, column, line as line_number}
use Rattle.away_top.specs.Explanations.{IsTold, headline}
use Rattle.away_top.specs.Lines.{line}

pub told_so : (name bytes : List ℕ) (offset : ℕ) (rule reason : List ℕ) (d : Display) (first all lines : List ℕ) → IsShown bytes offset d
    → first ≡ line (headline name d.place.line d.place.column rule reason) → lines ≡ d.lines.items → all ≡ first ++ lines → IsTold name bytes offset rule reason all
told_so name bytes offset rule reason d first all lines (a, at, across, shown) first_is lines_are all_is = record {
  around = a;
  output_is = all_is ∙ ap (λ z. z ++ lines) (first_is ∙ ap (λ n. line (headline name n d.place.column rule reason)) at ∙ ap (λ n. line (headline name (line_number a) n rule reason)) across)
      ∙ ap (λ z. line (headline name (line_number a) (column a) rule reason) ++ z) (lines_are ∙ shown);
}
