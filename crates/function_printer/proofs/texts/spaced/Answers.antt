use Rattle.std.proofs.Common.{◌≡◌, ◌∷◌, ◌++◌, [], ap, sym, ◌∙◌}
use Rattle.std.proofs.lemmas.List.{append_cancel_right}
use Rattle.away_grammar.specs.Printing.{terminals_text}
use Rattle.function_printer.specs.FunctionTexts.{spaced_text}
use Rattle.function_printer.proofs.InsideTexts.{text_is}
use Rattle.function_printer.proofs.texts.spaced.Goals as goal

pub without_line_feed-requires : goal.without_line_feed-requires
without_line_feed-requires c =
    let ts = c.args.terminals.now in
    (spaced_text ts, c.as_str.ensures.value ∙ c.in_ok-line.ensures ∙ ap terminals_text c.as_slice.ensures ∙ text_is ts)

pub returns : goal.returns
returns c =
    let ts = c.args.terminals.now in
    let line : c.as_str.result.now ≡ spaced_text ts ++ 10 ∷ [] =
    c.as_str.ensures.value ∙ c.in_ok-line.ensures ∙ ap terminals_text c.as_slice.ensures ∙ text_is ts in
    c.in_ok-push_str.ensures.bytes ∙ ap (λ z. z ++ c.without_line_feed.result.now) c.new-text.ensures.bytes
    ∙ append_cancel_right c.without_line_feed.result.now (spaced_text ts) (10 ∷ []) (sym c.without_line_feed.ensures ∙ line)
