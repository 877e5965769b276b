use Rattle.std.proofs.Common.{◌∷◌, ◌++◌, [], ap, sym, ◌∙◌}
use Rattle.function_printer.proofs.LineFeeds.{line_cut, line_split}
use Rattle.function_printer.proofs.texts.without_line_feed.Goals as goal

pub split_at-requires : goal.split_at-requires
split_at-requires c = line_cut c.requires.0 c.args.line.now c.requires.1

pub returns : goal.returns
returns c = line_split c.requires.0 c.args.line.now c.requires.1 ∙ ap (λ z. z ++ 10 ∷ []) (sym c.split_at.ensures.front)
