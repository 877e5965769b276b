use Rattle.std.proofs.Common.{◌∙◌, ap, drop}
use Rattle.std.proofs.lemmas.List.{take_rest}
use Rattle.away_lex.specs.declared.pieces.Class.TheVariants.{Name}
use Rattle.away_lex.specs.Pieces.{run}
use Rattle.away_lex.proofs.Quotes.{mark_len_is}
use Rattle.away_lex.proofs.function_file.mark_len.Goals as goal

pub returns : goal.returns
returns c = mark_len_is c.args.quote.now c.run.result c.requires (c.run.ensures.value ∙ ap (run Name) (take_rest c.as_bytes.result.now 1 ∙ ap (drop 1) c.as_bytes.ensures.value))
