use Rattle.away_lex.proofs.Quotes.{last_cut, first_cut, inside_is}
use Rattle.away_lex.proofs.function_file.inside.Goals as goal

pub split-requires : goal.split-requires
split-requires c = last_cut c.args.quote.now c.mark_len-mark.result c.mark_len-mark.ensures

pub split-requires-2 : goal.split-requires-2
split-requires-2 c = first_cut c.args.quote.now c.mark_len-mark.result c.mark_len-mark.ensures c.split.result.0.now c.split.ensures.front

pub returns : goal.returns
returns c = inside_is c.args.quote.now c.mark_len-mark.result c.mark_len-mark.ensures c.split.result.0.now c.split-2.result.1.now c.split.ensures.front c.split-2.ensures.back
