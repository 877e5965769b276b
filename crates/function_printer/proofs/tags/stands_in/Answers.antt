use Rattle.std.proofs.lemmas.Str.Pattern.{contains_text}
use Rattle.function_printer.proofs.FreeSearch.{stands_so}
use Rattle.function_printer.proofs.tags.stands_in.Goals as goal

pub returns : goal.returns
returns c =
    stands_so c.contains.result c.args.mark.now c.args.text.now
    (contains_text c.contains.result c.args.mark.now c.args.text.now c.contains.ensures.cases)
