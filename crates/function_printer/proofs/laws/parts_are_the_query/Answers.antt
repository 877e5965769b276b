use Rattle.function_printer.proofs.PartTexts.{parts_are}
use Rattle.function_printer.proofs.laws.parts_are_the_query.Goals as goal

pub returns : goal.returns
returns c = λ q. parts_are q
