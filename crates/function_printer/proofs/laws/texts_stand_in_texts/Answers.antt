use Rattle.std.proofs.Common.{ap, ◌∙◌}
use Rattle.function_printer.specs.Tags.{stands_in}
use Rattle.function_printer.proofs.FreeSearch.{behind_stands, stands_somewhere}
use Rattle.function_printer.proofs.laws.texts_stand_in_texts.Goals as goal

pub returns : goal.returns
returns c = λ mark text. (stands_somewhere mark text, λ stands. ap (stands_in mark) stands.2 ∙ behind_stands mark stands.0 stands.1)
