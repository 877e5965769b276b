use Rattle.std.proofs.Common.{length, sym}
use Rattle.function_printer.specs.Tags.{first_free}
use Rattle.function_printer.proofs.FreeSearch.{earlier_marks_stand, free_mark_is}
use Rattle.function_printer.proofs.TagsFree.{stands_nowhere}
use Rattle.function_printer.proofs.laws.marks_are_free.Goals as goal

pub returns-clause-free : goal.returns-clause-free
returns-clause-free c = λ text h. stands_nowhere text h

pub returns-clause-first : goal.returns-clause-first
returns-clause-first c = λ text. (first_free (length text) 0 text, sym (free_mark_is text), earlier_marks_stand text)
