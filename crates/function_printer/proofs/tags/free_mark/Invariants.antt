use Rattle.std.proofs.Common.{◌≡◌, ◌-◌, length}
use Rattle.function_printer.specs.Tags.{first_free}
use Rattle.function_printer.proofs.tags.free_mark.Given as goal

abbrev pub invariant-loop-number : goal.invariant-loop-number
invariant-loop-number l = first_free (length l.text - l.number) l.number l.text ≡ first_free (length l.text) 0 l.text
