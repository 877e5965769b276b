use Rattle.std.proofs.Common.{◌∙◌, string_bytes}
use Rattle.expanding.proofs.Texts.{text_of}
use Rattle.expanding.proofs.written.expanded_text.Goals as goal

pub returns : goal.returns
returns c = text_of string_bytes c.args.s.now c.args.fs.now c.in_ok-expanded.field-0 c.get.result.now c.print_function.result c.in_ok-expanded.ensures (c.get.ensures ∙ c.in_ok-tree.ensures) c.print_function.ensures.text
