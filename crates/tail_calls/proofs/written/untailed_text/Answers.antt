use Rattle.std.proofs.Common.{◌∙◌, string_bytes}
use Rattle.tail_calls.proofs.Texts.{text_of}
use Rattle.tail_calls.proofs.written.untailed_text.Goals as goal

pub returns : goal.returns
returns c = text_of string_bytes c.args.s.now c.args.f.now c.in_ok-untailed.field-0 c.get.result.now c.print_function.result c.in_ok-untailed.ensures (c.get.ensures ∙ c.in_ok-tree.ensures) c.print_function.ensures.text
