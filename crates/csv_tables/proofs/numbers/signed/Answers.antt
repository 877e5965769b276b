use Rattle.std.proofs.Common.{◌∙◌}
use Rattle.csv_tables.proofs.BigintParses.{parsed}
use Rattle.csv_tables.proofs.numbers.signed.Goals as goal

pub returns : goal.returns
returns c = c.ok.ensures.value ∙ parsed c.args.text.now _ c.from_str_radix.ensures.value
