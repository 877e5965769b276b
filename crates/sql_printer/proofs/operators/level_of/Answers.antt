use Rattle.std.proofs.Common.{◌∙◌}
use Rattle.sql_printer.proofs.PrintNodes.{chain_level_is}
use Rattle.sql_printer.proofs.operators.level_of.Goals as goal

pub returns-in-Chain : goal.returns-in-Chain
returns-in-Chain c = c.level_of_chain.ensures ∙ chain_level_is c.args.expr.now _ c.in-Chain.is c.as_slice.ensures
