use Rattle.away_grammar.specs.Printing.{query_terminals}
use Rattle.cte_prints.proofs.PrintedNests.{prints_nested}
use Rattle.cte_prints.proofs.WithinRoom.{terminals_within}
use Rattle.cte_prints.proofs.nesting.printed_terminals_nest_within_the_depth.Goals as goal

pub returns : goal.returns
returns c = λ d ts q rest h. terminals_within (query_terminals q) (prints_nested h)
