use Rattle.std.proofs.Common.{true, sym, ap, ◌∙◌}
use Rattle.away_values.specs.declared.operators.IsTest.TheVariants as test
use Rattle.sql_meaning.specs.Trees.{col}
use Rattle.cte_reads.specs.Puts.{expr_put, condition}
use Rattle.cte_reads.proofs.OneByOne.{then_reads, as_reads}
use Rattle.cte_reads.proofs.TreeEvents.{is_events}
use Rattle.cte_reads.proofs.parts.condition.Goals as goal

pub returns-in-No : goal.returns-in-No
returns-in-No c =
    as_reads (λ rest. is_events (col 2 c.in-No.item 0) test.True true rest ∙ ap (λ g. expr_put (condition g) rest) (sym c.in-No.is))
    (then_reads c.open-at.ensures (then_reads c.column-in-No.ensures c.close.ensures))
