use Rattle.broken_names.proofs.SingleNames.{column_here}
use Rattle.broken_names.proofs.single_names.broken_column.Goals as goal

pub returns-then-tells : goal.returns-then-tells
returns-then-tells c = column_here c.in_ok-note.ensures c.if-tells.ensures c.in_ok-item.ensures c.in_ok-copy.ensures
