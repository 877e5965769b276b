use Rattle.broken_names.proofs.SingleNames.{name_here}
use Rattle.broken_names.proofs.single_names.broken_name.Goals as goal

pub returns-then-tells : goal.returns-then-tells
returns-then-tells c = name_here c.in_ok-note.ensures c.if-tells.ensures c.in_ok-copy.ensures
