use Rattle.std.proofs.Common.{sym}
use Rattle.sql_text.proofs.Whole.{parted_last}
use Rattle.sql_text.proofs.files.parted.Goals as goal

pub returns-else-is_empty : goal.returns-else-is_empty
returns-else-is_empty c = rw c.in_ok-second.ensures (sym (parted_last _ _ (λ e. absurd (cc (c.if-is_empty.ensures.1 e)))))
