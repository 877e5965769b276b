use Rattle.std.proofs.Common.{◌≡◌, drop}
use Rattle.cte_parts.specs.Columns.{column_beside}
use Rattle.cte_parts.proofs.columns.beside.Given as goal

abbrev pub invariant-loop-i : goal.invariant-loop-i
invariant-loop-i l = column_beside l.slots l.columns l.other l.slot ≡ column_beside (drop l.i l.slots) (drop l.i l.columns) l.other l.slot
