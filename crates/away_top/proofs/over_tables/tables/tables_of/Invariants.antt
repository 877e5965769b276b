use Rattle.away_top.proofs.TableSteps.{ReadTo}
use Rattle.away_top.proofs.over_tables.tables.tables_of.Given as goal

abbrev pub invariant-loop-i : goal.invariant-loop-i
invariant-loop-i g l = ReadTo g.F.Files l.dir l.tables l.fn.files l.files l.i l.list
