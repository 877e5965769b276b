use Rattle.std.proofs.Common.{◌≡◌, drop}
use Rattle.sql_meaning.specs.AtBound.{rows_of_tables}
use Rattle.sql_meaning.specs.Context.{outermost}
use Rattle.sql_meaning.specs.Gives.{after, each_of}
use Rattle.sql_meaning.specs.Selected.{value_at}
use Rattle.sql_eval.proofs.kept_rows.flags_at.Given as goal

abbrev pub invariant-loop-frame : goal.invariant-loop-frame
invariant-loop-frame l =
    each_of (value_at (outermost (rows_of_tables l.tables) l.args) l.test) l.frames
    ≡ after l.all (each_of (value_at (outermost (rows_of_tables l.tables) l.args) l.test) (drop l.frame-index l.frames))
