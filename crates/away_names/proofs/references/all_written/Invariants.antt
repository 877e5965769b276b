use Rattle.std.proofs.Common.{◌≡◌, drop, fold}
use Rattle.away_names.specs.Notes.{joined}
use Rattle.away_names.specs.Naming.{all_written, written}
use Rattle.away_names.specs.Places.{scope}
use Rattle.away_names.proofs.references.all_written.Given as goal

abbrev pub invariant-loop-n : goal.invariant-loop-n
invariant-loop-n l = all_written (scope l.s) l.names ≡ fold (λ a n. joined a (written (scope l.s) n)) l.note (drop l.n-index l.names)
