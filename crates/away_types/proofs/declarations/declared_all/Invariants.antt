use Rattle.std.proofs.Common.{◌≡◌, drop, fold}
use Rattle.away_names.specs.Places.{scope}
use Rattle.away_types.specs.Statements.{declared_all, with_declared}
use Rattle.away_types.proofs.declarations.declared_all.Given as goal

abbrev pub invariant-loop-d : goal.invariant-loop-d
invariant-loop-d l =
    declared_all l.decls (scope l.s) l.fn.slots ≡ fold (with_declared (scope l.s)) (record { it = l.done; variables = l.variables; note = l.note; slots = l.so_far }) (drop l.d-index l.decls)
