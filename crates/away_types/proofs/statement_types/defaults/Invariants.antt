use Rattle.std.proofs.Common.{◌≡◌, drop, fold}
use Rattle.away_trees.specs.declared.statements.Decl.{Decl}
use Rattle.away_names.specs.Notes.{joined}
use Rattle.away_types.specs.AskedBy.{asked_by}
use Rattle.away_types.specs.StatementTypes as t
use Rattle.away_types.proofs.statement_types.defaults.Given as goal

abbrev pub invariant-loop-d : goal.invariant-loop-d
invariant-loop-d l =
    t.defaults l.decls (asked_by l.a) ≡ fold (λ n (d : Decl). joined n (t.maybe_asked (asked_by l.a) d.ty d.default)) l.note (drop l.d-index l.decls)
