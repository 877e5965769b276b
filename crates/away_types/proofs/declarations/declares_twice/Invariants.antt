use Rattle.std.proofs.Common.{◌≡◌, length, map}
use Rattle.away_trees.specs.declared.statements.Decl.{Decl}
use Rattle.away_names.specs.Lookups.{doubled}
use Rattle.away_types.proofs.declarations.declares_twice.Given as goal

abbrev pub invariant-loop-rest : goal.invariant-loop-rest
invariant-loop-rest l = doubled (map (λ (d : Decl). d.name) l.decls) ≡ doubled (map (λ (d : Decl). d.name) l.rest)

abbrev pub decreases-loop-rest : goal.decreases-loop-rest
decreases-loop-rest l = length l.rest
