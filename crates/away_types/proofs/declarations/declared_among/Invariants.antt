use Rattle.std.proofs.Common.{◌≡◌, drop, map}
use Rattle.away_trees.specs.declared.statements.Decl.{Decl}
use Rattle.away_names.specs.Lookups.{is_among}
use Rattle.away_types.proofs.declarations.declared_among.Given as goal

abbrev pub invariant-loop-d : goal.invariant-loop-d
invariant-loop-d l = is_among l.n (map (λ (d : Decl). d.name) l.decls) ≡ is_among l.n (map (λ (d : Decl). d.name) (drop l.d-index l.decls))
