use Rattle.std.proofs.Common.{◌≡◌, length, map, []}
use Rattle.std.specs.String.{string_bytes}
use Rattle.away_trees.specs.declared.schemas.TableSchema.{TableSchema}
use Rattle.away_names.proofs.Doubles.{doubled_behind}
use Rattle.away_names.proofs.schema_names.tables_doubled.Given as goal

abbrev pub invariant-loop-rest : goal.invariant-loop-rest
invariant-loop-rest l =
    doubled_behind [] (map (λ (x : TableSchema). x.name) l.tables) ≡ doubled_behind (map string_bytes l.seen.keys) (map (λ (x : TableSchema). x.name) l.rest)

abbrev pub decreases-loop-rest : goal.decreases-loop-rest
decreases-loop-rest l = length l.rest
