use Rattle.std.proofs.Common.{◌≡◌, drop}
use Rattle.std.specs.List.{position_from}
use Rattle.std.specs.Str.{bytes_eq}
use Rattle.away_trees.specs.declared.schemas.TableSchema.{TableSchema}
use Rattle.away_top.proofs.batch.place_of.Given as goal

abbrev pub invariant-loop-table : goal.invariant-loop-table
invariant-loop-table l = (position_from (λ (t : TableSchema). bytes_eq t.name l.name) 0 l.tables ≡ position_from (λ (t : TableSchema). bytes_eq t.name l.name) l.i (drop l.table-index l.tables)) × (l.i ≡ l.table-index)
