use Rattle.std.proofs.Common.{◌≡◌, ◌+◌, ℕ, List, length, None}
use Rattle.indexmap.specs.IndexMap.{get_by_text}
use Rattle.away_names.specs.Tables.{found_from}
use Rattle.away_names.proofs.tables.tables_of.Given as goal

abbrev pub invariant-loop-rest : goal.invariant-loop-rest
invariant-loop-rest l = record {
  reads : (n : List ℕ) → found_from n 0 None l.initial.rest ≡ found_from n l.place (get_by_text l.tables n) l.rest;
  counts : l.place + length l.rest ≡ length l.initial.rest;
}

abbrev pub decreases-loop-rest : goal.decreases-loop-rest
decreases-loop-rest l = length l.rest
