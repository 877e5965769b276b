use Rattle.std.proofs.Common.{refl}
use Rattle.sql_meaning.proofs.SortedRows.{sorted_by_keys, ordered_is}
use Rattle.sql_meaning.proofs.laws.sorting_is_stable.Goals as goal

pub returns-clause-sorted : goal.returns-clause-sorted
returns-clause-sorted c = sorted_by_keys

pub returns-clause-rows : goal.returns-clause-rows
returns-clause-rows c = ordered_is

pub returns-clause-no_key : goal.returns-clause-no_key
returns-clause-no_key c = λ cx frames rows. refl
