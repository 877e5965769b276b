-- ORDER BY sorts the rows behind their keys.
use Rattle.std.proofs.Common.{◌≡◌, refl, ap, List, ◌∷◌, map, Ok}
use Rattle.sql_meaning.specs.Context.{Context, Frame, Rows}
use Rattle.sql_meaning.specs.Expressions.{KeyMeaning}
use Rattle.sql_meaning.specs.Ordered.{Keyed, IsSorted, IsOrdered, keyed}
use Rattle.sql_meaning.specs.Selects.{comes_before, ordered, sorted}
use Rattle.away_values.specs.Results.{mapped}
use Rattle.sql_meaning.proofs.Sorting.{same_rows, in_order, stable}
use Rattle.sql_meaning.proofs.KeyOrders.{keys_in_order}

pub sorted_by_keys : (keys : List KeyMeaning) (xs : List Keyed) → IsSorted (comes_before keys) xs (sorted (comes_before keys) xs)
sorted_by_keys keys xs = record {
  same = λ test. same_rows (comes_before keys) test xs;
  in_order = in_order (comes_before keys) (keys_in_order keys) xs;
  stable = λ ks. stable (comes_before keys) (keys_in_order keys) ks xs;
}

pub ordered_is : (cx : Context) (key : KeyMeaning) (more : List KeyMeaning) (frames : List Frame) (rows : Rows) (old : List Keyed) → keyed cx (key ∷ more) frames rows ≡ Ok old → IsOrdered (key ∷ more) old (ordered cx (key ∷ more) frames rows)
ordered_is cx key more frames rows old h =
    (sorted (comes_before (key ∷ more)) old, sorted_by_keys (key ∷ more) old, ap (mapped (λ xs. map (λ (x : Keyed). x.1) (sorted (comes_before (key ∷ more)) xs))) h)
