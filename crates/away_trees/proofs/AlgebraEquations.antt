-- The equations of the recursion over queries, together.
use Rattle.std.proofs.Common.{refl}
use Rattle.away_trees.specs.Algebra.{Algebra}
use Rattle.away_trees.specs.AlgebraEquations.{Equations}
use Rattle.away_trees.proofs.Equations as eq

pub equations : (a : Algebra) → Equations a
equations a = record {
  int = eq.of_int a;
  str = eq.of_str a;
  bool = eq.of_bool a;
  null = eq.of_null a;
  named = eq.of_named a;
  qualified = eq.of_qualified a;
  slot = eq.of_slot a;
  column = eq.of_column a;
  param = eq.of_param a;
  neg = eq.of_neg a;
  neg_small = eq.of_negsmall a;
  not = eq.of_not a;
  is = eq.of_is a;
  chain = eq.of_chain a;
  compare = eq.of_compare a;
  between = eq.of_between a;
  one_of = eq.of_oneof a;
  cast = eq.of_cast a;
  cases = eq.of_cases a;
  call = eq.of_call a;
  count_rows = eq.of_countrows a;
  scalar = eq.of_scalar a;
  exists = eq.of_exists a;
  table = eq.of_table a;
  sub = eq.of_sub a;
  from = λ s alias columns. refl;
  item = λ e alias. refl;
  key = λ e descending. refl;
  select = eq.of_select a;
  recursive = eq.of_recursive a;
  query = eq.query_roll a;
}
