use Rattle.std.proofs.Common.{refl}
use Rattle.away_typing.specs.Kinds.{same, only_if, fits, is_right, settled, are_integers, is_number, is_integer, meet, meet_types, sum_kind}
use Rattle.away_typing.specs.Typing.{is_ordered, castable, pair, cast_kind, call_kind, both}
use Rattle.away_values.specs.Operators.{literal_type}
use Rattle.elaboration.specs.Marks.{marked_op}
use Rattle.elaboration_law.proofs.laws.integers_have_their_kinds.Goals as goal

pub returns-clause-arithmetic : goal.returns-clause-arithmetic
unfolding are_integers is_number is_integer only_if same marked_op pair meet meet_types castable sum_kind cast_kind call_kind settled fits is_right is_ordered both literal_type
returns-clause-arithmetic c op = record {
  integers = (refl, refl, refl);
  integer_null = (refl, refl, refl);
  null_integer = (refl, refl, refl);
  nulls = (refl, refl, refl);
  bigints = (refl, refl, refl);
  integer_bigint = (refl, refl, refl);
  bigint_integer = (refl, refl, refl);
  bigint_null = (refl, refl, refl);
  null_bigint = (refl, refl, refl);
  integer_text = (refl, refl, refl);
  text_bigint = (refl, refl, refl);
  sum_integer = (refl, refl, refl);
}

pub returns-clause-minus : goal.returns-clause-minus
unfolding are_integers is_number is_integer only_if same marked_op pair meet meet_types castable sum_kind cast_kind call_kind settled fits is_right is_ordered both literal_type
returns-clause-minus c e = record {
  of_integer = refl;
  of_bigint = refl;
  of_null = refl;
  of_text = refl;
  of_sum = refl;
}

pub returns-clause-common : goal.returns-clause-common
unfolding are_integers is_number is_integer only_if same marked_op pair meet meet_types castable sum_kind cast_kind call_kind settled fits is_right is_ordered both literal_type
returns-clause-common c = record {
  integers = refl;
  integer_bigint = refl;
  bigint_integer = refl;
  bigints = refl;
  null_integer = refl;
  integer_null = refl;
  integer_text = refl;
  three = refl;
  coalesce = refl;
  coalesce_both = refl;
  greatest = refl;
  nulls = refl;
  union = refl;
  not_union = refl;
}

pub returns-clause-casts : goal.returns-clause-casts
unfolding are_integers is_number is_integer only_if same marked_op pair meet meet_types castable sum_kind cast_kind call_kind settled fits is_right is_ordered both literal_type
returns-clause-casts c = record {
  integer_to_bigint = refl;
  bigint_to_integer = refl;
  integer_to_integer = refl;
  integer_to_text = refl;
  integer_to_boolean = refl;
  boolean_to_integer = refl;
  text_to_integer = refl;
  null_to_integer = refl;
  sum_to_bigint = refl;
  sum_to_integer = refl;
}

pub returns-clause-calls : goal.returns-clause-calls
unfolding are_integers is_number is_integer only_if same marked_op pair meet meet_types castable sum_kind cast_kind call_kind settled fits is_right is_ordered both literal_type
returns-clause-calls c = record {
  length = refl;
  substr = refl;
  substr_null = refl;
  count = refl;
  min_of_integer = refl;
  max_of_bigint = refl;
  sum_of_integer = refl;
  sum_of_bigint = refl;
  sum_of_null = refl;
  sum_of_text = refl;
}

pub returns-clause-literals : goal.returns-clause-literals
unfolding are_integers is_number is_integer only_if same marked_op pair meet meet_types castable sum_kind cast_kind call_kind settled fits is_right is_ordered both literal_type
returns-clause-literals c = record {
  zero_ = refl;
  greatest_integer = refl;
  first_bigint = refl;
  greatest_bigint = refl;
  least_bigint = refl;
}
