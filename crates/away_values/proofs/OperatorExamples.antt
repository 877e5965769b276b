-- Worked examples of the operators' definitions, which the checker computes.
use Rattle.std.proofs.Common.{◌≡◌, refl, true, false, List, ℕ, [], ◌∷◌, ℤ, pos, negsuc}
use Rattle.std.specs.Prelude.{Ok, Err, Some, None, codes}
use Rattle.std.specs.Fmt.{digits}
use Rattle.away_values.specs.declared.values.Value.TheVariants as val
use Rattle.away_values.specs.declared.operators.IntOp.TheVariants as int
use Rattle.away_values.specs.declared.operators.CmpOp.TheVariants as cmp
use Rattle.away_values.specs.Operators.{int_op, compare, conjunction, disjunction, concat, substr, small, extreme}
use Rattle.away_values.specs.Results.{class}
use Rattle.away_values.specs.BigintSpellings.{bigint_of}

abbrev least : ℤ
least = negsuc 9223372036854775807

abbrev greatest : ℤ
greatest = pos 9223372036854775807

-- the text héllo
abbrev hello : List ℕ
hello = 104 ∷ 233 ∷ 108 ∷ 108 ∷ 111 ∷ []

least_by_minus_one : int_op int.Div (val.Int least) (val.Int (negsuc 0)) ≡ Err (class (codes "22003"))
least_by_minus_one = refl

least_rest_by_minus_one : int_op int.Rem (val.Int least) (val.Int (negsuc 0)) ≡ Ok (val.Int (pos 0))
least_rest_by_minus_one = refl

rest_has_the_sign_of_the_dividend : int_op int.Rem (val.Int (negsuc 6)) (val.Int (pos 2)) ≡ Ok (val.Int (negsuc 0))
rest_has_the_sign_of_the_dividend = refl

null_by_zero : int_op int.Div val.Null (val.Int (pos 0)) ≡ Ok val.Null
null_by_zero = refl

one_more_than_the_greatest : int_op int.Add (val.Int greatest) (val.Int (pos 1)) ≡ Err (class (codes "22003"))
one_more_than_the_greatest = refl

shorter_text_first : compare cmp.Lt (val.Text (codes "a")) (val.Text (codes "ab")) ≡ val.Bool true
shorter_text_first = refl

unknown_and_false : conjunction val.Null (val.Bool false) ≡ val.Bool false
unknown_and_false = refl

unknown_or_false : disjunction val.Null (val.Bool false) ≡ val.Null
unknown_or_false = refl

part_from_before_the_text : substr (val.Text hello) (val.Int (negsuc 0)) (val.Int (pos 4)) ≡ Ok (val.Text (104 ∷ 233 ∷ []))
part_from_before_the_text = refl

part_of_negative_length : substr (val.Text hello) (val.Int (pos 1)) (val.Int (negsuc 0)) ≡ Err (class (codes "22011"))
part_of_negative_length = refl

part_far_beyond_the_text : substr (val.Text hello) (val.Int greatest) (val.Int greatest) ≡ Ok (val.Text [])
part_far_beyond_the_text = refl

text_and_number : concat (val.Text (codes "a")) (val.Int (negsuc 11)) ≡ Ok (val.Text (codes "a-12"))
unfolding digits
text_and_number = refl

beyond_32_bits : small (val.Int (pos 2147483648)) ≡ Err (class (codes "22003"))
beyond_32_bits = refl

greatest_ignores_null : extreme true val.Null (val.Int (pos 3)) ≡ val.Int (pos 3)
greatest_ignores_null = refl

spelling_with_a_sign : bigint_of (codes "-12") ≡ Some (negsuc 11)
spelling_with_a_sign = refl

spelling_out_of_range : bigint_of (codes "+9223372036854775808") ≡ None
spelling_out_of_range = refl

sign_alone : bigint_of (codes "-") ≡ None
sign_alone = refl
