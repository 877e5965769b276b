-- What a field writes, by whether it is `\N` and by the type.
use Rattle.std.proofs.Common.{◌≡◌, refl, ap, true, false, List, ℕ}
use Rattle.std.specs.Prelude.{Some, if◌then◌else◌, option_map}
use Rattle.away_values.specs.declared.values.Value.TheVariants as val
use Rattle.away_values.specs.declared.types.Ty.{Ty}
use Rattle.away_values.specs.declared.types.Ty.TheVariants as ty
use Rattle.away_values.specs.BigintSpellings.{bigint_of}
use Rattle.csv_tables.specs.Cells.{integer_of, is_null_mark, text_of, there_of, truth_of, value_of}

pub null_value : (t : Ty) (f : List ℕ) → is_null_mark f ≡ true → value_of t f ≡ Some val.Null
unfolding value_of
null_value t f h = ap (λ b. if b then Some val.Null else there_of t f) h

pub there_value : (t : Ty) (f : List ℕ) → is_null_mark f ≡ false → value_of t f ≡ there_of t f
unfolding value_of
there_value t f h = ap (λ b. if b then Some val.Null else there_of t f) h

pub there_bigint : (f : List ℕ) → there_of ty.Bigint f ≡ option_map val.Int (bigint_of f)
unfolding there_of
there_bigint f = refl

pub there_integer : (f : List ℕ) → there_of ty.Integer f ≡ integer_of f
unfolding there_of
there_integer f = refl

pub there_boolean : (f : List ℕ) → there_of ty.Boolean f ≡ option_map val.Bool (truth_of f)
unfolding there_of
there_boolean f = refl

pub there_text : (f : List ℕ) → there_of ty.Text f ≡ option_map val.Text (text_of f)
unfolding there_of
there_text f = refl

pub ruleset cell_facts = (null_value, there_value, there_bigint, there_integer, there_boolean, there_text)
