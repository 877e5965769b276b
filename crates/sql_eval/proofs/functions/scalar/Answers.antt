use Rattle.std.proofs.Common.{◌≡◌, refl, ap, ◌<◌, List, [], ◌∷◌, length, Ok, arith}
use Rattle.away_values.specs.declared.values.Value.{Value}
use Rattle.away_values.specs.declared.values.Value.TheVariants as val
use Rattle.away_values.specs.Operators.{length_of, small, substr}
use Rattle.sql_meaning.specs.Context.{at}
use Rattle.sql_meaning.proofs.GivesRules.{gives_ok}
use Rattle.sql_eval.proofs.functions.scalar.Goals as goal

no_text : (vs : List Value) → length vs < 1 → length_of (at vs 0) ≡ val.Null
no_text [] h = refl
no_text (v ∷ vs) h = absurd (omega arith)

no_length : (v w : Value) → substr v w val.Null ≡ Ok val.Null
no_length (val.Text t) (val.Int p) = refl
no_length (val.Text t) (val.Bool p) = refl
no_length (val.Text t) (val.Text p) = refl
no_length (val.Text t) val.Null = refl
no_length (val.Int n) w = refl
no_length (val.Bool n) w = refl
no_length val.Null w = refl

no_part : (vs : List Value) → length vs < 3 → substr (at vs 0) (at vs 1) (at vs 2) ≡ Ok val.Null
no_part [] h = no_length val.Null val.Null
no_part (v ∷ []) h = no_length v val.Null
no_part (v ∷ w ∷ []) h = no_length v w
no_part (v ∷ w ∷ x ∷ vs) h = absurd (omega arith)

pub returns-in-empty : goal.returns-in-empty
returns-in-empty c = rw c.in-Length.is (gives_ok _ _ (ap small (no_text _ c.in-empty.len_below)))

pub returns-in_default-list : goal.returns-in_default-list
returns-in_default-list c = rw c.in-Substr.is (gives_ok _ _ (no_part _ c.in_default-list.len_below))
