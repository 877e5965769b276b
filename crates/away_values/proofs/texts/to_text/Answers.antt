use Rattle.std.proofs.Common.{◌≡◌, refl, sym, ◌∙◌, ap, ◌++◌, chars}
use Rattle.std.specs.Prelude.{Ok}
use Rattle.std.proofs.lemmas.Str.{chars-nil}
use Rattle.away_values.specs.Operators.{cast, text_of_value}
use Rattle.away_values.specs.declared.values.Value.{Value}
use Rattle.away_values.specs.declared.values.Value.TheVariants as val
use Rattle.away_values.specs.declared.types.Ty.TheVariants as ty
use Rattle.away_values.proofs.texts.to_text.Goals as goal

cast-there : (v : Value) → (v ≡ val.Null → ⊥) → cast ty.Text v ≡ Ok (val.Text (text_of_value v))
cast-there val.Null h = absurd (h refl)
cast-there (val.Int n) h = refl
cast-there (val.Bool b) h = refl
cast-there (val.Text t) h = refl

pub returns-in_ok-push_spelling-in_default : goal.returns-in_ok-push_spelling-in_default
returns-in_ok-push_spelling-in_default c = cast-there c.args.v.now c.in_default.not-Null ∙ ap (λ t. Ok (val.Text t)) (sym (c.from_string.ensures ∙ c.in_ok-push_spelling-in_default.ensures.written ∙ ap (λ t. chars t ++ text_of_value c.args.v.now) c.new-text.ensures.bytes ∙ ap (λ t. t ++ text_of_value c.args.v.now) chars-nil))
