-- An expression that is converted to the type that its place asks for.
use Rattle.std.proofs.Common.{◌≡◌, refl, ap, sym, ◌∙◌, Bool, true, false, ◌||◌, if◌then◌else◌, Ok, Err}
use Rattle.std.proofs.lemmas.Bool.{false≢true}
use Rattle.away_values.specs.declared.types.Ty.{Ty}
use Rattle.away_values.specs.declared.types.Ty.TheVariants.{Bigint, Boolean, Text, Integer}
use Rattle.away_values.specs.declared.values.Value.{Value}
use Rattle.away_values.specs.Operators.{cast}
use Rattle.away_values.specs.Results.{Or, and_then}
use Rattle.away_trees.specs.declared.queries.Expr.{Expr}
use Rattle.away_trees.specs.declared.queries.Expr.TheVariants as expr
use Rattle.away_trees.specs.Algebra.{expr_of}
use Rattle.away_trees.proofs.Equations as eq
use Rattle.away_typing.specs.declared.kind.Kind.{Kind}
use Rattle.away_typing.specs.declared.kind.Kind.TheVariants.{Null, Of, Sum, Wrong}
use Rattle.away_typing.specs.Kinds.{fits, same, only_if}
use Rattle.away_typing.specs.Typing.{Places, castable, typing, cast_kind}
use Rattle.sql_meaning.specs.Context.{Context}
use Rattle.sql_meaning.specs.Meaning.{meaning, value}
use Rattle.sql_meaning.specs.Reads.{reading, reads}
use Rattle.elaboration.specs.Elaborating.{MadeExpr, elaborating, elaborated}
use Rattle.elaboration.specs.Converting.{assignable, converts, converted_to, with_cast}
use Rattle.elaboration_law.specs.ConvertingLaws.{Conversions, ConversionValues}
use Rattle.elaboration_law.proofs.Plain.{same_expr}
use Rattle.elaboration_law.proofs.Typed.{kind_is}
use Rattle.elaboration_law.proofs.Unmarked.{elaborating_blind}

-- a conversion gives the type
cast_fits : (t : Ty) (k : Kind) → converts t k ≡ true → fits t (cast_kind t k) ≡ true
unfolding converts cast_kind castable only_if fits same
cast_fits Integer (Of Bigint) h = refl
cast_fits Bigint (Of Integer) h = refl
cast_fits Integer (Of Integer) h = absurd (false≢true h)
cast_fits Integer (Of Boolean) h = absurd (false≢true h)
cast_fits Integer (Of Text) h = absurd (false≢true h)
cast_fits Integer Null h = absurd (false≢true h)
cast_fits Integer Sum h = absurd (false≢true h)
cast_fits Integer Wrong h = absurd (false≢true h)
cast_fits Bigint (Of Bigint) h = absurd (false≢true h)
cast_fits Bigint (Of Boolean) h = absurd (false≢true h)
cast_fits Bigint (Of Text) h = absurd (false≢true h)
cast_fits Bigint Null h = absurd (false≢true h)
cast_fits Bigint Sum h = absurd (false≢true h)
cast_fits Bigint Wrong h = absurd (false≢true h)
cast_fits Boolean k h = absurd (false≢true h)
cast_fits Text k h = absurd (false≢true h)

left_if : (a b : Bool) → (a || b) ≡ true → b ≡ false → a ≡ true
left_if true b h k = refl
left_if false b h k = absurd (false≢true (sym k ∙ h))

module _ (t : Ty) (p : Places) (m : MadeExpr) (typed : expr_of typing m.it p ≡ m.kind) where
  has_type : (b : Bool) → converts t m.kind ≡ b → assignable t m.kind ≡ true → fits t (expr_of typing (with_cast t m) p) ≡ true
  unfolding assignable
  has_type true e h =
      ap (λ b. fits t (expr_of typing (if b then expr.Cast m.it t else m.it) p)) e
      ∙ ap (λ f. fits t (f p)) (eq.of_cast typing m.it t) ∙ ap (λ k. fits t (cast_kind t k)) typed ∙ cast_fits t m.kind e
  has_type false e h =
      ap (λ b. fits t (expr_of typing (if b then expr.Cast m.it t else m.it) p)) e ∙ ap (fits t) typed ∙ left_if (fits t m.kind) (converts t m.kind) h e

reads_cast : (b : Bool) (t : Ty) (e : Expr) → reads (if b then expr.Cast e t else e) ≡ reads e
reads_cast true t e = ap (λ r. r 0) (eq.of_cast reading e t)
reads_cast false t e = refl

pub conversions : Conversions
unfolding converted_to elaborated
conversions t p e =
    let m = expr_of elaborating e p in
    record {
      has_type = has_type t p m (kind_is p e) (converts t m.kind) refl;
      from_plain = ap (λ f. with_cast t (f p)) (same_expr elaborating elaborating_blind e);
      reads_are = reads_cast (converts t m.kind) t m.it;
      stays = λ h. ap (λ b. if b then expr.Cast m.it t else m.it) h;
    }

bigint_value : (b : Bool) (e : Expr) (cx : Context) → value (if b then expr.Cast e Bigint else e) cx ≡ value e cx
bigint_value true e cx = ap (λ m. m.value cx) (eq.of_cast meaning e Bigint) ∙ same_or (value e cx)
  where
    same_or : (o : Or Value) → and_then o (cast Bigint) ≡ o
    same_or (Ok v) = refl
    same_or (Err c) = refl
bigint_value false e cx = refl

pub conversion_values : ConversionValues
unfolding converted_to elaborated
conversion_values p e cx =
    let m = expr_of elaborating e p in
    record {
      to_bigint = bigint_value (converts Bigint m.kind) m.it cx;
      to_integer = λ h. ap (λ b. value (if b then expr.Cast m.it Integer else m.it) cx) h ∙ ap (λ x. x.value cx) (eq.of_cast meaning m.it Integer);
    }
