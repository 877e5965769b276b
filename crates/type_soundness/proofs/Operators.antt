-- The values of operators are of the kinds that the typing gives them.
use Rattle.std.proofs.Common.{◌≡◌, refl, sym, subst, Bool, true, false, not, ◌&&◌, ◌||◌, List, [], ◌∷◌, ◌++◌, Ok, Err}
use Rattle.std.proofs.lemmas.Bool.{false≢true}
use Rattle.std.specs.Prelude.{ℤ, pos, negsuc, ◌^◌, nat_lt, if◌then◌else◌, nat_le, sum_by, codes}
use Rattle.away_values.specs.declared.types.Ty.{Ty}
use Rattle.away_values.specs.declared.types.Ty.TheVariants as ty
use Rattle.away_values.specs.declared.values.Class.{Class}
use Rattle.away_values.specs.declared.values.Value.{Value}
use Rattle.away_values.specs.declared.values.Value.TheVariants as val
use Rattle.away_values.specs.declared.operators.ChainOp.{ChainOp}
use Rattle.away_values.specs.declared.operators.ChainOp.TheVariants as chain
use Rattle.away_values.specs.declared.operators.CmpOp.{CmpOp}
use Rattle.away_values.specs.declared.operators.CmpOp.TheVariants as cmp
use Rattle.away_values.specs.Operators as op
use Rattle.away_values.specs.Operators.{literal_type}
use Rattle.away_values.specs.Results.{Or, and_then, mapped, class}
use Rattle.away_values.specs.Words.{longest_text}
use Rattle.away_values.proofs.Typing.{are_typed}
use Rattle.away_typing.specs.declared.kind.Kind.{Kind}
use Rattle.away_typing.specs.declared.kind.Kind.TheVariants.{Null, Of, Sum, Wrong}
use Rattle.away_typing.specs.Kinds.{same, fits, is_right, is_number, are_integers}
use Rattle.away_typing.specs.Typing as typing
use Rattle.sql_meaning.specs.Parts as parts
use Rattle.type_soundness.specs.Sorts.{IsOf}
use Rattle.type_soundness.specs.TypedValues.{Holds}
use Rattle.type_soundness.proofs.KindRules.{only_if_holds, integer_is_number, same_is, sort_of}
use Rattle.type_soundness.proofs.Results.{then_of, mapped_of, ok_is}

pub typed_at : (t : Ty) (v w : Value) → v ≡ w → IsOf t w → IsOf t v
typed_at t v w e h = subst (λ x. IsOf t x) (sym e) h

-- the same of the one result that there is
pub typed_ok : (t : Ty) (v r : Value) → ◌≡◌ {A = Or Value} (Ok v) (Ok r) → IsOf t v → IsOf t r
typed_ok t v r e h = typed_at t r v (ok_is v r e) h

-- ---- truth

pub truth_of : (b : Bool) (x y : Value) → IsOf ty.Boolean x → IsOf ty.Boolean y → IsOf ty.Boolean (if b then x else y)
truth_of true x y h k = h
truth_of false x y h k = k

pub conjunction_typed : (a b : Value) → IsOf ty.Boolean (op.conjunction a b)
conjunction_typed a b =
    truth_of (op.is_false a || op.is_false b) (val.Bool false) (if op.is_true a && op.is_true b then val.Bool true else val.Null) tt
    (truth_of (op.is_true a && op.is_true b) (val.Bool true) val.Null tt tt)

pub disjunction_typed : (a b : Value) → IsOf ty.Boolean (op.disjunction a b)
disjunction_typed a b =
    truth_of (op.is_true a || op.is_true b) (val.Bool true) (if op.is_false a && op.is_false b then val.Bool false else val.Null) tt
    (truth_of (op.is_false a && op.is_false b) (val.Bool false) val.Null tt tt)

pub negation_typed : (a : Value) → IsOf ty.Boolean (op.negation a)
negation_typed val.Null = tt
negation_typed (val.Int n) = tt
negation_typed (val.Bool b) = tt
negation_typed (val.Text t) = tt

pub negation_if_typed : (b : Bool) (a : Value) → IsOf ty.Boolean a → IsOf ty.Boolean (op.negation_if b a)
negation_if_typed b a h = truth_of b (op.negation a) a (negation_typed a) h

pub compare_typed : (o : CmpOp) (a b : Value) → IsOf ty.Boolean (op.compare o a b)
compare_typed o a b = sort_of ty.Boolean (op.compare o a b) (are_typed.comparison o a b)

-- ---- chains

and_typed : (a r : Value) (right : Or Value) (b : Bool) → (if b then Ok (val.Bool false) else mapped (op.conjunction a) right) ≡ Ok r → IsOf ty.Boolean r
and_typed a r right true h = typed_ok ty.Boolean (val.Bool false) r h tt
and_typed a r right false h = let m = mapped_of (op.conjunction a) right r h in typed_at ty.Boolean r (op.conjunction a m.x) m.second (conjunction_typed a m.x)

or_typed : (a r : Value) (right : Or Value) (b : Bool) → (if b then Ok (val.Bool true) else mapped (op.disjunction a) right) ≡ Ok r → IsOf ty.Boolean r
or_typed a r right true h = typed_ok ty.Boolean (val.Bool true) r h tt
or_typed a r right false h = let m = mapped_of (op.disjunction a) right r h in typed_at ty.Boolean r (op.disjunction a m.x) m.second (disjunction_typed a m.x)

within_typed : (b : Bool) (t : List _) (r : Value) (c : Class) → ◌≡◌ {A = Or Value} (if b then Ok (val.Text t) else Err c) (Ok r) → IsOf ty.Text r
within_typed true t r c e = typed_ok ty.Text (val.Text t) r e tt
within_typed false t r c e = cc

written_typed : (t : List _) (r : Value) → op.text_within t ≡ Ok r → IsOf ty.Text r
written_typed t r e = within_typed (nat_le (sum_by op.bytes_of t) longest_text) t r (class (codes "54000")) e

concat_typed : (a b r : Value) → op.concat a b ≡ Ok r → IsOf ty.Text r
concat_typed val.Null b r e = typed_ok ty.Text val.Null r e tt
concat_typed (val.Int n) val.Null r e = typed_ok ty.Text val.Null r e tt
concat_typed (val.Bool n) val.Null r e = typed_ok ty.Text val.Null r e tt
concat_typed (val.Text n) val.Null r e = typed_ok ty.Text val.Null r e tt
concat_typed (val.Int n) (val.Int m) r e = written_typed (op.text_of_value (val.Int n) ++ op.text_of_value (val.Int m)) r e
concat_typed (val.Int n) (val.Bool m) r e = written_typed (op.text_of_value (val.Int n) ++ op.text_of_value (val.Bool m)) r e
concat_typed (val.Int n) (val.Text m) r e = written_typed (op.text_of_value (val.Int n) ++ op.text_of_value (val.Text m)) r e
concat_typed (val.Bool n) (val.Int m) r e = written_typed (op.text_of_value (val.Bool n) ++ op.text_of_value (val.Int m)) r e
concat_typed (val.Bool n) (val.Bool m) r e = written_typed (op.text_of_value (val.Bool n) ++ op.text_of_value (val.Bool m)) r e
concat_typed (val.Bool n) (val.Text m) r e = written_typed (op.text_of_value (val.Bool n) ++ op.text_of_value (val.Text m)) r e
concat_typed (val.Text n) (val.Int m) r e = written_typed (op.text_of_value (val.Text n) ++ op.text_of_value (val.Int m)) r e
concat_typed (val.Text n) (val.Bool m) r e = written_typed (op.text_of_value (val.Text n) ++ op.text_of_value (val.Bool m)) r e
concat_typed (val.Text n) (val.Text m) r e = written_typed (op.text_of_value (val.Text n) ++ op.text_of_value (val.Text m)) r e

pub pair_typed : (o : ChainOp) (k j : Kind) (a r : Value) (right : Or Value) → parts.pair o a right ≡ Ok r → Holds (typing.pair o k j) r
unfolding typing.pair
pair_typed chain.Or k j a r right e = only_if_holds (fits ty.Boolean k && fits ty.Boolean j) (Of ty.Boolean) r (λ s. or_typed a r right (op.is_true a) e)
pair_typed chain.And k j a r right e = only_if_holds (fits ty.Boolean k && fits ty.Boolean j) (Of ty.Boolean) r (λ s. and_typed a r right (op.is_false a) e)
pair_typed chain.Concat k j a r right e =
    only_if_holds ((fits ty.Text k || fits ty.Text j) && (is_right k && is_right j)) (Of ty.Text) r
    (λ s. let x = then_of right (op.concat a) r e in concat_typed a x.x r x.second)
pair_typed (chain.Int o) k j a r right e =
    only_if_holds (is_number k && (is_number j && not (are_integers k j))) (Of ty.Bigint) r
    (λ s. let x = then_of right (op.int_op o a) r e in sort_of ty.Bigint r (are_typed.arithmetic o a x.x r x.second))
pair_typed (chain.Small o) k j a r right e =
    only_if_holds (are_integers k j) (Of ty.Integer) r
    (λ s. let x = then_of right (λ b. and_then (op.int_op o a b) op.small) r e in
    let y = then_of (op.int_op o a x.x) op.small r x.second in
    sort_of ty.Integer r (are_typed.small_integer y.x r y.second))

-- ---- a literal

pub literal_typed : (n : ℤ) → IsOf (literal_type n) (val.Int n)
unfolding literal_type
literal_typed (negsuc n) = tt
literal_typed (pos n) = by (nat_lt n (2 ^ 31)) refl
  where
    by : (b : Bool) → nat_lt n (2 ^ 31) ≡ b → IsOf (if b then ty.Integer else ty.Bigint) (val.Int (pos n))
    by true h = h
    by false h = tt

-- ---- BETWEEN and IN

ends_typed : (v low r : Value) (high : Or Value) (b : Bool) → (if b then Ok (val.Bool false) else mapped (λ h. op.conjunction (op.compare cmp.Ge v low) (op.compare cmp.Le v h)) high) ≡ Ok r → IsOf ty.Boolean r
ends_typed v low r high true h = typed_ok ty.Boolean (val.Bool false) r h tt
ends_typed v low r high false h =
    let m = mapped_of (λ h. op.conjunction (op.compare cmp.Ge v low) (op.compare cmp.Le v h)) high r h in
    typed_at ty.Boolean r (op.conjunction (op.compare cmp.Ge v low) (op.compare cmp.Le v m.x)) m.second (conjunction_typed (op.compare cmp.Ge v low) (op.compare cmp.Le v m.x))

pub between_typed : (v low r : Value) (high : Or Value) → parts.between v low high ≡ Ok r → IsOf ty.Boolean r
between_typed v low r high h = ends_typed v low r high (op.is_false (op.compare cmp.Ge v low)) h

among_step : (b c : Bool) (rest : Value → Or Value) (so_far r : Value) → ((w : Value) → IsOf ty.Boolean w → rest w ≡ Ok r → IsOf ty.Boolean r) → IsOf ty.Boolean so_far → (if b then Ok (val.Bool true) else rest (if c then val.Null else so_far)) ≡ Ok r → IsOf ty.Boolean r
among_step true c rest so_far r more h e = typed_ok ty.Boolean (val.Bool true) r e tt
among_step false true rest so_far r more h e = more val.Null tt e
among_step false false rest so_far r more h e = more so_far h e

pub among_typed : (v : Value) (os : List (Or Value)) (so_far r : Value) → IsOf ty.Boolean so_far → parts.among v os so_far ≡ Ok r → IsOf ty.Boolean r
among_typed v [] so_far r h e = typed_ok ty.Boolean so_far r e h
among_typed v (o ∷ os) so_far r h e =
    let x = then_of o (λ w. if op.is_true (op.compare cmp.Eq v w) then Ok (val.Bool true) else parts.among v os (if op.is_null (op.compare cmp.Eq v w) then val.Null else so_far)) r e in
    among_step (op.is_true (op.compare cmp.Eq v x.x)) (op.is_null (op.compare cmp.Eq v x.x)) (parts.among v os) so_far r (λ w g e. among_typed v os w r g e) h x.second

-- ---- casts

of_null : (t : Ty) (r : Value) → op.cast t val.Null ≡ Ok r → IsOf t r
of_null ty.Bigint r e = typed_ok ty.Bigint val.Null r e tt
of_null ty.Boolean r e = typed_ok ty.Boolean val.Null r e tt
of_null ty.Text r e = typed_ok ty.Text val.Null r e tt
of_null ty.Integer r e = typed_ok ty.Integer val.Null r e tt

spelled : (v r : Value) → op.cast ty.Text v ≡ Ok r → IsOf ty.Text r
spelled val.Null r e = typed_ok ty.Text val.Null r e tt
spelled (val.Int n) r e = typed_ok ty.Text (val.Text (op.text_of_value (val.Int n))) r e tt
spelled (val.Bool b) r e = typed_ok ty.Text (val.Text (op.text_of_value (val.Bool b))) r e tt
spelled (val.Text t) r e = typed_ok ty.Text (val.Text (op.text_of_value (val.Text t))) r e tt

castable_typed : (to from : Ty) (v r : Value) → typing.castable from to ≡ true → IsOf from v → op.cast to v ≡ Ok r → IsOf to r
unfolding typing.castable same
castable_typed ty.Text from v r c h e = spelled v r e
castable_typed ty.Integer from v r c h e = sort_of ty.Integer r (are_typed.small_integer v r e)
castable_typed ty.Bigint ty.Bigint v r c h e = typed_ok ty.Bigint v r e h
castable_typed ty.Bigint ty.Integer v r c h e = typed_ok ty.Bigint v r e (integer_is_number v h)
castable_typed ty.Bigint ty.Boolean v r c h e = absurd (false≢true c)
castable_typed ty.Bigint ty.Text v r c h e = absurd (false≢true c)
castable_typed ty.Boolean from v r c h e = typed_ok ty.Boolean v r e (subst (λ t. IsOf t v) (same_is from ty.Boolean c) h)

pub cast_typed : (to : Ty) (k : Kind) (v r : Value) → Holds k v → op.cast to v ≡ Ok r → Holds (typing.cast_kind to k) r
unfolding typing.cast_kind
cast_typed to Null v r h e = of_null to r (subst (λ x. op.cast to x ≡ Ok r) h e)
cast_typed ty.Bigint Sum v r h e = typed_ok ty.Bigint v r e h
cast_typed ty.Boolean Sum v r h e = tt
cast_typed ty.Text Sum v r h e = tt
cast_typed ty.Integer Sum v r h e = tt
cast_typed to Wrong v r h e = tt
cast_typed to (Of from) v r h e = only_if_holds (typing.castable from to) (Of to) r (λ c. castable_typed to from v r c h e)
