-- What values of kinds are: the kinds of operands, of what is chosen among several, and of columns.
use Rattle.std.proofs.Common.{◌≡◌, refl, sym, subst, Bool, true, false, List, [], ◌∷◌}
use Rattle.std.specs.Prelude.{fold}
use Rattle.away_values.specs.declared.types.Ty.{Ty}
use Rattle.away_values.specs.declared.types.Ty.TheVariants as ty
use Rattle.away_values.specs.declared.values.Value.{Value}
use Rattle.away_values.specs.declared.values.Value.TheVariants as val
use Rattle.away_values.specs.Values.{HasType, IsValue}
use Rattle.away_typing.specs.declared.kind.Kind.{Kind}
use Rattle.away_typing.specs.declared.kind.Kind.TheVariants.{Null, Of, Sum, Wrong}
use Rattle.away_typing.specs.Kinds.{same, only_if, meet, meet_types, fits, is_right, settled, type_of}
use Rattle.type_soundness.specs.Sorts.{IsOf}
use Rattle.type_soundness.specs.TypedValues.{Holds}

pub holds_null : (k : Kind) → Holds k val.Null
holds_null Null = refl
holds_null (Of t) = tt
holds_null Sum = tt
holds_null Wrong = tt

-- the same of another value
pub holds_at : (k : Kind) (v w : Value) → v ≡ w → Holds k w → Holds k v
holds_at k v w e h = subst (λ x. Holds k x) (sym e) h

pub typed_null : (t : Ty) (v : Value) → v ≡ val.Null → IsOf t v
typed_null t v e = subst (λ x. IsOf t x) (sym e) tt

pub same_is : (t u : Ty) → same t u ≡ true → t ≡ u
unfolding same
same_is ty.Bigint ty.Bigint h = refl
same_is ty.Boolean ty.Boolean h = refl
same_is ty.Text ty.Text h = refl
same_is ty.Integer ty.Integer h = refl
same_is _ _ h = cc

pub typed_as : (t u : Ty) (v : Value) → same t u ≡ true → IsOf u v → IsOf t v
typed_as t u v h k = subst (λ x. IsOf x v) (sym (same_is t u h)) k

pub only_if_holds : (b : Bool) (k : Kind) (v : Value) → (b ≡ true → Holds k v) → Holds (only_if b k) v
unfolding only_if
only_if_holds true k v h = h refl
only_if_holds false k v h = tt

pub fits_typed : (t : Ty) (k : Kind) (v : Value) → fits t k ≡ true → Holds k v → IsOf t v
unfolding fits
fits_typed t Null v h k = typed_null t v k
fits_typed t (Of u) v h k = typed_as t u v h k
fits_typed t Sum v h k = cc
fits_typed t Wrong v h k = cc

-- an integer is a whole number
pub integer_is_number : (v : Value) → IsOf ty.Integer v → IsOf ty.Bigint v
integer_is_number val.Null h = tt
integer_is_number (val.Int n) h = tt
integer_is_number (val.Bool b) h = absurd h
integer_is_number (val.Text t) h = absurd h

-- ---- values

pub of_its_type : (t : Ty) (v : Value) → IsOf t v → IsValue v → HasType v t
of_its_type t val.Null h k = tt
of_its_type ty.Bigint (val.Int n) h k = k
of_its_type ty.Integer (val.Int n) h k = h
of_its_type ty.Boolean (val.Bool b) h k = tt
of_its_type ty.Text (val.Text s) h k = k
of_its_type _ _ h k = absurd h

pub sort_of : (t : Ty) (v : Value) → HasType v t → IsOf t v
sort_of t val.Null h = tt
sort_of ty.Bigint (val.Int n) h = tt
sort_of ty.Integer (val.Int n) h = h
sort_of ty.Boolean (val.Bool b) h = tt
sort_of ty.Text (val.Text s) h = tt
sort_of _ _ h = absurd h

-- ---- the common kind of several

types_left : (t u : Ty) (v : Value) → IsOf t v → Holds (meet_types t u) v
unfolding meet_types
types_left ty.Bigint ty.Integer v h = h
types_left ty.Integer ty.Bigint v h = integer_is_number v h
types_left t u v h = only_if_holds (same t u) (Of t) v (λ s. h)

types_right : (t u : Ty) (v : Value) → IsOf u v → Holds (meet_types t u) v
unfolding meet_types
types_right ty.Bigint ty.Integer v h = integer_is_number v h
types_right ty.Integer ty.Bigint v h = h
types_right t u v h = only_if_holds (same t u) (Of t) v (λ s. typed_as t u v s h)

pub meet_left : (a b : Kind) (v : Value) → Holds a v → Holds (meet a b) v
unfolding meet only_if
meet_left Null Null v h = h
meet_left Null (Of u) v h = typed_null u v h
meet_left Null Sum v h = tt
meet_left Null Wrong v h = tt
meet_left (Of t) Null v h = h
meet_left (Of t) (Of u) v h = types_left t u v h
meet_left (Of t) Sum v h = tt
meet_left (Of t) Wrong v h = tt
meet_left Sum Null v h = tt
meet_left Sum (Of u) v h = tt
meet_left Sum Sum v h = tt
meet_left Sum Wrong v h = tt
meet_left Wrong Null v h = tt
meet_left Wrong (Of u) v h = tt
meet_left Wrong Sum v h = tt
meet_left Wrong Wrong v h = tt

pub meet_right : (a b : Kind) (v : Value) → Holds b v → Holds (meet a b) v
unfolding meet only_if
meet_right Null Null v h = h
meet_right Null (Of u) v h = h
meet_right Null Sum v h = tt
meet_right Null Wrong v h = tt
meet_right (Of t) Null v h = typed_null t v h
meet_right (Of t) (Of u) v h = types_right t u v h
meet_right (Of t) Sum v h = tt
meet_right (Of t) Wrong v h = tt
meet_right Sum Null v h = tt
meet_right Sum (Of u) v h = tt
meet_right Sum Sum v h = tt
meet_right Sum Wrong v h = tt
meet_right Wrong Null v h = tt
meet_right Wrong (Of u) v h = tt
meet_right Wrong Sum v h = tt
meet_right Wrong Wrong v h = tt

pub met_before : (a : Kind) (ks : List Kind) (v : Value) → Holds a v → Holds (fold meet a ks) v
met_before a [] v h = h
met_before a (k ∷ ks) v h = met_before (meet a k) ks v (meet_left a k v h)

pub settled_holds : (k : Kind) (v : Value) → Holds k v → Holds (settled k) v
unfolding settled
settled_holds Null v h = typed_null ty.Text v h
settled_holds (Of t) v h = h
settled_holds Sum v h = h
settled_holds Wrong v h = tt

-- the type of a column whose kind is right
pub column_typed : (k : Kind) (v : Value) → is_right k ≡ true → Holds k v → IsOf (type_of k) v
unfolding is_right type_of
column_typed Null v r h = typed_null ty.Text v h
column_typed (Of t) v r h = h
column_typed Sum v r h = cc
column_typed Wrong v r h = cc
