-- Where a node has a type, so have its parts, and its operation is marked as it is to be.
use Rattle.std.proofs.Common.{◌≡◌, refl, ap, Bool, true, false, not, ◌&&◌, ◌||◌, List, [], ◌∷◌, fold, Option, Some, None}
use Rattle.std.specs.List.{list_all}
use Rattle.std.proofs.lemmas.Bool.{false≢true}
use Rattle.away_values.specs.declared.types.Ty.{Ty}
use Rattle.away_values.specs.declared.types.Ty.TheVariants.{Bigint, Boolean, Text, Integer}
use Rattle.away_values.specs.declared.operators.ChainOp.{ChainOp}
use Rattle.away_values.specs.declared.operators.ChainOp.TheVariants as chain
use Rattle.away_values.specs.declared.operators.IsTest.{IsTest}
use Rattle.away_values.specs.declared.operators.IsTest.TheVariants as test
use Rattle.away_names.specs.declared.function.Known.{Known}
use Rattle.away_names.specs.declared.function.Known.TheVariants as known
use Rattle.away_typing.specs.declared.kind.Kind.{Kind}
use Rattle.away_typing.specs.declared.kind.Kind.TheVariants.{Null, Of, Sum, Wrong}
use Rattle.away_typing.specs.Kinds.{only_if, fits, is_right, settled, meet, common, is_number, is_integer, are_integers, sum_kind}
use Rattle.away_typing.specs.Typing.{passed, is_ordered, pair, cast_kind, call_kind, called}
use Rattle.elaboration_law.specs.Laws.{is_kind}
use Rattle.elaboration.specs.Marks.{marked_op, number_op}

abbrev pub right : Kind → Bool
right = is_kind

pub and_left : (a b : Bool) → (a && b) ≡ true → a ≡ true
and_left true b h = refl
and_left false b h = h

pub and_right : (a b : Bool) → (a && b) ≡ true → b ≡ true
and_right true b h = h
and_right false b h = absurd (false≢true h)

pub not_false : (b : Bool) → not b ≡ true → b ≡ false
not_false true h = absurd (false≢true h)
not_false false h = refl

pub only_true : (b : Bool) (k : Kind) → right (only_if b k) ≡ true → b ≡ true
unfolding only_if
only_true true k h = refl
only_true false k h = h

pub only_right : (b : Bool) (k : Kind) → right (only_if b k) ≡ true → right k ≡ true
unfolding only_if
only_right true k h = h
only_right false k h = absurd (false≢true h)

pub fits_right : (t : Ty) (k : Kind) → fits t k ≡ true → right k ≡ true
unfolding fits
fits_right t Null h = refl
fits_right t (Of u) h = refl
fits_right t Sum h = refl
fits_right t Wrong h = h

pub is_right_right : (k : Kind) → is_right k ≡ true → right k ≡ true
unfolding is_right
is_right_right Null h = refl
is_right_right (Of u) h = refl
is_right_right Sum h = refl
is_right_right Wrong h = h

pub number_right : (k : Kind) → is_number k ≡ true → right k ≡ true
unfolding is_number
number_right Null h = refl
number_right (Of u) h = refl
number_right Sum h = refl
number_right Wrong h = h

pub integer_right : (k : Kind) → is_integer k ≡ true → right k ≡ true
unfolding is_integer
integer_right Null h = refl
integer_right (Of u) h = refl
integer_right Sum h = refl
integer_right Wrong h = h

pub integers_right : (a b : Kind) → are_integers a b ≡ true → (right a ≡ true) × (right b ≡ true)
unfolding are_integers
integers_right (Of Integer) (Of u) h = (refl, refl)
integers_right (Of Integer) Null h = (refl, refl)
integers_right (Of Integer) Sum h = (refl, refl)
integers_right (Of Integer) Wrong h = (refl, h)
integers_right (Of Bigint) b h = absurd (false≢true h)
integers_right (Of Boolean) b h = absurd (false≢true h)
integers_right (Of Text) b h = absurd (false≢true h)
integers_right Null (Of u) h = (refl, refl)
integers_right Null Null h = (refl, refl)
integers_right Null Sum h = (refl, refl)
integers_right Null Wrong h = (refl, h)
integers_right Sum b h = absurd (false≢true h)
integers_right Wrong b h = absurd (false≢true h)

pub meet_right : (a b : Kind) → right (meet a b) ≡ true → (right a ≡ true) × (right b ≡ true)
unfolding meet
meet_right Null Null h = (refl, refl)
meet_right Null (Of u) h = (refl, refl)
meet_right Null Sum h = (refl, refl)
meet_right Null Wrong h = (refl, h)
meet_right Sum b h = absurd (false≢true h)
meet_right Wrong b h = absurd (false≢true h)
meet_right (Of t) Null h = (refl, refl)
meet_right (Of t) Sum h = (refl, refl)
meet_right (Of t) Wrong h = (refl, h)
meet_right (Of t) (Of u) h = (refl, refl)

pub passed_right : (t : IsTest) (k : Kind) → passed t k ≡ true → right k ≡ true
unfolding passed
passed_right test.Null k h = is_right_right k h
passed_right test.True k h = fits_right Boolean k h
passed_right test.False k h = fits_right Boolean k h

pub cast_right : (t : Ty) (k : Kind) → right (cast_kind t k) ≡ true → right k ≡ true
unfolding cast_kind
cast_right t Null h = refl
cast_right t (Of u) h = refl
cast_right t Sum h = refl
cast_right Bigint Wrong h = h
cast_right Integer Wrong h = h
cast_right Boolean Wrong h = h
cast_right Text Wrong h = h

pub settled_right : (k : Kind) → right (settled k) ≡ true → right k ≡ true
unfolding settled
settled_right Null h = refl
settled_right (Of u) h = refl
settled_right Sum h = refl
settled_right Wrong h = h

-- ---- an operation

either_right : (a b c d : Bool) → ((a || b) && (c && d)) ≡ true → (c ≡ true) × (d ≡ true)
either_right a b c d h = let k = and_right (a || b) (c && d) h in (and_left c d k, and_right c d k)

pub pair_right : (op : ChainOp) (a b : Kind) → right (pair op a b) ≡ true → (right a ≡ true) × (right b ≡ true)
unfolding pair
pair_right chain.Or a b h = let k = only_true (fits Boolean a && fits Boolean b) (Of Boolean) h in (fits_right Boolean a (and_left (fits Boolean a) _ k), fits_right Boolean b (and_right (fits Boolean a) _ k))
pair_right chain.And a b h = let k = only_true (fits Boolean a && fits Boolean b) (Of Boolean) h in (fits_right Boolean a (and_left (fits Boolean a) _ k), fits_right Boolean b (and_right (fits Boolean a) _ k))
pair_right chain.Concat a b h = let k = either_right (fits Text a) (fits Text b) (is_right a) (is_right b) (only_true _ (Of Text) h) in (is_right_right a k.0, is_right_right b k.1)
pair_right (chain.Int op) a b h =
    let k = only_true (is_number a && (is_number b && not (are_integers a b))) (Of Bigint) h in
    (number_right a (and_left (is_number a) _ k), number_right b (and_left (is_number b) _ (and_right (is_number a) _ k)))
pair_right (chain.Small op) a b h = integers_right a b (only_true (are_integers a b) (Of Integer) h)

pub mark_right : (op : ChainOp) (a b : Kind) → right (pair op a b) ≡ true → marked_op op a b ≡ op
unfolding pair marked_op
mark_right chain.Or a b h = refl
mark_right chain.And a b h = refl
mark_right chain.Concat a b h = refl
mark_right (chain.Int op) a b h =
    let k = only_true (is_number a && (is_number b && not (are_integers a b))) (Of Bigint) h in
    ap (λ b. number_op b op) (not_false (are_integers a b) (and_right (is_number b) _ (and_right (is_number a) _ k)))
mark_right (chain.Small op) a b h = ap (λ b. number_op b op) (only_true (are_integers a b) (Of Integer) h)

-- ---- several operands

abbrev pub all_right : List Kind → Bool
all_right = list_all right

both_true : (a b : Bool) → a ≡ true → b ≡ true → (a && b) ≡ true
both_true a b h k = λ i. h i && k i

meets_right : (a : Kind) (ks : List Kind) → right (fold meet a ks) ≡ true → (right a ≡ true) × (all_right ks ≡ true)
meets_right a [] h = (h, refl)
meets_right a (k ∷ ks) h =
    let rest = meets_right (meet a k) ks h in
    let here = meet_right a k rest.0 in
    (here.0, both_true (right k) (all_right ks) here.1 rest.1)

pub common_right : (ks : List Kind) → right (common ks) ≡ true → all_right ks ≡ true
common_right ks h = (meets_right Null ks h).1

one_right : (a : Kind) → right a ≡ true → all_right (a ∷ []) ≡ true
one_right a h = both_true (right a) true h refl

sum_right : (a : Kind) → right (sum_kind a) ≡ true → right a ≡ true
unfolding sum_kind
sum_right Null h = refl
sum_right (Of u) h = refl
sum_right Sum h = refl
sum_right Wrong h = h

ordered_right : (a : Kind) → is_ordered a ≡ true → right a ≡ true
unfolding is_ordered
ordered_right Null h = refl
ordered_right (Of u) h = refl
ordered_right Sum h = refl
ordered_right Wrong h = is_right_right Wrong h

never : {A : Type 0} → right Wrong ≡ true → A
never h = absurd (false≢true h)

call_right : (f : Known) (ks : List Kind) → right (call_kind f ks) ≡ true → all_right ks ≡ true
unfolding call_kind
call_right known.Coalesce ks h = common_right ks (settled_right (common ks) h)
call_right known.Greatest ks h = common_right ks (settled_right (common ks) h)
call_right known.Least ks h = common_right ks (settled_right (common ks) h)
call_right known.Length [] h = never h
call_right known.Length (a ∷ []) h = one_right a (fits_right Text a (only_true (fits Text a) (Of Integer) h))
call_right known.Length (a ∷ b ∷ ks) h = never h
call_right known.Substr [] h = never h
call_right known.Substr (a ∷ []) h = never h
call_right known.Substr (a ∷ b ∷ []) h = never h
call_right known.Substr (a ∷ b ∷ c ∷ []) h =
    let k = only_true (fits Text a && (is_number b && is_number c)) (Of Text) h in
    let m = and_right (fits Text a) _ k in
    both_true (right a) _ (fits_right Text a (and_left (fits Text a) _ k)) (both_true (right b) _ (number_right b (and_left (is_number b) _ m)) (one_right c (number_right c (and_right (is_number b) _ m))))
call_right known.Substr (a ∷ b ∷ c ∷ d ∷ ks) h = never h
call_right known.Count [] h = never h
call_right known.Count (a ∷ []) h = one_right a (is_right_right a (only_true (is_right a) (Of Bigint) h))
call_right known.Count (a ∷ b ∷ ks) h = never h
call_right known.BoolAnd [] h = never h
call_right known.BoolAnd (a ∷ []) h = one_right a (fits_right Boolean a (only_true (fits Boolean a) (Of Boolean) h))
call_right known.BoolAnd (a ∷ b ∷ ks) h = never h
call_right known.BoolOr [] h = never h
call_right known.BoolOr (a ∷ []) h = one_right a (fits_right Boolean a (only_true (fits Boolean a) (Of Boolean) h))
call_right known.BoolOr (a ∷ b ∷ ks) h = never h
call_right known.Min [] h = never h
call_right known.Min (a ∷ []) h = one_right a (ordered_right a (only_true (is_ordered a) (settled a) h))
call_right known.Min (a ∷ b ∷ ks) h = never h
call_right known.Max [] h = never h
call_right known.Max (a ∷ []) h = one_right a (ordered_right a (only_true (is_ordered a) (settled a) h))
call_right known.Max (a ∷ b ∷ ks) h = never h
call_right known.Sum [] h = never h
call_right known.Sum (a ∷ []) h = one_right a (sum_right a h)
call_right known.Sum (a ∷ b ∷ ks) h = never h

pub called_right : (f : Option Known) (ks : List Kind) → right (called f ks) ≡ true → all_right ks ≡ true
unfolding called
called_right None ks h = never h
called_right (Some f) ks h = call_right f ks h
