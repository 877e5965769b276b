-- That the values of one type are in a total order.
use Rattle.std.proofs.Common.{◌≡◌, refl, sym, ◌∙◌, ap, subst, ℕ, ◌<◌, List, [], ◌∷◌, ◌++◌, arith, Bool, true, false, not, ◌&&◌, nat_lt, ℤ, ◌<ℤ◌, inl, inr}
use Rattle.std.specs.Prelude.{◌⊎◌, int_lt, ◌==◌}
use Rattle.std.proofs.lemmas.Bool.{true≢false, false≢true, both_ways, not-true, not_from_false, or_cases, or_left, or_right, and_from, and_parts, cases_Bool, ltb-true, eqb-true, lt-ltb, eq-eqb}
use Rattle.std.proofs.lemmas.Bool.Decides.{nat_tests}
use Rattle.std.proofs.lemmas.Cmp.{same_from_slice_cmp, nat_list_cmp_total, tied_itself}
use Rattle.std.proofs.lemmas.Int.{ints}
use Rattle.std.proofs.lemmas.Map.Lookups.{exact_bytes}
use Rattle.std.specs.Cmp.Lexicographic.{slice_cmp}
use Rattle.std.specs.Ordering.{nat_cmp, is_lt, ordering_reverse}
use Rattle.std.specs.declared.cmp.Ordering.{Ordering}
use Rattle.std.specs.declared.cmp.Ordering.TheVariants.{Less, Equal, Greater}
use Rattle.away_values.specs.declared.values.Value.{Value}
use Rattle.away_values.specs.declared.values.Value.TheVariants as val
use Rattle.away_values.specs.declared.types.Ty.{Ty}
use Rattle.away_values.specs.declared.types.Ty.TheVariants as ty
use Rattle.away_values.specs.declared.operators.CmpOp.{CmpOp}
use Rattle.away_values.specs.declared.operators.CmpOp.TheVariants as cmp
use Rattle.away_values.specs.Operators.{text_less, less, compared, compare, is_null}
use Rattle.away_values.specs.OrderLaws.{Holds, IsOrdered, IsTheOrder, Continues, FirstDiffersBelow}
use Rattle.away_values.specs.Values.{IsThere, HasType}

-- ---- texts

pub is_lt-slice_cmp : (xs ys : List ℕ) (o : Ordering) → o ≡ slice_cmp nat_cmp xs ys → is_lt o ≡ text_less xs ys
is_lt-slice_cmp = same_from_slice_cmp nat_cmp is_lt text_less refl (λ _ _. refl) (λ _ _. refl) (λ x y xs ys o h. grind (arith, nat_tests))

abbrev cmp_of : List ℕ → List ℕ → Ordering
cmp_of = slice_cmp nat_cmp

is_lt_true : (o : Ordering) → is_lt o ≡ true → o ≡ Less
is_lt_true Less h = refl
is_lt_true Equal h = absurd (false≢true h)
is_lt_true Greater h = absurd (false≢true h)

cmp_is_Less : (a b : List ℕ) → text_less a b ≡ true → cmp_of a b ≡ Less
cmp_is_Less a b h = is_lt_true (cmp_of a b) (is_lt-slice_cmp a b (cmp_of a b) refl ∙ h)

text_less-itself : (a : List ℕ) → text_less a a ≡ false
text_less-itself a = sym (is_lt-slice_cmp a a (cmp_of a a) refl) ∙ ap is_lt (tied_itself nat_list_cmp_total a)

text_less-trans : (a b c : List ℕ) → text_less a b ≡ true → text_less b c ≡ true → text_less a c ≡ true
text_less-trans a b c h g = sym (is_lt-slice_cmp a c (cmp_of a c) refl) ∙ ap is_lt (nat_list_cmp_total.trans a b c (cmp_is_Less a b h) (cmp_is_Less b c g))

same_by_cmp : (a b : List ℕ) (o : Ordering) → cmp_of a b ≡ o → is_lt o ≡ false → is_lt (ordering_reverse o) ≡ false → a ≡ b
same_by_cmp a b Less e h g = absurd (true≢false h)
same_by_cmp a b Equal e h g = exact_bytes a b e
same_by_cmp a b Greater e h g = absurd (true≢false g)

text_less-connex : (a b : List ℕ) → text_less a b ≡ false → text_less b a ≡ false → a ≡ b
text_less-connex a b h g =
    same_by_cmp a b (cmp_of a b) refl (is_lt-slice_cmp a b (cmp_of a b) refl ∙ h)
    (ap is_lt (sym (nat_list_cmp_total.antisymm b a)) ∙ is_lt-slice_cmp b a (cmp_of b a) refl ∙ g)

-- ---- values

less-itself : (a : Value) → less a a ≡ false
less-itself val.Null = refl
less-itself (val.Int a) = grind (arith, ints)
less-itself (val.Bool true) = refl
less-itself (val.Bool false) = refl
less-itself (val.Text a) = text_less-itself a

int_lt-trans : (a b c : ℤ) → int_lt a b ≡ true → int_lt b c ≡ true → int_lt a c ≡ true
int_lt-trans a b c h g = grind (arith, ints)

bool_less-trans : (a b c : Bool) → (not a && b) ≡ true → (not b && c) ≡ true → (not a && c) ≡ true
bool_less-trans a true c h g = absurd (false≢true g)
bool_less-trans true false c h g = absurd (false≢true h)
bool_less-trans false false c h g = absurd (false≢true h)

less-trans : (a b c : Value) → less a b ≡ true → less b c ≡ true → less a c ≡ true
less-trans (val.Int a) (val.Int b) (val.Int c) h g = int_lt-trans a b c h g
less-trans (val.Bool a) (val.Bool b) (val.Bool c) h g = bool_less-trans a b c h g
less-trans (val.Text a) (val.Text b) (val.Text c) h g = text_less-trans a b c h g
less-trans val.Null b c h g = absurd (false≢true h)
less-trans (val.Int a) val.Null c h g = absurd (false≢true h)
less-trans (val.Int a) (val.Bool b) c h g = absurd (false≢true h)
less-trans (val.Int a) (val.Text b) c h g = absurd (false≢true h)
less-trans (val.Int a) (val.Int b) val.Null h g = absurd (false≢true g)
less-trans (val.Int a) (val.Int b) (val.Bool c) h g = absurd (false≢true g)
less-trans (val.Int a) (val.Int b) (val.Text c) h g = absurd (false≢true g)
less-trans (val.Bool a) val.Null c h g = absurd (false≢true h)
less-trans (val.Bool a) (val.Int b) c h g = absurd (false≢true h)
less-trans (val.Bool a) (val.Text b) c h g = absurd (false≢true h)
less-trans (val.Bool a) (val.Bool b) val.Null h g = absurd (false≢true g)
less-trans (val.Bool a) (val.Bool b) (val.Int c) h g = absurd (false≢true g)
less-trans (val.Bool a) (val.Bool b) (val.Text c) h g = absurd (false≢true g)
less-trans (val.Text a) val.Null c h g = absurd (false≢true h)
less-trans (val.Text a) (val.Int b) c h g = absurd (false≢true h)
less-trans (val.Text a) (val.Bool b) c h g = absurd (false≢true h)
less-trans (val.Text a) (val.Text b) val.Null h g = absurd (false≢true g)
less-trans (val.Text a) (val.Text b) (val.Int c) h g = absurd (false≢true g)
less-trans (val.Text a) (val.Text b) (val.Bool c) h g = absurd (false≢true g)

int_lt-connex : (a b : ℤ) → int_lt a b ≡ false → int_lt b a ≡ false → a ≡ b
int_lt-connex a b h g = grind (arith, ints)

bool_less-connex : (a b : Bool) → (not a && b) ≡ false → (not b && a) ≡ false → a ≡ b
bool_less-connex true true h g = refl
bool_less-connex true false h g = absurd (true≢false g)
bool_less-connex false true h g = absurd (true≢false h)
bool_less-connex false false h g = refl

-- two values of one type that are there
pub data Alike : Value → Value → Type 0 where
  numbers : (a b : ℤ) → Alike (val.Int a) (val.Int b)
  truths : (a b : Bool) → Alike (val.Bool a) (val.Bool b)
  words : (a b : List ℕ) → Alike (val.Text a) (val.Text b)

data Kind : Type 0 where
  missing : Kind
  number : Kind
  truth : Kind
  word : Kind

abbrev kind : Value → Kind
kind val.Null = missing
kind (val.Int n) = number
kind (val.Bool b) = truth
kind (val.Text t) = word

abbrev kind_of : Ty → Kind
kind_of ty.Bigint = number
kind_of ty.Integer = number
kind_of ty.Boolean = truth
kind_of ty.Text = word

has_kind : (t : Ty) (v : Value) → HasType v t → is_null v ≡ false → kind v ≡ kind_of t
has_kind t val.Null h g = absurd (true≢false g)
has_kind ty.Bigint (val.Int n) h g = refl
has_kind ty.Bigint (val.Bool b) h g = absurd h
has_kind ty.Bigint (val.Text x) h g = absurd h
has_kind ty.Integer (val.Int n) h g = refl
has_kind ty.Integer (val.Bool b) h g = absurd h
has_kind ty.Integer (val.Text x) h g = absurd h
has_kind ty.Boolean (val.Int n) h g = absurd h
has_kind ty.Boolean (val.Bool b) h g = refl
has_kind ty.Boolean (val.Text x) h g = absurd h
has_kind ty.Text (val.Int n) h g = absurd h
has_kind ty.Text (val.Bool b) h g = absurd h
has_kind ty.Text (val.Text x) h g = refl

by_kind : (a b : Value) → is_null a ≡ false → kind a ≡ kind b → Alike a b
by_kind val.Null b h e = absurd (true≢false h)
by_kind (val.Int a) val.Null h e = cc
by_kind (val.Int a) (val.Int b) h e = numbers a b
by_kind (val.Int a) (val.Bool b) h e = cc
by_kind (val.Int a) (val.Text b) h e = cc
by_kind (val.Bool a) val.Null h e = cc
by_kind (val.Bool a) (val.Int b) h e = cc
by_kind (val.Bool a) (val.Bool b) h e = truths a b
by_kind (val.Bool a) (val.Text b) h e = cc
by_kind (val.Text a) val.Null h e = cc
by_kind (val.Text a) (val.Int b) h e = cc
by_kind (val.Text a) (val.Bool b) h e = cc
by_kind (val.Text a) (val.Text b) h e = words a b

alike : (t : Ty) (a b : Value) → IsThere t a → IsThere t b → Alike a b
alike t a b h g = by_kind a b h.some (has_kind t a h.of_type h.some ∙ sym (has_kind t b g.of_type g.some))

connex : {a b : Value} → Alike a b → less a b ≡ false → less b a ≡ false → a ≡ b
connex (numbers a b) h g = ap val.Int (int_lt-connex a b h g)
connex (truths a b) h g = ap val.Bool (bool_less-connex a b h g)
connex (words a b) h g = ap val.Text (text_less-connex a b h g)

-- ---- comparison

compare_is : (op : CmpOp) {a b : Value} → Alike a b → compare op a b ≡ val.Bool (compared op a b)
compare_is op (numbers a b) = refl
compare_is op (truths a b) = refl
compare_is op (words a b) = refl

holds : (op : CmpOp) {a b : Value} → Alike a b → compared op a b ≡ true → Holds op a b
holds op k e = compare_is op k ∙ ap val.Bool e

same_truth : (x y : Bool) → val.Bool x ≡ val.Bool y → x ≡ y
same_truth x y e = cc

held : (op : CmpOp) {a b : Value} → Alike a b → Holds op a b → compared op a b ≡ true
held op {a} {b} k h = same_truth (compared op a b) true (sym (compare_is op k) ∙ h)

less-asym : (a b : Value) → less a b ≡ true → less b a ≡ false
less-asym a b h = elim (cases_Bool (less b a)) [ inl g ↦ absurd (both_ways (less a a) (less-itself a) (less-trans a b a h g)) | inr g ↦ g ]

less-same : (a b : Value) → a ≡ b → less a b ≡ false
less-same a b e = ap (less a) (sym e) ∙ less-itself a

-- where neither is before the other they are the same, so what is before one is before the other
at_most-trans : {a b : Value} (c : Value) → Alike a b → less b a ≡ false → less c b ≡ false → less c a ≡ false
at_most-trans {a} {b} c k h g =
    elim (cases_Bool (less c a)) [
      | inr e ↦ e
      | inl e ↦ elim (cases_Bool (less a b)) [
        | inl f ↦ absurd (both_ways (less c b) g (less-trans c a b e f))
        | inr f ↦ ap (less c) (connex k f h) ∙ g
      ]
    ]

decided : (op : CmpOp) {a b : Value} → Alike a b → (compare op a b ≡ val.Bool true) ⊎ (compare op a b ≡ val.Bool false)
decided op {a} {b} k = elim (cases_Bool (compared op a b)) [ inl h ↦ inl (compare_is op k ∙ ap val.Bool h) | inr h ↦ inr (compare_is op k ∙ ap val.Bool h) ]

total : {a b : Value} → Alike a b → Alike b a → Holds cmp.Le a b ⊎ Holds cmp.Le b a
total {a} {b} k l =
    elim (cases_Bool (less b a)) [
      | inl h ↦ inr (holds cmp.Le l (not_from_false (less a b) (less-asym b a h)))
      | inr h ↦ inl (holds cmp.Le k (not_from_false (less b a) h))
    ]

not_before : {a b : Value} → Alike a b → Holds cmp.Le a b → less b a ≡ false
not_before {a} {b} k h = not-true (less b a) (held cmp.Le k h)

unequal-to : {a b : Value} → Alike a b → Holds cmp.Ne a b → a ≡ b → ⊥
unequal-to {a} {b} k h e = elim (or_cases (less a b) (less b a) (held cmp.Ne k h)) [ inl f ↦ both_ways (less a b) (less-same a b e) f | inr f ↦ both_ways (less b a) (less-same b a (sym e)) f ]

unequal-from : {a b : Value} → Alike a b → (a ≡ b → ⊥) → Holds cmp.Ne a b
unequal-from {a} {b} k n =
    holds cmp.Ne k (elim (cases_Bool (less a b)) [
      | inl f ↦ or_left (less a b) (less b a) f
      | inr f ↦ elim (cases_Bool (less b a)) [ inl g ↦ or_right (less a b) (less b a) g | inr g ↦ absurd (n (connex k f g)) ]
    ])

less-from : {a b : Value} → Alike a b → Holds cmp.Le a b → (a ≡ b → ⊥) → Holds cmp.Lt a b
less-from {a} {b} k h n = holds cmp.Lt k (elim (cases_Bool (less a b)) [ inl f ↦ f | inr f ↦ absurd (n (connex k f (not_before k h))) ])

less-to : {a b : Value} → Alike a b → Holds cmp.Lt a b → Holds cmp.Le a b × (a ≡ b → ⊥)
less-to {a} {b} k h = (holds cmp.Le k (not_from_false (less b a) (less-asym a b (held cmp.Lt k h))), λ e. both_ways (less a b) (less-same a b e) (held cmp.Lt k h))

equal-to : {a b : Value} → Alike a b → Holds cmp.Eq a b → a ≡ b
equal-to {a} {b} k h = let both = and_parts (not (less a b)) (not (less b a)) (held cmp.Eq k h) in connex k (not-true (less a b) both.0) (not-true (less b a) both.1)

equal-from : {a b : Value} → Alike a b → a ≡ b → Holds cmp.Eq a b
equal-from {a} {b} k e = holds cmp.Eq k (and_from (not (less a b)) (not (less b a)) (not_from_false (less a b) (less-same a b e)) (not_from_false (less b a) (less-same b a (sym e))))

pub is_ordered : (t : Ty) → IsOrdered t
is_ordered t = record {
  decided = λ op a b h g. decided op (alike t a b h g);
  total = λ a b h g. total (alike t a b h g) (alike t b a g h);
  transitive = λ a b c h g k p q. holds cmp.Le (alike t a c h k) (not_from_false (less c a) (at_most-trans c (alike t a b h g) (not_before (alike t a b h g) p) (not_before (alike t b c g k) q)));
  antisymmetric = λ a b h g p q. connex (alike t a b h g) (not_before (alike t b a g h) q) (not_before (alike t a b h g) p);
  equal = λ a b h g. (equal-to (alike t a b h g), equal-from (alike t a b h g));
  unequal = λ a b h g. (unequal-to (alike t a b h g), unequal-from (alike t a b h g));
  less = λ a b h g. (less-to (alike t a b h g), λ p. less-from (alike t a b h g) p.0 p.1);
  greater = λ a b h g. (λ p. holds cmp.Lt (alike t b a g h) (held cmp.Gt (alike t a b h g) p), λ p. holds cmp.Gt (alike t a b h g) (held cmp.Lt (alike t b a g h) p));
  at_least = λ a b h g. (λ p. holds cmp.Le (alike t b a g h) (held cmp.Ge (alike t a b h g) p), λ p. holds cmp.Ge (alike t a b h g) (held cmp.Le (alike t b a g h) p));
}

-- ---- which order it is

-- a first character that both texts begin with changes nothing
abbrev Before : List ℕ → List ℕ → Type 0
Before a b = Continues a b ⊎ FirstDiffersBelow a b

before_more : (c : ℕ) (a b : List ℕ) → Before a b → Before (c ∷ a) (c ∷ b)
before_more c a b (inl (y, (ys, e))) = inl (y, (ys, ap (λ t. c ∷ t) e))
before_more c a b (inr (p, (x, (xs, (y, (ys, h)))))) = inr (c ∷ p, (x, (xs, (y, (ys, (ap (λ t. c ∷ t) h.0, ap (λ t. c ∷ t) h.1, h.2))))))

before : (a b : List ℕ) → text_less a b ≡ true → Before a b
before a [] h = absurd (false≢true h)
before [] (y ∷ ys) h = inl (y, (ys, refl))
before (x ∷ xs) (y ∷ ys) h =
    elim (or_cases (nat_lt x y) (x == y && text_less xs ys) h) [
      | inl l ↦ inr ([], (x, (xs, (y, (ys, (refl, refl, ltb-true x y l))))))
      | inr l ↦ let both = and_parts (x == y) (text_less xs ys) l in subst (λ z. Before (x ∷ xs) (z ∷ ys)) (eqb-true x y both.0) (before_more x xs ys (before xs ys both.1))
    ]

less-more : (c : ℕ) (a b : List ℕ) → text_less a b ≡ true → text_less (c ∷ a) (c ∷ b) ≡ true
less-more c a b h = or_right (nat_lt c c) (c == c && text_less a b) (and_from (c == c) (text_less a b) (eq-eqb c c refl) h)

less-continues : (a : List ℕ) (y : ℕ) (ys : List ℕ) → text_less a (a ++ (y ∷ ys)) ≡ true
less-continues [] y ys = refl
less-continues (c ∷ a) y ys = less-more c a (a ++ (y ∷ ys)) (less-continues a y ys)

less-differs : (p : List ℕ) (x : ℕ) (xs : List ℕ) (y : ℕ) (ys : List ℕ) → x < y → text_less (p ++ (x ∷ xs)) (p ++ (y ∷ ys)) ≡ true
less-differs [] x xs y ys h = or_left (nat_lt x y) (x == y && text_less xs ys) (lt-ltb x y h)
less-differs (c ∷ p) x xs y ys h = less-more c (p ++ (x ∷ xs)) (p ++ (y ∷ ys)) (less-differs p x xs y ys h)

before-less : (a b : List ℕ) → Before a b → text_less a b ≡ true
before-less a b (inl (y, (ys, e))) = ap (text_less a) e ∙ less-continues a y ys
before-less a b (inr (p, (x, (xs, (y, (ys, h)))))) = ap (λ t. text_less t b) h.0 ∙ ap (text_less (p ++ (x ∷ xs))) h.1 ∙ less-differs p x xs y ys h.2

number_less : (a b : ℤ) → int_lt a b ≡ true → a <ℤ b
number_less a b h = grind (arith, ints)

number_less-from : (a b : ℤ) → a <ℤ b → int_lt a b ≡ true
number_less-from a b h = grind (arith, ints)

pub is_the_order : IsTheOrder
is_the_order = record {
  numbers = λ a b. (λ h. number_less a b (held cmp.Lt (numbers a b) h), λ h. holds cmp.Lt (numbers a b) (number_less-from a b h));
  truth = refl;
  texts = λ a b. (λ h. before a b (held cmp.Lt (words a b) h), λ h. holds cmp.Lt (words a b) (before-less a b h));
}
