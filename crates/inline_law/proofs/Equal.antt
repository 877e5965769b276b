-- A column that has the value of an argument, or is NULL where the argument is: then both are one, where they are of one type.
use Rattle.std.proofs.Common.{◌≡◌, refl, sym, ◌∙◌, ap, ℕ, ℤ, Bool, true, false, not, ◌&&◌, if◌then◌else◌, List, arith}
use Rattle.std.specs.Prelude.{int_lt}
use Rattle.std.proofs.lemmas.Bool.{true≢false, false≢true}
use Rattle.std.proofs.lemmas.Bool.Decides.{nat_tests}
use Rattle.std.proofs.lemmas.Cmp.{same_from_slice_cmp, nat_list_cmp_total, tied_itself}
use Rattle.std.proofs.lemmas.Int.{ints}
use Rattle.std.proofs.lemmas.Map.Lookups.{exact_bytes}
use Rattle.std.specs.Cmp.Lexicographic.{slice_cmp}
use Rattle.std.specs.Ordering.{nat_cmp, is_lt, ordering_reverse}
use Rattle.std.specs.declared.cmp.Ordering.{Ordering}
use Rattle.std.specs.declared.cmp.Ordering.TheVariants.{Less, Equal, Greater}
use Rattle.away_values.specs.declared.operators.CmpOp.TheVariants as cmp
use Rattle.away_values.specs.declared.types.Ty.{Ty}
use Rattle.away_values.specs.declared.types.Ty.TheVariants as ty
use Rattle.away_values.specs.declared.values.Value.{Value}
use Rattle.away_values.specs.declared.values.Value.TheVariants as val
use Rattle.away_values.specs.Operators.{compare, conjunction, disjunction, is_false, is_null, is_true, text_less}
use Rattle.type_soundness.specs.Sorts.{IsOf}

-- ---- neither is before the other

is_lt-slice_cmp : (xs ys : List ℕ) (o : Ordering) → o ≡ slice_cmp nat_cmp xs ys → is_lt o ≡ text_less xs ys
is_lt-slice_cmp = same_from_slice_cmp nat_cmp is_lt text_less refl (λ _ _. refl) (λ _ _. refl) (λ x y xs ys o h. grind (arith, nat_tests))

abbrev cmp_of : List ℕ → List ℕ → Ordering
cmp_of = slice_cmp nat_cmp

text_less-itself : (a : List ℕ) → text_less a a ≡ false
text_less-itself a = sym (is_lt-slice_cmp a a (cmp_of a a) refl) ∙ ap is_lt (tied_itself nat_list_cmp_total a)

same_by_cmp : (a b : List ℕ) (o : Ordering) → cmp_of a b ≡ o → is_lt o ≡ false → is_lt (ordering_reverse o) ≡ false → a ≡ b
same_by_cmp a b Less e h g = absurd (true≢false h)
same_by_cmp a b Equal e h g = exact_bytes a b e
same_by_cmp a b Greater e h g = absurd (true≢false g)

text_less-connex : (a b : List ℕ) → text_less a b ≡ false → text_less b a ≡ false → a ≡ b
text_less-connex a b h g =
    same_by_cmp a b (cmp_of a b) refl (is_lt-slice_cmp a b (cmp_of a b) refl ∙ h)
    (ap is_lt (sym (nat_list_cmp_total.antisymm b a)) ∙ is_lt-slice_cmp b a (cmp_of b a) refl ∙ g)

int_lt-connex : (a b : ℤ) → int_lt a b ≡ false → int_lt b a ≡ false → a ≡ b
int_lt-connex a b h g = grind (arith, ints)

int_lt-itself : (a : ℤ) → int_lt a a ≡ false
int_lt-itself a = grind (arith, ints)

both_not : (x y : Bool) → (not x && not y) ≡ true → (x ≡ false) × (y ≡ false)
both_not true y h = absurd (false≢true h)
both_not false true h = absurd (false≢true h)
both_not false false h = (refl, refl)

-- ---- the conjunct of an argument

-- x = v OR x IS NULL AND v IS NULL
abbrev pub both_null : Value → Value → Value
both_null x v = if is_false (val.Bool (is_null x)) then val.Bool false else conjunction (val.Bool (is_null x)) (val.Bool (is_null v))

abbrev pub matches : Value → Value → Value
matches x v = if is_true (compare cmp.Eq x v) then val.Bool true else disjunction (compare cmp.Eq x v) (both_null x v)

number_test : (a b : ℤ) → is_true (matches (val.Int a) (val.Int b)) ≡ (not (int_lt a b) && not (int_lt b a))
number_test a b = by (not (int_lt a b) && not (int_lt b a))
  where
    by : (t : Bool) → is_true (if is_true (val.Bool t) then val.Bool true else disjunction (val.Bool t) (val.Bool false)) ≡ t
    by true = refl
    by false = refl

text_test : (a b : List ℕ) → is_true (matches (val.Text a) (val.Text b)) ≡ (not (text_less a b) && not (text_less b a))
text_test a b = by (not (text_less a b) && not (text_less b a))
  where
    by : (t : Bool) → is_true (if is_true (val.Bool t) then val.Bool true else disjunction (val.Bool t) (val.Bool false)) ≡ t
    by true = refl
    by false = refl

-- ---- the law

-- what matches is the same
pub matched : (t : Ty) (x v : Value) → IsOf t x → IsOf t v → is_true (matches x v) ≡ true → x ≡ v
matched t val.Null val.Null h g e = refl
matched t val.Null (val.Int n) h g e = absurd (false≢true e)
matched t val.Null (val.Bool n) h g e = absurd (false≢true e)
matched t val.Null (val.Text n) h g e = absurd (false≢true e)
matched t (val.Int n) val.Null h g e = absurd (false≢true e)
matched t (val.Bool n) val.Null h g e = absurd (false≢true e)
matched t (val.Text n) val.Null h g e = absurd (false≢true e)
matched t (val.Int m) (val.Int n) h g e =
    let apart = both_not (int_lt m n) (int_lt n m) (sym (number_test m n) ∙ e) in
    ap val.Int (int_lt-connex m n apart.0 apart.1)
matched t (val.Bool true) (val.Bool true) h g e = refl
matched t (val.Bool true) (val.Bool false) h g e = absurd (false≢true e)
matched t (val.Bool false) (val.Bool true) h g e = absurd (false≢true e)
matched t (val.Bool false) (val.Bool false) h g e = refl
matched t (val.Text m) (val.Text n) h g e =
    let apart = both_not (text_less m n) (text_less n m) (sym (text_test m n) ∙ e) in
    ap val.Text (text_less-connex m n apart.0 apart.1)
matched ty.Bigint (val.Int m) (val.Bool n) h g e = absurd g
matched ty.Boolean (val.Int m) (val.Bool n) h g e = absurd h
matched ty.Integer (val.Int m) (val.Bool n) h g e = absurd g
matched ty.Text (val.Int m) (val.Bool n) h g e = absurd h
matched ty.Bigint (val.Int m) (val.Text n) h g e = absurd g
matched ty.Boolean (val.Int m) (val.Text n) h g e = absurd h
matched ty.Integer (val.Int m) (val.Text n) h g e = absurd g
matched ty.Text (val.Int m) (val.Text n) h g e = absurd h
matched ty.Bigint (val.Bool m) (val.Int n) h g e = absurd h
matched ty.Boolean (val.Bool m) (val.Int n) h g e = absurd g
matched ty.Integer (val.Bool m) (val.Int n) h g e = absurd h
matched ty.Text (val.Bool m) (val.Int n) h g e = absurd h
matched ty.Bigint (val.Bool m) (val.Text n) h g e = absurd h
matched ty.Boolean (val.Bool m) (val.Text n) h g e = absurd g
matched ty.Integer (val.Bool m) (val.Text n) h g e = absurd h
matched ty.Text (val.Bool m) (val.Text n) h g e = absurd h
matched ty.Bigint (val.Text m) (val.Int n) h g e = absurd h
matched ty.Boolean (val.Text m) (val.Int n) h g e = absurd h
matched ty.Integer (val.Text m) (val.Int n) h g e = absurd h
matched ty.Text (val.Text m) (val.Int n) h g e = absurd g
matched ty.Bigint (val.Text m) (val.Bool n) h g e = absurd h
matched ty.Boolean (val.Text m) (val.Bool n) h g e = absurd h
matched ty.Integer (val.Text m) (val.Bool n) h g e = absurd h
matched ty.Text (val.Text m) (val.Bool n) h g e = absurd g

-- each value matches itself
pub matches_itself : (v : Value) → is_true (matches v v) ≡ true
matches_itself val.Null = refl
matches_itself (val.Int n) = number_test n n ∙ (λ i. not (int_lt-itself n i) && not (int_lt-itself n i))
matches_itself (val.Bool true) = refl
matches_itself (val.Bool false) = refl
matches_itself (val.Text t) = text_test t t ∙ (λ i. not (text_less-itself t i) && not (text_less-itself t i))

-- ---- the number of a call

pub number_matched : (m n : ℤ) → is_true (compare cmp.Eq (val.Int m) (val.Int n)) ≡ true → m ≡ n
number_matched m n e = by (not (int_lt m n) && not (int_lt n m)) refl e
  where
    by : (t : Bool) → (not (int_lt m n) && not (int_lt n m)) ≡ t → is_true (val.Bool t) ≡ true → m ≡ n
    by true p h = let apart = both_not (int_lt m n) (int_lt n m) p in int_lt-connex m n apart.0 apart.1
    by false p h = absurd (false≢true h)

pub number_itself : (n : ℤ) → is_true (compare cmp.Eq (val.Int n) (val.Int n)) ≡ true
number_itself n = (λ i. is_true (val.Bool (not (int_lt-itself n i) && not (int_lt-itself n i))))
