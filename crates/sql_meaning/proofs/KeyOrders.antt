-- The order of keys is total, and that of ORDER BY where the keys at each place have one type.
use Rattle.std.proofs.Common.{◌≡◌, refl, sym, ◌∙◌, ap, ℕ, ℤ, Bool, true, false, not, ◌&&◌, ◌||◌, List, [], ◌∷◌, drop, map, arith}
use Rattle.std.specs.Ordering.{nat_cmp, int_cmp, ordering_then, ordering_reverse, is_lt, is_gt}
use Rattle.std.specs.Cmp.Lexicographic.{slice_cmp}
use Rattle.std.specs.declared.cmp.Ordering.{Ordering}
use Rattle.std.specs.declared.cmp.Ordering.TheVariants.{Less, Equal, Greater}
use Rattle.std.specs.Prelude.{cond, int_lt}
use Rattle.std.specs.Cmp.{IsTotalOrder}
use Rattle.std.proofs.lemmas.Cmp.{nat_cmp_total, int_cmp_total, nat_list_cmp_total, on_total, then_total, upto}
use Rattle.away_values.specs.declared.types.Ty.{Ty}
use Rattle.away_values.specs.declared.types.Ty.TheVariants as ty
use Rattle.away_values.specs.declared.values.Value.{Value}
use Rattle.away_values.specs.declared.values.Value.TheVariants as val
use Rattle.away_values.specs.Operators.{less, is_null, text_less}
use Rattle.away_values.specs.Values.{HasType}
use Rattle.std.proofs.lemmas.Bool.Decides.{nat_tests}
use Rattle.std.proofs.lemmas.Cmp.{same_from_slice_cmp}
use Rattle.sql_meaning.specs.Context.{at}
use Rattle.sql_meaning.specs.KeyOrder.{kind, number, truth, letters, value_cmp, directed, keys_cmp, precedes}
use Rattle.sql_meaning.specs.Expressions.{KeyMeaning}
use Rattle.sql_meaning.specs.Ordered.{IsOrder}
use Rattle.sql_meaning.specs.Selects.{comes_before}

pub value_cmp_total : IsTotalOrder value_cmp
value_cmp_total = then_total (on_total kind nat_cmp_total) (then_total (on_total number int_cmp_total) (then_total (on_total truth nat_cmp_total) (on_total letters nat_list_cmp_total)))

is_lt-slice_cmp : (xs ys : List ℕ) (o : Ordering) → o ≡ slice_cmp nat_cmp xs ys → is_lt o ≡ text_less xs ys
is_lt-slice_cmp = same_from_slice_cmp nat_cmp is_lt text_less refl (λ _ _. refl) (λ _ _. refl) (λ x y xs ys o h. grind (arith, nat_tests))

equal_back : (o : Ordering) → o ≡ Equal → ordering_reverse o ≡ Equal
equal_back o h = ap ordering_reverse h

flipped : {K : Type 0} (R : K → K → Ordering) → IsTotalOrder R → IsTotalOrder (λ x y. R y x)
flipped R o = record {
  antisymm = λ x y. o.antisymm y x;
  trans = λ x y z h g. o.trans z y x g h;
  congr = λ x y z h. o.antisymm z x ∙ ap ordering_reverse (o.congr x y z (o.antisymm x y ∙ equal_back (R y x) h)) ∙ sym (o.antisymm z y);
}

directed_total : (d : Bool) → IsTotalOrder (directed d)
directed_total false = value_cmp_total
directed_total true = flipped value_cmp value_cmp_total

pub keys_cmp_total : (ds : List Bool) → IsTotalOrder (keys_cmp ds)
keys_cmp_total [] = record { antisymm = λ x y. refl; trans = λ x y z h g. cc; congr = λ x y z h. refl }
keys_cmp_total (d ∷ ds) = then_total (on_total (λ as_. at as_ 0) (directed_total d)) (on_total (λ as_. drop 1 as_) (keys_cmp_total ds))

last_equal : (o : Ordering) → is_lt (ordering_then o Equal) ≡ is_lt o
last_equal Less = refl
last_equal Equal = refl
last_equal Greater = refl

or_false : (b : Bool) → (b || false) ≡ b
or_false true = refl
or_false false = refl

by_test : (a b : Bool) → is_lt (cond a Less (cond b Greater Equal)) ≡ a
by_test true b = refl
by_test false true = refl
by_test false false = refl

int_first : (m n : ℤ) → is_lt (int_cmp m n) ≡ int_lt m n
int_first m n = by_test (int_lt m n) _

-- the order of one key, on the values of one type
pub same_order : (t : Ty) (a b : Value) → HasType a t → HasType b t → precedes false a b ≡ is_lt (value_cmp a b)
same_order t val.Null val.Null h g = refl
same_order t val.Null (val.Int n) h g = refl
same_order t val.Null (val.Bool n) h g = refl
same_order t val.Null (val.Text n) h g = refl
same_order t (val.Int n) val.Null h g = refl
same_order t (val.Bool n) val.Null h g = refl
same_order t (val.Text n) val.Null h g = refl
same_order t (val.Int m) (val.Int n) h g = or_false (int_lt m n) ∙ sym (last_equal (int_cmp m n) ∙ int_first m n)
same_order t (val.Bool true) (val.Bool true) h g = refl
same_order t (val.Bool true) (val.Bool false) h g = refl
same_order t (val.Bool false) (val.Bool true) h g = refl
same_order t (val.Bool false) (val.Bool false) h g = refl
same_order t (val.Text m) (val.Text n) h g = or_false (text_less m n) ∙ sym (is_lt-slice_cmp m n (slice_cmp nat_cmp m n) refl)
same_order ty.Bigint (val.Int m) (val.Bool n) h g = absurd g
same_order ty.Boolean (val.Int m) (val.Bool n) h g = absurd h
same_order ty.Integer (val.Int m) (val.Bool n) h g = absurd g
same_order ty.Text (val.Int m) (val.Bool n) h g = absurd h
same_order ty.Bigint (val.Int m) (val.Text n) h g = absurd g
same_order ty.Boolean (val.Int m) (val.Text n) h g = absurd h
same_order ty.Integer (val.Int m) (val.Text n) h g = absurd g
same_order ty.Text (val.Int m) (val.Text n) h g = absurd h
same_order ty.Bigint (val.Bool m) (val.Int n) h g = absurd h
same_order ty.Boolean (val.Bool m) (val.Int n) h g = absurd g
same_order ty.Integer (val.Bool m) (val.Int n) h g = absurd h
same_order ty.Text (val.Bool m) (val.Int n) h g = absurd h
same_order ty.Bigint (val.Bool m) (val.Text n) h g = absurd h
same_order ty.Boolean (val.Bool m) (val.Text n) h g = absurd g
same_order ty.Integer (val.Bool m) (val.Text n) h g = absurd h
same_order ty.Text (val.Bool m) (val.Text n) h g = absurd h
same_order ty.Bigint (val.Text m) (val.Int n) h g = absurd h
same_order ty.Boolean (val.Text m) (val.Int n) h g = absurd h
same_order ty.Integer (val.Text m) (val.Int n) h g = absurd h
same_order ty.Text (val.Text m) (val.Int n) h g = absurd g
same_order ty.Bigint (val.Text m) (val.Bool n) h g = absurd h
same_order ty.Boolean (val.Text m) (val.Bool n) h g = absurd h
same_order ty.Integer (val.Text m) (val.Bool n) h g = absurd h
same_order ty.Text (val.Text m) (val.Bool n) h g = absurd g

and_comm : (a b : Bool) → (a && b) ≡ (b && a)
and_comm true true = refl
and_comm true false = refl
and_comm false true = refl
and_comm false false = refl

turned_round : (a b : Value) → precedes true a b ≡ precedes false b a
turned_round a b = ap (λ x. less b a || x) (and_comm (is_null a) (not (is_null b)))

pub same_order_falling : (t : Ty) (a b : Value) → HasType a t → HasType b t → precedes true a b ≡ is_lt (value_cmp b a)
same_order_falling t a b h g = turned_round a b ∙ same_order t b a g h

pub same_directed : (falls : Bool) (t : Ty) (a b : Value) → HasType a t → HasType b t → precedes falls a b ≡ is_lt (directed falls a b)
same_directed false = same_order
same_directed true = same_order_falling

-- ---- the order of whole rows of keys

lt_reversed : (o : Ordering) → is_lt (ordering_reverse o) ≡ is_gt o
lt_reversed Less = refl
lt_reversed Equal = refl
lt_reversed Greater = refl

not_both : (o : Ordering) → is_gt o ≡ true → is_lt o ≡ false
not_both Less h = cc
not_both Equal h = refl
not_both Greater h = refl

module _ (R : List Value → List Value → Ordering) (total : IsTotalOrder R) where
  turned : (a b : List Value) → is_lt (R b a) ≡ is_gt (R a b)
  turned a b = ap is_lt (total.antisymm b a) ∙ lt_reversed (R a b)

  never : (a b : List Value) → is_lt (R a b) ≡ true → is_lt (R b a) ≡ false
  never a b h = not_both (R b a) (sym (turned b a) ∙ h)

  passes : (a b c : List Value) → is_lt (R b a) ≡ false → is_lt (R c b) ≡ false → is_lt (R c a) ≡ false
  passes a b c h g = turned a c ∙ upto total a b c (sym (turned a b) ∙ h) (sym (turned b c) ∙ g)

pub keys_in_order : (ks : List KeyMeaning) → IsOrder (comes_before ks)
keys_in_order ks =
    let falls : List Bool = map (λ k. k.descending) ks in
    record { never_both = never (keys_cmp falls) (keys_cmp_total falls); passes_on = passes (keys_cmp falls) (keys_cmp_total falls) }
