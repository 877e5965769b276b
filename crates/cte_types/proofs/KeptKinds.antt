-- Kinds that are kept: what has a type has the same one, and of what has none nothing is said. Each operator keeps them.
use Rattle.std.proofs.Common.{◌≡◌, refl, ap, sym, subst, Bool, true, false, not, ◌&&◌, ◌||◌, List, [], ◌∷◌, fold, Option, Some, None}
use Rattle.away_values.specs.declared.types.Ty.{Ty}
use Rattle.away_values.specs.declared.types.Ty.TheVariants as ty
use Rattle.away_values.specs.declared.operators.ChainOp.{ChainOp}
use Rattle.away_values.specs.declared.operators.ChainOp.TheVariants as chain
use Rattle.away_values.specs.declared.operators.IsTest.{IsTest}
use Rattle.away_values.specs.declared.operators.IsTest.TheVariants as test
use Rattle.away_names.specs.declared.function.Known.{Known}
use Rattle.away_names.specs.declared.function.Known.TheVariants as known
use Rattle.away_typing.specs.declared.kind.Kind.{Kind}
use Rattle.away_typing.specs.declared.kind.Kind.TheVariants.{Null, Of, Sum, Wrong}
use Rattle.away_typing.specs.Kinds.{same, only_if, meet, fits, is_right, is_number, is_integer, are_integers, sum_kind, settled, common}
use Rattle.away_typing.specs.Typing.{Shape, pair, passed, cast_kind, castable, call_kind, called, is_ordered, scalar_kind, exists_kind}
use Rattle.sql_meaning.proofs.Lists.{Zipped}

-- what has a type has the same one there
abbrev pub Keeps : Kind → Kind → Type 0
Keeps Wrong b = Unit {0}
Keeps Null b = b ≡ Null
Keeps (Of t) b = b ≡ Of t
Keeps Sum b = b ≡ Sum

pub kept_same : (a b : Kind) → b ≡ a → Keeps a b
kept_same Wrong b h = tt
kept_same Null b h = h
kept_same (Of t) b h = h
kept_same Sum b h = h

pub kept_itself : (a : Kind) → Keeps a a
kept_itself a = kept_same a a refl

pub kept_then : (a b c : Kind) → Keeps a b → Keeps b c → Keeps a c
kept_then Wrong b c h k = tt
kept_then Null b c h k = subst (λ x. Keeps x c) h k
kept_then (Of t) b c h k = subst (λ x. Keeps x c) h k
kept_then Sum b c h k = subst (λ x. Keeps x c) h k

-- under a function that has nothing of what has no type
pub kept_under : (f : Kind → Kind) → f Wrong ≡ Wrong → (a b : Kind) → Keeps a b → Keeps (f a) (f b)
kept_under f w Wrong b h = subst (λ k. Keeps k (f b)) (sym w) tt
kept_under f w Null b h = kept_same (f Null) (f b) (ap f h)
kept_under f w (Of t) b h = kept_same (f (Of t)) (f b) (ap f h)
kept_under f w Sum b h = kept_same (f Sum) (f b) (ap f h)

pub kept_under_two : (f : Kind → Kind → Kind) → ((k : Kind) → f Wrong k ≡ Wrong) → ((k : Kind) → f k Wrong ≡ Wrong)
    → (a b c d : Kind) → Keeps a c → Keeps b d → Keeps (f a b) (f c d)
kept_under_two f l r a b c d h k =
    kept_then (f a b) (f c b) (f c d) (kept_under (λ x. f x b) (l b) a c h) (kept_under (λ x. f c x) (r c) b d k)

-- ---- what asks for a type

pub if_wrong : (t : Bool) (k : Kind) → t ≡ false → only_if t k ≡ Wrong
unfolding only_if
if_wrong true k h = cc
if_wrong false k h = refl

pub and_false : (a b : Bool) → b ≡ false → (a && b) ≡ false
and_false true b h = h
and_false false b h = refl

pub fits_kept : (t : Ty) (a b : Kind) → Keeps a b → fits t a ≡ true → fits t b ≡ true
unfolding fits
fits_kept t Wrong b h k = cc
fits_kept t Null b h k = subst (λ x. fits t x ≡ true) (sym h) k
fits_kept t (Of u) b h k = subst (λ x. fits t x ≡ true) (sym h) k
fits_kept t Sum b h k = cc

fits_wrong : (t : Ty) → fits t Wrong ≡ false
unfolding fits
fits_wrong t = refl

right_wrong : is_right Wrong ≡ false
unfolding is_right
right_wrong = refl

-- a kind where what stands there fits a type
pub asked_kept : (t : Ty) (k a b : Kind) → Keeps a b → Keeps (only_if (fits t a) k) (only_if (fits t b) k)
asked_kept t k = kept_under (λ x. only_if (fits t x) k) (if_wrong (fits t Wrong) k (fits_wrong t))

pub right_kept : (k a b : Kind) → Keeps a b → Keeps (only_if (is_right a) k) (only_if (is_right b) k)
right_kept k = kept_under (λ x. only_if (is_right x) k) (if_wrong (is_right Wrong) k right_wrong)

pub only_if_kept : (t u : Bool) (a b : Kind) → (t ≡ true → u ≡ true) → Keeps a b → Keeps (only_if t a) (only_if u b)
unfolding only_if
only_if_kept true u a b h k = subst (λ (u : Bool). Keeps a (only_if u b)) (sym (h refl)) k
only_if_kept false u a b h k = tt

-- ---- operators

meet_wrong : (k : Kind) → meet Wrong k ≡ Wrong
unfolding meet
meet_wrong Null = refl
meet_wrong (Of t) = refl
meet_wrong Sum = refl
meet_wrong Wrong = refl

wrong_met : (k : Kind) → meet k Wrong ≡ Wrong
unfolding meet
wrong_met Null = refl
wrong_met (Of t) = refl
wrong_met Sum = refl
wrong_met Wrong = refl

pub meet_kept : (a b c d : Kind) → Keeps a c → Keeps b d → Keeps (meet a b) (meet c d)
meet_kept = kept_under_two meet meet_wrong wrong_met

pub meets_kept : (a b : Kind) (xs ys : List Kind) → Keeps a b → Zipped Keeps xs ys → Keeps (fold meet a xs) (fold meet b ys)
meets_kept a b [] [] h k = h
meets_kept a b (x ∷ xs) (y ∷ ys) h k = meets_kept (meet a x) (meet b y) xs ys (meet_kept a x b y h k.0) k.1
meets_kept a b _ _ h k = absurd k

pub common_kept : (xs ys : List Kind) → Zipped Keeps xs ys → Keeps (common xs) (common ys)
common_kept xs ys h = meets_kept Null Null xs ys refl h

number_wrong : is_number Wrong ≡ false
unfolding is_number
number_wrong = refl

integers_wrong : (k : Kind) → are_integers Wrong k ≡ false
unfolding are_integers
integers_wrong k = refl

wrong_integers : (k : Kind) → are_integers k Wrong ≡ false
unfolding are_integers
wrong_integers Null = refl
wrong_integers (Of ty.Bigint) = refl
wrong_integers (Of ty.Boolean) = refl
wrong_integers (Of ty.Text) = refl
wrong_integers (Of ty.Integer) = refl
wrong_integers Sum = refl
wrong_integers Wrong = refl

pub number_kept : (a b : Kind) → Keeps a b → is_number a ≡ true → is_number b ≡ true
unfolding is_number
number_kept Wrong b h k = cc
number_kept Null b h k = subst (λ x. is_number x ≡ true) (sym h) k
number_kept (Of u) b h k = subst (λ x. is_number x ≡ true) (sym h) k
number_kept Sum b h k = cc

pub minus_kept : (a b : Kind) → Keeps a b
    → Keeps (only_if (is_number a && not (is_integer a)) (Of ty.Bigint)) (only_if (is_number b && not (is_integer b)) (Of ty.Bigint))
minus_kept =
    kept_under (λ x. only_if (is_number x && not (is_integer x)) (Of ty.Bigint))
    (if_wrong (is_number Wrong && not (is_integer Wrong)) (Of ty.Bigint) (ap (λ b. b && not (is_integer Wrong)) number_wrong))

pub small_minus_kept : (a b : Kind) → Keeps a b → Keeps (only_if (is_integer a) (Of ty.Integer)) (only_if (is_integer b) (Of ty.Integer))
unfolding is_integer
small_minus_kept = kept_under (λ x. only_if (is_integer x) (Of ty.Integer)) (if_wrong (is_integer Wrong) (Of ty.Integer) refl)

pair_wrong : (op : ChainOp) (k : Kind) → pair op Wrong k ≡ Wrong
unfolding pair only_if fits is_right is_number
pair_wrong chain.Or k = refl
pair_wrong chain.And k = refl
pair_wrong chain.Concat k = if_wrong ((fits ty.Text Wrong || fits ty.Text k) && (is_right Wrong && is_right k)) (Of ty.Text)
    (and_false (fits ty.Text Wrong || fits ty.Text k) (is_right Wrong && is_right k) refl)
pair_wrong (chain.Int op) k = refl
pair_wrong (chain.Small op) k = if_wrong (are_integers Wrong k) (Of ty.Integer) (integers_wrong k)

wrong_paired : (op : ChainOp) (k : Kind) → pair op k Wrong ≡ Wrong
unfolding pair fits is_right
wrong_paired chain.Or k = if_wrong (fits ty.Boolean k && fits ty.Boolean Wrong) (Of ty.Boolean) (and_false (fits ty.Boolean k) (fits ty.Boolean Wrong) refl)
wrong_paired chain.And k = if_wrong (fits ty.Boolean k && fits ty.Boolean Wrong) (Of ty.Boolean) (and_false (fits ty.Boolean k) (fits ty.Boolean Wrong) refl)
wrong_paired chain.Concat k =
    if_wrong ((fits ty.Text k || fits ty.Text Wrong) && (is_right k && is_right Wrong)) (Of ty.Text)
    (and_false (fits ty.Text k || fits ty.Text Wrong) (is_right k && is_right Wrong) (and_false (is_right k) (is_right Wrong) refl))
wrong_paired (chain.Int op) k =
    if_wrong (is_number k && (is_number Wrong && not (are_integers k Wrong))) (Of ty.Bigint)
    (and_false (is_number k) (is_number Wrong && not (are_integers k Wrong)) (ap (λ b. b && not (are_integers k Wrong)) number_wrong))
wrong_paired (chain.Small op) k = if_wrong (are_integers k Wrong) (Of ty.Integer) (wrong_integers k)

pub pair_kept : (op : ChainOp) (a b c d : Kind) → Keeps a c → Keeps b d → Keeps (pair op a b) (pair op c d)
pair_kept op = kept_under_two (pair op) (pair_wrong op) (wrong_paired op)

passed_wrong : (t : IsTest) → passed t Wrong ≡ false
unfolding passed fits is_right
passed_wrong test.Null = refl
passed_wrong test.True = refl
passed_wrong test.False = refl

pub is_kept : (t : IsTest) (a b : Kind) → Keeps a b → Keeps (only_if (passed t a) (Of ty.Boolean)) (only_if (passed t b) (Of ty.Boolean))
is_kept t = kept_under (λ x. only_if (passed t x) (Of ty.Boolean)) (if_wrong (passed t Wrong) (Of ty.Boolean) (passed_wrong t))

cast_wrong : (t : Ty) → cast_kind t Wrong ≡ Wrong
unfolding cast_kind
cast_wrong ty.Bigint = refl
cast_wrong ty.Boolean = refl
cast_wrong ty.Text = refl
cast_wrong ty.Integer = refl

pub cast_kept : (t : Ty) (a b : Kind) → Keeps a b → Keeps (cast_kind t a) (cast_kind t b)
cast_kept t = kept_under (cast_kind t) (cast_wrong t)

-- a literal under the cast to its own type
pub literal_kept : (t : Ty) → Keeps (Of t) (cast_kind t (Of t))
unfolding cast_kind only_if castable same
literal_kept ty.Bigint = refl
literal_kept ty.Integer = refl
literal_kept ty.Boolean = refl
literal_kept ty.Text = refl

settled_wrong : settled Wrong ≡ Wrong
unfolding settled
settled_wrong = refl

pub settled_kept : (a b : Kind) → Keeps a b → Keeps (settled a) (settled b)
settled_kept = kept_under settled settled_wrong

-- ---- functions

-- a function of one argument
one_kept : (f : List Kind → Kind) (g : Kind → Kind) → f [] ≡ Wrong → ((a : Kind) → f (a ∷ []) ≡ g a) → ((a b : Kind) (ks : List Kind) → f (a ∷ b ∷ ks) ≡ Wrong)
    → g Wrong ≡ Wrong → (xs ys : List Kind) → Zipped Keeps xs ys → Keeps (f xs) (f ys)
one_kept f g none one more w [] [] h = kept_itself (f [])
one_kept f g none one more w (a ∷ []) (b ∷ []) h =
    subst (λ x. Keeps x (f (b ∷ []))) (sym (one a)) (subst (Keeps (g a)) (sym (one b)) (kept_under g w a b h.0))
one_kept f g none one more w (a ∷ c ∷ xs) (b ∷ ys) h = subst (λ x. Keeps x (f (b ∷ ys))) (sym (more a c xs)) tt
one_kept f g none one more w (a ∷ []) (b ∷ d ∷ ys) h = absurd h.1
one_kept f g none one more w [] (b ∷ ys) h = absurd h
one_kept f g none one more w (a ∷ xs) [] h = absurd h

substr_kept : (xs ys : List Kind) → Zipped Keeps xs ys → Keeps (call_kind known.Substr xs) (call_kind known.Substr ys)
unfolding call_kind
substr_kept (a ∷ b ∷ c ∷ []) (x ∷ y ∷ z ∷ []) h =
    only_if_kept (fits ty.Text a && (is_number b && is_number c)) (fits ty.Text x && (is_number y && is_number z)) (Of ty.Text) (Of ty.Text)
    (λ t. three (fits ty.Text a) (is_number b) (is_number c) (fits ty.Text x) (is_number y) (is_number z)
    (fits_kept ty.Text a x h.0) (number_kept b y h.1.0) (number_kept c z h.1.1.0) t)
    refl
  where
    three : (a b c x y z : Bool) → (a ≡ true → x ≡ true) → (b ≡ true → y ≡ true) → (c ≡ true → z ≡ true) → (a && (b && c)) ≡ true → (x && (y && z)) ≡ true
    three true true true x y z h k l t = λ i. h refl i && (k refl i && l refl i)
    three true true false x y z h k l t = cc
    three true false c x y z h k l t = cc
    three false b c x y z h k l t = cc
substr_kept [] ys h = tt
substr_kept (a ∷ []) ys h = tt
substr_kept (a ∷ b ∷ []) ys h = tt
substr_kept (a ∷ b ∷ c ∷ d ∷ xs) ys h = tt
substr_kept (a ∷ b ∷ c ∷ []) [] h = absurd h
substr_kept (a ∷ b ∷ c ∷ []) (x ∷ []) h = absurd h.1
substr_kept (a ∷ b ∷ c ∷ []) (x ∷ y ∷ []) h = absurd h.1.1
substr_kept (a ∷ b ∷ c ∷ []) (x ∷ y ∷ z ∷ w ∷ ys) h = absurd h.1.1.1

least_kept : (xs ys : List Kind) → Zipped Keeps xs ys → Keeps (settled (common xs)) (settled (common ys))
least_kept xs ys h = settled_kept (common xs) (common ys) (common_kept xs ys h)

ordered_wrong : is_ordered Wrong ≡ false
unfolding is_ordered is_right
ordered_wrong = refl

extreme_wrong : only_if (is_ordered Wrong) (settled Wrong) ≡ Wrong
extreme_wrong = if_wrong (is_ordered Wrong) (settled Wrong) ordered_wrong

call_kept : (f : Known) (xs ys : List Kind) → Zipped Keeps xs ys → Keeps (call_kind f xs) (call_kind f ys)
unfolding call_kind sum_kind
call_kept known.Coalesce xs ys h = least_kept xs ys h
call_kept known.Greatest xs ys h = least_kept xs ys h
call_kept known.Least xs ys h = least_kept xs ys h
call_kept known.Length xs ys h =
    one_kept (call_kind known.Length) (λ a. only_if (fits ty.Text a) (Of ty.Integer)) refl (λ a. refl) (λ a b ks. refl)
    (if_wrong _ (Of ty.Integer) (fits_wrong ty.Text)) xs ys h
call_kept known.Substr xs ys h = substr_kept xs ys h
call_kept known.Count xs ys h =
    one_kept (call_kind known.Count) (λ a. only_if (is_right a) (Of ty.Bigint)) refl (λ a. refl) (λ a b ks. refl) (if_wrong _ (Of ty.Bigint) right_wrong) xs
    ys h
call_kept known.BoolAnd xs ys h =
    one_kept (call_kind known.BoolAnd) (λ a. only_if (fits ty.Boolean a) (Of ty.Boolean)) refl (λ a. refl) (λ a b ks. refl)
    (if_wrong _ (Of ty.Boolean) (fits_wrong ty.Boolean)) xs ys h
call_kept known.BoolOr xs ys h =
    one_kept (call_kind known.BoolOr) (λ a. only_if (fits ty.Boolean a) (Of ty.Boolean)) refl (λ a. refl) (λ a b ks. refl)
    (if_wrong _ (Of ty.Boolean) (fits_wrong ty.Boolean)) xs ys h
call_kept known.Min xs ys h =
    one_kept (call_kind known.Min) (λ a. only_if (is_ordered a) (settled a)) refl (λ a. refl) (λ a b ks. refl) extreme_wrong xs ys h
call_kept known.Max xs ys h =
    one_kept (call_kind known.Max) (λ a. only_if (is_ordered a) (settled a)) refl (λ a. refl) (λ a b ks. refl) extreme_wrong xs ys h
call_kept known.Sum xs ys h =
    one_kept (call_kind known.Sum) sum_kind refl (λ a. refl) (λ a b ks. refl) refl xs ys h

pub called_kept : (f : Option Known) (xs ys : List Kind) → Zipped Keeps xs ys → Keeps (called f xs) (called f ys)
unfolding called
called_kept None xs ys h = tt
called_kept (Some f) xs ys h = call_kept f xs ys h

-- ---- what may be missing

-- what is there is the same there
abbrev pub KeepsSome : {A : Type 0} → Option A → Option A → Type 0
KeepsSome None b = Unit {0}
KeepsSome (Some x) b = b ≡ Some x

pub some_itself : {A : Type 0} (o : Option A) → KeepsSome o o
some_itself None = tt
some_itself (Some x) = refl

pub some_same : {A : Type 0} (a b : Option A) → b ≡ a → KeepsSome a b
some_same None b h = tt
some_same (Some x) b h = h

pub some_under : {A B : Type 0} (f : Option A → Option B) → f None ≡ None → (a b : Option A) → KeepsSome a b → KeepsSome (f a) (f b)
some_under f n None b h = subst (λ o. KeepsSome o (f b)) (sym n) tt
some_under f n (Some x) b h = some_same (f (Some x)) (f b) (ap f h)

pub some_then : {A : Type 0} (a b c : Option A) → KeepsSome a b → KeepsSome b c → KeepsSome a c
some_then None b c h k = tt
some_then (Some x) b c h k = subst (λ o. KeepsSome o c) h k

kind_under : (f : Shape → Kind) → f None ≡ Wrong → (a b : Shape) → KeepsSome a b → Keeps (f a) (f b)
kind_under f n None b h = subst (λ k. Keeps k (f b)) (sym n) tt
kind_under f n (Some x) b h = kept_same (f (Some x)) (f b) (ap f h)

pub scalar_kept : (a b : Shape) → KeepsSome a b → Keeps (scalar_kind a) (scalar_kind b)
unfolding scalar_kind
scalar_kept = kind_under scalar_kind refl

pub exists_kept : (a b : Shape) → KeepsSome a b → Keeps (exists_kind a) (exists_kind b)
unfolding exists_kind
exists_kept = kind_under exists_kind (if_wrong false (Of ty.Boolean) refl)
