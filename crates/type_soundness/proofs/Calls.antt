-- The values of calls are of the kinds that the typing gives them.
use Rattle.std.proofs.Common.{◌≡◌, sym, subst, ℕ, ℤ, pos, Bool, true, false, not, ◌&&◌, List, [], ◌∷◌, filter, length, Option, Some, None, Ok, Err}
use Rattle.std.specs.Prelude.{if◌then◌else◌, fold, int_lt, codes, ◌+ℤ◌}
use Rattle.std.specs.List.{AllZip, list_all, list_any}
use Rattle.away_values.specs.declared.types.Ty.TheVariants as ty
use Rattle.away_values.specs.declared.values.Class.{Class}
use Rattle.away_values.specs.declared.values.Value.{Value}
use Rattle.away_values.specs.declared.values.Value.TheVariants as val
use Rattle.away_values.specs.Operators as op
use Rattle.away_values.specs.Results.{Or, mapped, each_joined, class}
use Rattle.away_names.specs.declared.function.Known.{Known}
use Rattle.away_names.specs.declared.function.Known.TheVariants as known
use Rattle.away_names.specs.Functions as names
use Rattle.away_typing.specs.declared.kind.Kind.{Kind}
use Rattle.away_typing.specs.declared.kind.Kind.TheVariants.{Null, Of, Sum, Wrong}
use Rattle.away_typing.specs.Kinds.{meet, common, fits, is_right, is_number, sum_kind, settled}
use Rattle.away_typing.specs.Typing as typing
use Rattle.away_typing.specs.Typing.{Places}
use Rattle.sql_meaning.specs.Context.{Frame, Context, at, at_row}
use Rattle.sql_meaning.specs.Expressions.{ExprMeaning, answers, values, over_group, called}
use Rattle.sql_meaning.specs.Functions as meant
use Rattle.sql_meaning.specs.Functions.{Function}
use Rattle.sql_meaning.specs.Parts as parts
use Rattle.sql_meaning.proofs.Lists.{Zipped}
use Rattle.type_soundness.specs.Sorts.{IsOf, Every}
use Rattle.type_soundness.specs.TypedValues.{Holds}
use Rattle.type_soundness.proofs.Functions.{stands_for, function_is}
use Rattle.type_soundness.proofs.KindRules.{holds_null, holds_at, only_if_holds, meet_right, met_before, settled_holds, sort_of}
use Rattle.away_values.proofs.Typing.{are_typed}
use Rattle.type_soundness.proofs.Lists.{chosen, every_filter, every_joined}
use Rattle.type_soundness.proofs.Operators.{typed_ok}
use Rattle.type_soundness.proofs.Results.{then_of, mapped_of, ok_is}

-- ---- values of functions

-- a whole number is a sum's, of integers and of bigints
sum_kind_holds : (k : Kind) (r : Value) → IsOf ty.Bigint r → Holds (sum_kind k) r
unfolding sum_kind
sum_kind_holds Null r h = h
sum_kind_holds (Of ty.Bigint) r h = h
sum_kind_holds (Of ty.Integer) r h = h
sum_kind_holds (Of ty.Boolean) r h = tt
sum_kind_holds (Of ty.Text) r h = tt
sum_kind_holds Sum r h = tt
sum_kind_holds Wrong r h = tt

part_typed : (b : Bool) (t : List ℕ) (c : Class) (r : Value) → ◌≡◌ {A = Or Value} (if b then Err c else Ok (val.Text t)) (Ok r) → IsOf ty.Text r
part_typed true t c r e = cc
part_typed false t c r e = typed_ok ty.Text (val.Text t) r e tt

substr_typed : (t p n r : Value) → op.substr t p n ≡ Ok r → IsOf ty.Text r
substr_typed (val.Text t) (val.Int p) (val.Int n) r e = part_typed (int_lt n (pos 0)) (op.part p (p +ℤ n) (pos 1) t) (class (codes "22011")) r e
substr_typed (val.Text t) (val.Int p) val.Null r e = typed_ok ty.Text val.Null r e tt
substr_typed (val.Text t) (val.Int p) (val.Bool n) r e = typed_ok ty.Text val.Null r e tt
substr_typed (val.Text t) (val.Int p) (val.Text n) r e = typed_ok ty.Text val.Null r e tt
substr_typed (val.Text t) val.Null n r e = typed_ok ty.Text val.Null r e tt
substr_typed (val.Text t) (val.Bool p) n r e = typed_ok ty.Text val.Null r e tt
substr_typed (val.Text t) (val.Text p) n r e = typed_ok ty.Text val.Null r e tt
substr_typed val.Null p n r e = typed_ok ty.Text val.Null r e tt
substr_typed (val.Int t) p n r e = typed_ok ty.Text val.Null r e tt
substr_typed (val.Bool t) p n r e = typed_ok ty.Text val.Null r e tt

module _ (P : Value → Type 0) where
  extreme_of : (g : Bool) (a b : Value) → P a → P b → P (op.extreme g a b)
  extreme_of g val.Null b h k = k
  extreme_of g (val.Int a) val.Null h k = h
  extreme_of g (val.Bool a) val.Null h k = h
  extreme_of g (val.Text a) val.Null h k = h
  extreme_of g (val.Int a) (val.Int b) h k = chosen P _ _ _ k h
  extreme_of g (val.Int a) (val.Bool b) h k = chosen P _ _ _ k h
  extreme_of g (val.Int a) (val.Text b) h k = chosen P _ _ _ k h
  extreme_of g (val.Bool a) (val.Int b) h k = chosen P _ _ _ k h
  extreme_of g (val.Bool a) (val.Bool b) h k = chosen P _ _ _ k h
  extreme_of g (val.Bool a) (val.Text b) h k = chosen P _ _ _ k h
  extreme_of g (val.Text a) (val.Int b) h k = chosen P _ _ _ k h
  extreme_of g (val.Text a) (val.Bool b) h k = chosen P _ _ _ k h
  extreme_of g (val.Text a) (val.Text b) h k = chosen P _ _ _ k h

  extremes_of : (g : Bool) (a : Value) (vs : List Value) → P a → Every P vs → P (fold (op.extreme g) a vs)
  extremes_of g a [] h k = h
  extremes_of g a (v ∷ vs) h k = extremes_of g (op.extreme g a v) vs (extreme_of g a v h k.0) k.1

added_typed : (a b : Value) → IsOf ty.Bigint a → IsOf ty.Bigint (meant.added a b)
added_typed val.Null val.Null h = tt
added_typed val.Null (val.Int b) h = tt
added_typed val.Null (val.Bool b) h = tt
added_typed val.Null (val.Text b) h = tt
added_typed (val.Int a) val.Null h = tt
added_typed (val.Int a) (val.Int b) h = tt
added_typed (val.Int a) (val.Bool b) h = tt
added_typed (val.Int a) (val.Text b) h = tt
added_typed (val.Bool a) b h = absurd h
added_typed (val.Text a) b h = absurd h

total_typed : (a : Value) (vs : List Value) → IsOf ty.Bigint a → IsOf ty.Bigint (fold meant.added a vs)
total_typed a [] h = h
total_typed a (v ∷ vs) h = total_typed (meant.added a v) vs (added_typed a v h)

tested_typed : (b : Bool) (n : ℤ) (c : Class) (r : Value) → ◌≡◌ {A = Or Value} (if b then Ok (val.Int n) else Err c) (Ok r) → IsOf ty.Bigint r
tested_typed true n c r e = typed_ok ty.Bigint (val.Int n) r e tt
tested_typed false n c r e = cc

in_range_typed : (v r : Value) → IsOf ty.Bigint v → meant.in_range v ≡ Ok r → IsOf ty.Bigint r
in_range_typed val.Null r h e = typed_ok ty.Bigint val.Null r e tt
in_range_typed (val.Int n) r h e = tested_typed (op.fits n) n (class (codes "22003")) r e
in_range_typed (val.Bool b) r h e = absurd h
in_range_typed (val.Text t) r h e = absurd h

and_all_typed : (vs : List Value) (r : Value) → meant.aggregate meant.BoolAnd vs ≡ Ok r → IsOf ty.Boolean r
and_all_typed [] r e = typed_ok ty.Boolean val.Null r e tt
and_all_typed (v ∷ vs) r e = typed_ok ty.Boolean (val.Bool (list_all op.is_true (v ∷ vs))) r e tt

or_all_typed : (vs : List Value) (r : Value) → meant.aggregate meant.BoolOr vs ≡ Ok r → IsOf ty.Boolean r
or_all_typed [] r e = typed_ok ty.Boolean val.Null r e tt
or_all_typed (v ∷ vs) r e = typed_ok ty.Boolean (val.Bool (list_any op.is_true (v ∷ vs))) r e tt

-- ---- arguments

module _ (p : Places) where
  abbrev pub At : Context → typing.Term → ExprMeaning → Type 0
  At cx k m = (v : Value) → m.value cx ≡ Ok v → Holds (k p) v

  abbrev pub AllAt : Context → List typing.Term → List ExprMeaning → Type 0
  AllAt cx = Zipped (At cx)

  pub values_hold : (cx : Context) (ks : List typing.Term) (ms : List ExprMeaning) → AllAt cx ks ms → (vs : List Value) → values cx ms ≡ Ok vs → AllZip Holds (typing.kinds p ks) vs
  values_hold cx [] [] h vs e = subst (AllZip Holds []) (sym (ok_is [] vs e)) tt
  values_hold cx (k ∷ ks) (m ∷ ms) h vs e =
      let a = then_of (m.value cx) (λ v. mapped (λ vs. v ∷ vs) (values cx ms)) vs e in
      let b = mapped_of (λ vs. a.x ∷ vs) (values cx ms) vs a.second in
      subst (AllZip Holds (typing.kinds p (k ∷ ks))) (sym b.second) (h.0 a.x a.first, values_hold cx ks ms h.1 b.x b.first)
  values_hold cx _ _ h vs e = absurd h

  known_step : (b : Bool) (k j : Kind) (ks : List Kind) (rest : Or Value) (w v : Value) → (rest ≡ Ok v → Holds (fold meet (meet k j) ks) v) → Holds j w → (if b then rest else Ok w) ≡ Ok v → Holds (fold meet (meet k j) ks) v
  known_step true k j ks rest w v more g e = more e
  known_step false k j ks rest w v more g e = holds_at (fold meet (meet k j) ks) v w (ok_is w v e) (met_before (meet k j) ks w (meet_right k j w g))

  -- COALESCE, behind the arguments that were NULL
  known_holds : (cx : Context) (k : Kind) (ks : List typing.Term) (ms : List ExprMeaning) → AllAt cx ks ms → (v : Value) → parts.first_known (answers cx ms) ≡ Ok v → Holds (fold meet k (typing.kinds p ks)) v
  known_holds cx k [] [] h v e = holds_at k v val.Null (ok_is val.Null v e) (holds_null k)
  known_holds cx k (x ∷ xs) (m ∷ ms) h v e =
      let a = then_of (m.value cx) (λ w. if op.is_null w then parts.first_known (answers cx ms) else Ok w) v e in
      known_step (op.is_null a.x) k (x p) (typing.kinds p xs) (parts.first_known (answers cx ms)) a.x v (λ e. known_holds cx (meet k (x p)) xs ms h.1 v e) (h.0 a.x a.first) a.second
  known_holds cx k _ _ h v e = absurd h

all_common : (k : Kind) (ks : List Kind) (vs : List Value) → AllZip Holds ks vs → Every (Holds (fold meet k ks)) vs
all_common k [] [] h = tt
all_common k (j ∷ ks) (v ∷ vs) h = (met_before (meet k j) ks v (meet_right k j v h.0), all_common (meet k j) ks vs h.1)
all_common k [] (v ∷ vs) h = absurd h
all_common k (j ∷ ks) [] h = absurd h

extreme_holds : (g : Bool) (ks : List Kind) (vs : List Value) (r : Value) → AllZip Holds ks vs → ◌≡◌ {A = Or Value} (Ok (fold (op.extreme g) val.Null vs)) (Ok r) → Holds (settled (common ks)) r
extreme_holds g ks vs r h e =
    settled_holds (common ks) r
    (holds_at (common ks) r (fold (op.extreme g) val.Null vs) (ok_is (fold (op.extreme g) val.Null vs) r e)
    (extremes_of (Holds (common ks)) g val.Null vs (holds_null (common ks)) (all_common Null ks vs h)))

-- ---- calls

module _ (p : Places) (cx : Context) where
  -- the argument of an aggregate, at each row of its group
  abbrev pub OverRows : typing.Term → ExprMeaning → Type 0
  OverRows k m = Every (λ frame. At p (at_row frame cx) k m) cx.group

  single_every : (k : typing.Term) (m : ExprMeaning) (frame : Frame) → At p (at_row frame cx) k m → (vs : List Value) → values (at_row frame cx) (m ∷ []) ≡ Ok vs → Every (Holds (k p)) vs
  single_every k m frame h vs e =
      let a = then_of (m.value (at_row frame cx)) (λ v. mapped (λ vs. v ∷ vs) (values (at_row frame cx) [])) vs e in
      subst (Every (Holds (k p))) (sym (ok_is (a.x ∷ []) vs a.second)) (h a.x a.first, tt)

  -- over the values of its argument that aren't NULL
  group_holds : (f : Function) (k : typing.Term) (m : ExprMeaning) (K : Kind) → OverRows k m → ((vs : List Value) → Every (Holds (k p)) vs → (r : Value) → meant.aggregate f vs ≡ Ok r → Holds K r) → (r : Value) → over_group f (m ∷ []) cx ≡ Ok r → Holds K r
  group_holds f k m K h go r e =
      let a = then_of (each_joined (λ frame. values (at_row frame cx) (m ∷ [])) cx.group) (λ vs. meant.aggregate f (filter (λ v. not (op.is_null v)) vs)) r e in
      let all = every_joined (λ frame. At p (at_row frame cx) k m) (Holds (k p)) (λ frame. values (at_row frame cx) (m ∷ [])) (λ frame g vs e. single_every k m frame g vs e) cx.group h a.x a.first in
      go (filter (λ v. not (op.is_null v)) a.x) (every_filter (Holds (k p)) (λ v. not (op.is_null v)) a.x all) r a.second

  abbrev Calls : Known → Type 0
  Calls f = (ks : List typing.Term) (ms : List ExprMeaning) → AllAt p cx ks ms → Zipped OverRows ks ms → (r : Value) → called (stands_for (Some f)) ms cx ≡ Ok r → Holds (typing.call_kind f (typing.kinds p ks)) r

  coalesce_holds : Calls known.Coalesce
  unfolding typing.call_kind
  coalesce_holds ks ms h g r e = settled_holds (common (typing.kinds p ks)) r (known_holds p cx Null ks ms h r e)

  greatest_holds : Calls known.Greatest
  unfolding typing.call_kind
  greatest_holds ks ms h g r e = let a = then_of (values cx ms) (meant.scalar meant.Greatest) r e in extreme_holds true (typing.kinds p ks) a.x r (values_hold p cx ks ms h a.x a.first) a.second

  least_holds : Calls known.Least
  unfolding typing.call_kind
  least_holds ks ms h g r e = let a = then_of (values cx ms) (meant.scalar meant.Least) r e in extreme_holds false (typing.kinds p ks) a.x r (values_hold p cx ks ms h a.x a.first) a.second

  length_holds : Calls known.Length
  unfolding typing.call_kind
  length_holds [] ms h g r e = tt
  length_holds (k ∷ []) ms h g r e =
      only_if_holds (fits ty.Text (k p)) (Of ty.Integer) r
      (λ s. let a = then_of (values cx ms) (meant.scalar meant.Length) r e in sort_of ty.Integer r (are_typed.small_integer (op.length_of (at a.x 0)) r a.second))
  length_holds (k ∷ j ∷ ks) ms h g r e = tt

  substr_holds : Calls known.Substr
  unfolding typing.call_kind
  substr_holds [] ms h g r e = tt
  substr_holds (k ∷ []) ms h g r e = tt
  substr_holds (k ∷ j ∷ []) ms h g r e = tt
  substr_holds (k ∷ j ∷ i ∷ []) ms h g r e =
      only_if_holds (fits ty.Text (k p) && (is_number (j p) && is_number (i p))) (Of ty.Text) r
      (λ s. let a = then_of (values cx ms) (meant.scalar meant.Substr) r e in substr_typed (at a.x 0) (at a.x 1) (at a.x 2) r a.second)
  substr_holds (k ∷ j ∷ i ∷ l ∷ ks) ms h g r e = tt

  count_holds : Calls known.Count
  unfolding typing.call_kind
  count_holds [] ms h g r e = tt
  count_holds (k ∷ []) (m ∷ []) h g r e =
      only_if_holds (is_right (k p)) (Of ty.Bigint) r
      (λ s. group_holds meant.Count k m (Of ty.Bigint) g.0 (λ vs w r e. typed_ok ty.Bigint (val.Int (pos (length vs))) r e tt) r e)
  count_holds (k ∷ []) [] h g r e = absurd h
  count_holds (k ∷ []) (m ∷ n ∷ ms) h g r e = absurd h.1
  count_holds (k ∷ j ∷ ks) ms h g r e = tt

  bool_and_holds : Calls known.BoolAnd
  unfolding typing.call_kind
  bool_and_holds [] ms h g r e = tt
  bool_and_holds (k ∷ []) (m ∷ []) h g r e =
      only_if_holds (fits ty.Boolean (k p)) (Of ty.Boolean) r (λ s. group_holds meant.BoolAnd k m (Of ty.Boolean) g.0 (λ vs w r e. and_all_typed vs r e) r e)
  bool_and_holds (k ∷ []) [] h g r e = absurd h
  bool_and_holds (k ∷ []) (m ∷ n ∷ ms) h g r e = absurd h.1
  bool_and_holds (k ∷ j ∷ ks) ms h g r e = tt

  bool_or_holds : Calls known.BoolOr
  unfolding typing.call_kind
  bool_or_holds [] ms h g r e = tt
  bool_or_holds (k ∷ []) (m ∷ []) h g r e =
      only_if_holds (fits ty.Boolean (k p)) (Of ty.Boolean) r (λ s. group_holds meant.BoolOr k m (Of ty.Boolean) g.0 (λ vs w r e. or_all_typed vs r e) r e)
  bool_or_holds (k ∷ []) [] h g r e = absurd h
  bool_or_holds (k ∷ []) (m ∷ n ∷ ms) h g r e = absurd h.1
  bool_or_holds (k ∷ j ∷ ks) ms h g r e = tt

  extreme_over : (greatest : Bool) (k : Kind) (vs : List Value) → Every (Holds k) vs → (r : Value) → ◌≡◌ {A = Or Value} (Ok (fold (op.extreme greatest) val.Null vs)) (Ok r) → Holds (settled k) r
  extreme_over greatest k vs h r e =
      settled_holds k r (holds_at k r (fold (op.extreme greatest) val.Null vs) (ok_is (fold (op.extreme greatest) val.Null vs) r e) (extremes_of (Holds k) greatest val.Null vs (holds_null k) h))

  min_holds : Calls known.Min
  unfolding typing.call_kind
  min_holds [] ms h g r e = tt
  min_holds (k ∷ []) (m ∷ []) h g r e =
      only_if_holds (typing.is_ordered (k p)) (settled (k p)) r (λ s. group_holds meant.Min k m (settled (k p)) g.0 (λ vs w r e. extreme_over false (k p) vs w r e) r e)
  min_holds (k ∷ []) [] h g r e = absurd h
  min_holds (k ∷ []) (m ∷ n ∷ ms) h g r e = absurd h.1
  min_holds (k ∷ j ∷ ks) ms h g r e = tt

  max_holds : Calls known.Max
  unfolding typing.call_kind
  max_holds [] ms h g r e = tt
  max_holds (k ∷ []) (m ∷ []) h g r e =
      only_if_holds (typing.is_ordered (k p)) (settled (k p)) r (λ s. group_holds meant.Max k m (settled (k p)) g.0 (λ vs w r e. extreme_over true (k p) vs w r e) r e)
  max_holds (k ∷ []) [] h g r e = absurd h
  max_holds (k ∷ []) (m ∷ n ∷ ms) h g r e = absurd h.1
  max_holds (k ∷ j ∷ ks) ms h g r e = tt

  sum_holds : Calls known.Sum
  unfolding typing.call_kind
  sum_holds [] ms h g r e = tt
  sum_holds (k ∷ []) (m ∷ []) h g r e =
      sum_kind_holds (k p) r (group_holds meant.Sum k m Sum g.0 (λ vs w r e. in_range_typed (fold meant.added val.Null vs) r (total_typed val.Null vs tt) e) r e)
  sum_holds (k ∷ []) [] h g r e = absurd h
  sum_holds (k ∷ []) (m ∷ n ∷ ms) h g r e = absurd h.1
  sum_holds (k ∷ j ∷ ks) ms h g r e = tt

  by_known : (f : Known) → Calls f
  by_known known.Length = length_holds
  by_known known.Substr = substr_holds
  by_known known.Coalesce = coalesce_holds
  by_known known.Greatest = greatest_holds
  by_known known.Least = least_holds
  by_known known.Count = count_holds
  by_known known.Min = min_holds
  by_known known.Max = max_holds
  by_known known.Sum = sum_holds
  by_known known.BoolAnd = bool_and_holds
  by_known known.BoolOr = bool_or_holds

  by_name : (o : Option Known) (ks : List typing.Term) (ms : List ExprMeaning) → AllAt p cx ks ms → Zipped OverRows ks ms → (r : Value) → called (stands_for o) ms cx ≡ Ok r → Holds (typing.called o (typing.kinds p ks)) r
  unfolding typing.called
  by_name None ks ms h g r e = tt
  by_name (Some f) ks ms h g r e = by_known f ks ms h g r e

  pub call_holds : (name : List ℕ) (ks : List typing.Term) (ms : List ExprMeaning) → AllAt p cx ks ms → Zipped OverRows ks ms → (r : Value) → called (meant.function name) ms cx ≡ Ok r → Holds (typing.called (names.function name) (typing.kinds p ks)) r
  call_holds name ks ms h g r e = by_name (names.function name) ks ms h g r (subst (λ f. called f ms cx ≡ Ok r) (function_is name) e)
