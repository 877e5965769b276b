-- The rows of a select are of its kinds where its parts are.
use Rattle.std.proofs.Common.{◌≡◌, refl, sym, subst, pos, negsuc, Bool, true, false, ◌&&◌, List, [], ◌∷◌, ◌++◌, map, take, Option, Some, None, Ok}
use Rattle.std.specs.Prelude.{if◌then◌else◌, option_and_then, zip}
use Rattle.std.specs.List.{AllZip, list_all}
use Rattle.away_values.specs.declared.types.Ty.{Ty}
use Rattle.away_values.specs.declared.values.Value.{Value}
use Rattle.away_values.specs.declared.values.Value.TheVariants as val
use Rattle.away_values.specs.Operators.{is_true}
use Rattle.away_values.specs.Results.{Or, and_then, mapped, each}
use Rattle.away_typing.specs.declared.kind.Kind.{Kind}
use Rattle.away_typing.specs.Kinds.{is_right}
use Rattle.away_typing.specs.Typing as typing
use Rattle.away_typing.specs.Typing.{Places}
use Rattle.sql_meaning.specs.Context.{Rows, Frame, Context, inside, over}
use Rattle.sql_meaning.specs.Expressions.{ExprMeaning, FromMeaning, KeyMeaning, values, any_aggregates}
use Rattle.sql_meaning.specs.Selects as meant
use Rattle.sql_meaning.proofs.Lists.{Zipped}
use Rattle.type_soundness.specs.Sorts.{Every}
use Rattle.type_soundness.specs.Surroundings.{IsRow, AreRows, IsFrame, Fit}
use Rattle.type_soundness.specs.TypedValues.{Holds}
use Rattle.type_soundness.proofs.Calls.{AllAt, values_hold}
use Rattle.type_soundness.proofs.KindRules.{column_typed}
use Rattle.type_soundness.proofs.Lists.{chosen, every_take, every_map, every_each, every_joined, zip_push}
use Rattle.type_soundness.proofs.Places.{whole_seen, fit_inside, fit_over}
use Rattle.type_soundness.proofs.Results.{then_of, mapped_of, ok_is}

-- ---- what an optional result says of its parts

pub record SomeOf {A B : Type 0} (f : A → Option B) (o : Option A) (y : B) : Type 0 where
  pub x : A
  pub first : o ≡ Some x
  pub second : f x ≡ Some y

pub some_of : {A B : Type 0} (f : A → Option B) (o : Option A) (y : B) → option_and_then f o ≡ Some y → SomeOf f o y
some_of f None y e = cc
some_of f (Some x) y e = record { x = x; first = refl; second = e }

pub some_is : {A : Type 0} (x y : A) → Some x ≡ Some y → y ≡ x
some_is x y e = cc

-- ---- columns whose kinds are right

pub record IsColumn (k : Kind) (v : Value) : Type 0 where
  pub right : is_right k ≡ true
  pub holds : Holds k v

-- a row of a select
abbrev pub IsListed : List Kind → List Value → Type 0
IsListed = AllZip IsColumn

both_true : (a b : Bool) → (a && b) ≡ true → (a ≡ true) × (b ≡ true)
both_true true b h = (refl, h)
both_true false b h = cc

listed_of : (ks : List Kind) (vs : List Value) → list_all is_right ks ≡ true → AllZip Holds ks vs → IsListed ks vs
listed_of [] [] r h = tt
listed_of (k ∷ ks) (v ∷ vs) r h = let both = both_true (is_right k) (list_all is_right ks) r in (record { right = both.0; holds = h.0 }, listed_of ks vs both.1 h.1)
listed_of [] (v ∷ vs) r h = absurd h
listed_of (k ∷ ks) [] r h = absurd h

pub row_of : (ks : List Kind) (vs : List Value) → IsListed ks vs → IsRow (typing.types_of ks) vs
row_of [] [] h = tt
row_of (k ∷ ks) (v ∷ vs) h = (column_typed k v h.0.right h.0.holds, row_of ks vs h.1)
row_of [] (v ∷ vs) h = absurd h
row_of (k ∷ ks) [] h = absurd h

-- ---- FROM

module _ (p : Places) (cx : Context) where
  -- the rows of an item beside a row of the items before it
  abbrev pub PartAt : typing.Part → FromMeaning → Type 0
  PartAt part m = (types : typing.Frame) (frame : Frame) → IsFrame types frame → (ts : List Ty) → part p types ≡ Some ts → (rows : Rows) → m cx frame ≡ Ok rows → AreRows ts rows

  extended : (types : typing.Frame) (ts : List Ty) (part : typing.Part) (m : FromMeaning) → PartAt part m → part p types ≡ Some ts → (frames : List Frame) → Every (IsFrame types) frames → (out : List Frame) → meant.extend cx m frames ≡ Ok out → Every (IsFrame (types ++ ts ∷ [])) out
  extended types ts part m h s frames f out e =
      every_joined (IsFrame types) (IsFrame (types ++ ts ∷ [])) (λ frame. mapped (map (λ row. frame ++ row ∷ [])) (m cx frame))
      (λ frame g wide d.
      let a = mapped_of (map (λ row. frame ++ row ∷ [])) (m cx frame) wide d in
      subst (Every (IsFrame (types ++ ts ∷ []))) (sym a.second)
      (every_map (IsRow ts) (IsFrame (types ++ ts ∷ [])) (λ row. frame ++ row ∷ []) (λ row r. zip_push IsRow types frame ts row g r) a.x (h types frame g ts s a.x a.first)))
      frames f out e

  pub product_at : (parts : List typing.Part) (ms : List FromMeaning) → Zipped PartAt parts ms → (types : typing.Frame) (frames : List Frame) → Every (IsFrame types) frames → (whole : typing.Frame) → typing.framed p parts types ≡ Some whole → (out : List Frame) → meant.product cx ms frames ≡ Ok out → Every (IsFrame whole) out
  product_at [] [] h types frames f whole s out e =
      subst (λ w. Every (IsFrame w) out) (sym (some_is types whole s)) (subst (Every (IsFrame types)) (sym (ok_is frames out e)) f)
  product_at (x ∷ xs) (m ∷ ms) h types frames f whole s out e =
      let a = some_of (λ ts. typing.framed p xs (types ++ ts ∷ [])) (x p types) whole s in
      let b = then_of (meant.extend cx m frames) (meant.product cx ms) out e in
      product_at xs ms h.1 (types ++ a.x ∷ []) b.x (extended types a.x x m h.0 a.first frames f b.x b.first) whole a.second out b.second
  product_at _ _ h types frames f whole s out e = absurd h

-- ---- WHERE, ORDER BY and LIMIT leave rows out or put them in order

module _ {A : Type 0} (P : A → Type 0) where
  every_keep : (test : A → Or Value) (xs : List A) → Every P xs → (ys : List A) → meant.keep test xs ≡ Ok ys → Every P ys
  every_keep test [] h ys e = subst (Every P) (sym (ok_is [] ys e)) tt
  every_keep test (x ∷ xs) h ys e =
      let a = then_of (test x) (λ v. mapped (meant.keep_if x (is_true v)) (meant.keep test xs)) ys e in
      let b = mapped_of (meant.keep_if x (is_true a.x)) (meant.keep test xs) ys a.second in
      let more = every_keep test xs h.1 b.x b.first in
      subst (Every P) (sym b.second) (chosen (Every P) (is_true a.x) (x ∷ b.x) b.x (h.0, more) more)

pub every_kept : (P : Frame → Type 0) (cx : Context) (filter : Option ExprMeaning) (frames : List Frame) → Every P frames → (out : List Frame) → meant.kept cx filter frames ≡ Ok out → Every P out
every_kept P cx None frames h out e = subst (Every P) (sym (ok_is frames out e)) h
every_kept P cx (Some m) frames h out e = every_keep P (λ frame. m.value (inside frame cx)) frames h out e

module _ (P : List Value → Type 0) where
  abbrev Second : List Value × List Value → Type 0
  Second x = P x.1

  every_put : (before : List Value → List Value → Bool) (x : List Value × List Value) (ys : List (List Value × List Value)) → Second x → Every Second ys → Every Second (meant.put before x ys)
  every_put before x [] h g = (h, tt)
  every_put before x (y ∷ ys) h g = chosen (Every Second) (before y.0 x.0) (y ∷ meant.put before x ys) (x ∷ y ∷ ys) (g.0, every_put before x ys h g.1) (h, g)

  every_sorted : (before : List Value → List Value → Bool) (xs : List (List Value × List Value)) → Every Second xs → Every Second (meant.sorted before xs)
  every_sorted before [] h = tt
  every_sorted before (x ∷ xs) h = every_put before x (meant.sorted before xs) h.0 (every_sorted before xs h.1)

  every_zip : (frames : List Frame) (rows : Rows) → Every P rows → Every (λ (x : Frame × List Value). P x.1) (zip frames rows)
  every_zip [] rows h = tt
  every_zip (f ∷ fs) [] h = tt
  every_zip (f ∷ fs) (row ∷ rows) h = (h.0, every_zip fs rows h.1)

  pub every_ordered : (cx : Context) (ks : List KeyMeaning) (frames : List Frame) (rows : Rows) → Every P rows → (out : Rows) → meant.ordered cx ks frames rows ≡ Ok out → Every P out
  every_ordered cx [] frames rows h out e = subst (Every P) (sym (ok_is rows out e)) h
  every_ordered cx (k ∷ ks) frames rows h out e =
      let keyed = each (λ (x : Frame × List Value). mapped (λ keys. (keys, x.1)) (each (λ (s : KeyMeaning). s.value (inside x.0 cx)) (k ∷ ks))) (zip frames rows) in
      let a = mapped_of (λ (keyed : List (List Value × List Value)). map (λ x. x.1) (meant.sorted (meant.comes_before (k ∷ ks)) keyed)) keyed out e in
      subst (Every P) (sym a.second)
      (every_map Second P (λ x. x.1) (λ x g. g) (meant.sorted (meant.comes_before (k ∷ ks)) a.x)
      (every_sorted (meant.comes_before (k ∷ ks)) a.x
      (every_each (λ (x : Frame × List Value). P x.1) Second (λ (x : Frame × List Value). mapped (λ keys. (keys, x.1)) (each (λ (s : KeyMeaning). s.value (inside x.0 cx)) (k ∷ ks)))
      (λ x g y d. let b = mapped_of (λ keys. (keys, x.1)) (each (λ (s : KeyMeaning). s.value (inside x.0 cx)) (k ∷ ks)) y d in subst Second (sym b.second) g)
      (zip frames rows) (every_zip frames rows h) a.x a.first)))

  every_taken : (v : Value) (rows : Rows) → Every P rows → (out : Rows) → meant.taken v rows ≡ Ok out → Every P out
  every_taken (val.Int (pos n)) rows h out e = subst (Every P) (sym (ok_is (take n rows) out e)) (every_take P n rows h)
  every_taken (val.Int (negsuc n)) rows h out e = cc
  every_taken val.Null rows h out e = subst (Every P) (sym (ok_is rows out e)) h
  every_taken (val.Bool b) rows h out e = subst (Every P) (sym (ok_is rows out e)) h
  every_taken (val.Text t) rows h out e = subst (Every P) (sym (ok_is rows out e)) h

  pub every_cut : (cx : Context) (limit : Option ExprMeaning) (rows : Rows) → Every P rows → (out : Rows) → meant.cut cx limit rows ≡ Ok out → Every P out
  every_cut cx None rows h out e = subst (Every P) (sym (ok_is rows out e)) h
  every_cut cx (Some m) rows h out e = let a = then_of (m.value (inside [] cx)) (λ v. meant.taken v rows) out e in every_taken a.x rows h out a.second

-- ---- the list

module _ (p : Places) (cx : Context) (types : typing.Frame) (ks : List typing.Term) (ms : List ExprMeaning) (fit : Fit p cx) (items : (here : Context) → here.args ≡ cx.args → Fit (typing.inside types p) here → AllAt (typing.inside types p) here ks ms) where
  abbrev kinds : List Kind
  kinds = typing.kinds (typing.inside types p) ks

  list_row : list_all is_right kinds ≡ true → (here : Context) → here.args ≡ cx.args → Fit (typing.inside types p) here → (row : List Value) → values here ms ≡ Ok row → IsListed kinds row
  list_row r here a f row e = listed_of kinds row r (values_hold (typing.inside types p) here ks ms (items here a f) row e)

  pub listed_at : (keys : List KeyMeaning) → list_all is_right kinds ≡ true → (frames : List Frame) → Every (IsFrame types) frames → (out : Rows) → meant.listed cx ms keys frames ≡ Ok out → Every (IsListed kinds) out
  listed_at keys r frames h out e = by (any_aggregates ms) e
    where
      by : (b : Bool) → (if b then mapped (λ row. row ∷ []) (values (over frames cx) ms) else and_then (each (λ frame. values (inside frame cx) ms) frames) (meant.ordered cx keys frames)) ≡ Ok out → Every (IsListed kinds) out
      by true e =
          let a = mapped_of (λ row. row ∷ []) (values (over frames cx) ms) out e in
          subst (Every (IsListed kinds)) (sym a.second) (list_row r (over frames cx) refl (fit_over p cx types frames fit h) a.x a.first, tt)
      by false e =
          let a = then_of (each (λ frame. values (inside frame cx) ms) frames) (meant.ordered cx keys frames) out e in
          every_ordered (IsListed kinds) cx keys frames a.x
          (every_each (IsFrame types) (IsListed kinds) (λ frame. values (inside frame cx) ms) (λ frame g row d. list_row r (inside frame cx) refl (fit_inside p cx types frame fit (whole_seen types frame g)) row d) frames h a.x a.first)
          out a.second
