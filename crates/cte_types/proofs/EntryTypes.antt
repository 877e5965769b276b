-- The entries of a SELECT INTO have their types where the list of its select fits its targets.
use Rattle.std.proofs.Common.{◌≡◌, refl, ap, sym, ◌∙◌, subst, ℕ, zero, suc, ℤ, pos, Bool, true, false, ◌&&◌, if◌then◌else◌, List, [], ◌∷◌, map, length, slice_get, Option, Some, None, option_map, eq-eqb}
use Rattle.std.proofs.lemmas.List.{length-map}
use Rattle.std.specs.List.{list_all}
use Rattle.std.specs.Prelude.{option_and_then}
use Rattle.away_values.specs.declared.types.Ty.{Ty}
use Rattle.away_values.specs.declared.types.Ty.TheVariants as ty
use Rattle.away_values.specs.Operators.{literal_type}
use Rattle.away_values.specs.declared.operators.CmpOp.{CmpOp}
use Rattle.away_trees.specs.declared.queries.Expr.{Expr}
use Rattle.away_trees.specs.declared.queries.Expr.TheBlock as b
use Rattle.away_trees.specs.declared.queries.Expr.TheVariants as expr
use Rattle.away_trees.specs.declared.queries.Expr.TheViews.{out-Item, out-Select}
use Rattle.away_trees.specs.declared.queries.Item.{Item}
use Rattle.away_trees.specs.declared.queries.Select.{Select}
use Rattle.away_trees.specs.Algebra.{expr_of, from_of, item_of, key_of, select_of}
use Rattle.away_trees.proofs.Equations as eq
use Rattle.away_typing.specs.declared.kind.Kind.{Kind}
use Rattle.away_typing.specs.declared.kind.Kind.TheVariants.{Of}
use Rattle.away_typing.specs.Kinds.{is_number, meet, meet_types, only_if, is_right, same, type_of}
use Rattle.away_typing.specs.Typing as typing
use Rattle.away_typing.specs.Typing.{Places, Frame, inside, kinds, framed, select_kinds, maybe_fits, maybe_number, cast_kind, listed, types_of}
use Rattle.sql_meaning.specs.Template.{below, count_from}
use Rattle.sql_meaning.specs.Trees.{col, item, one}
use Rattle.sql_meaning.proofs.Lists.{Zipped}
use Rattle.sql_meaning.proofs.Uses.{and_first, and_second, both_true}
use Rattle.elaboration.specs.Converting.{assignable, converts}
use Rattle.select_into.specs.Entries.{unmarked}
use Rattle.select_into.specs.Wrapped.{value_name, value_names, as_source, over_source, scalar_over, count_compared, pick, pick_as, picked, null_as, items_as}
use Rattle.type_soundness.specs.Sorts.{Every}
use Rattle.cte_types.specs.Linked.{IsLinked}
use Rattle.cte_types.proofs.Fine.{either_literal}
use Rattle.cte_types.proofs.IntoMarks.{list_kinds}
use Rattle.cte_types.proofs.NullAlone.{own_type, kind_own, own_fits, own_cast}
use Rattle.cte_types.proofs.Positions.{ItemLinked}

abbrev pub T : Select → Places → Option (List Kind)
T s p = select_of typing.typing s p

abbrev pub K : Expr → Places → Kind
K e p = expr_of typing.typing e p

-- the kind may stand where the type is asked for, as it is or converted
abbrev pub FitsIn : Ty → Kind → Type 0
FitsIn t k = assignable t k ≡ true

abbrev pub own_types : List Ty → List Kind → List Ty
own_types (t ∷ ts) (k ∷ ks) = own_type t k ∷ own_types ts ks
own_types _ _ = []

-- ---- a list whose literal NULLs have types

null_kind : (t : Ty) (e : Expr) (p : Places) → IsLinked e → assignable t (K e p) ≡ true → K (null_as t e) p ≡ Of (own_type t (K e p))
unfolding typing.cast_kind
null_kind t b.Null p l f = ap (λ (k : typing.Term). k p) (eq.of_cast typing.typing expr.Null t)
null_kind t e p l f = kind_own e p t l refl f

abbrev items_in : List Item → List typing.Term
items_in is = map (λ i. item_of typing.typing i) is

items_kinds : (ts : List Ty) (is : List Item) (ks : List Kind) (p : Places) → kinds p (items_in is) ≡ ks → Zipped FitsIn ts ks → Every ItemLinked is
    → kinds p (items_in (items_as ts is)) ≡ map (λ t. Of t) (own_types ts ks)
items_kinds ts is ks p e f l = by ts is (subst (Zipped FitsIn ts) (sym e) f) l ∙ ap (λ ks. map (λ t. Of t) (own_types ts ks)) e
  where
    by : (ts : List Ty) (is : List Item) → Zipped FitsIn ts (kinds p (items_in is)) → Every ItemLinked is
        → kinds p (items_in (items_as ts is)) ≡ map (λ t. Of t) (own_types ts (kinds p (items_in is)))
    by [] [] f l = refl
    by (t ∷ ts) (i ∷ is) f l = λ j. null_kind t (out-Item i).expr p l.0 f.0 j ∷ by ts is f.1 l.1 j
    by [] (i ∷ is) f l = absurd f
    by (t ∷ ts) [] f l = absurd f

-- without its marks
unmarked_items : (is : List Item) → items_in (items_as [] is) ≡ items_in is
unmarked_items [] = refl
unmarked_items (i ∷ is) = ap (λ (l : List typing.Term). item_of typing.typing i ∷ l) (unmarked_items is)

pub unmarked_kinds : (s : Select) → select_of typing.typing (unmarked s) ≡ select_of typing.typing s
unmarked_kinds s = list_kinds (items_as [] (out-Select s).list) s (unmarked_items (out-Select s).list)

-- ---- a select

record SomeOf {A B : Type 0} (f : A → Option B) (o : Option A) (y : B) : Type 0 where
  x : A
  first : o ≡ Some x
  second : f x ≡ Some y

some_of : {A B : Type 0} (f : A → Option B) (o : Option A) (y : B) → option_and_then f o ≡ Some y → SomeOf f o y
some_of f None y e = cc
some_of f (Some x) y e = record { x = x; first = refl; second = e }

some_is : {A : Type 0} (x y : A) → Some x ≡ Some y → x ≡ y
some_is x y e = cc

-- by another list whose kinds are right
other_list : (list other : List Kind) (filter : Option Kind) (order : List Kind) (limit : Option Kind) (ks : List Kind) → select_kinds list filter order limit ≡ Some ks
    → list_all is_right other ≡ true → (list ≡ ks) × (select_kinds other filter order limit ≡ Some other)
unfolding select_kinds
other_list list other filter order limit ks e r = by (maybe_fits ty.Boolean filter && (list_all is_right list && rest)) refl e
  where
    rest : Bool
    rest = list_all is_right order && maybe_number limit

    by : (t : Bool) → (maybe_fits ty.Boolean filter && (list_all is_right list && rest)) ≡ t → (if t then Some list else None) ≡ Some ks
        → (list ≡ ks) × ((if maybe_fits ty.Boolean filter && (list_all is_right other && rest) then Some other else None) ≡ Some other)
    by true h e =
        let more = and_second (maybe_fits ty.Boolean filter) (list_all is_right list && rest) h in
        let first = and_first (maybe_fits ty.Boolean filter) (list_all is_right list && rest) h in
        let last = and_second (list_all is_right list) rest more in
        (some_is list ks e, ap (λ t. if t then Some other else None) (both_true (maybe_fits ty.Boolean filter) (list_all is_right other && rest) first (both_true (list_all is_right other) rest r last)))
    by false h e = cc

all_right : (ts : List Ty) → list_all is_right (map (λ t. Of t) ts) ≡ true
unfolding is_right
all_right [] = refl
all_right (t ∷ ts) = all_right ts

-- over a frame, with some list
abbrev kinds_by : Select → Places → List Item → Frame → Option (List Kind)
kinds_by s p list frame =
    let o = out-Select s in
    let q = inside frame p in
    select_kinds (kinds q (items_in list)) (option_map (λ t. t q) (option_map (λ e. expr_of typing.typing e) o.filter))
    (kinds q (map (λ k. key_of typing.typing k) o.order)) (option_map (λ t. t q) (option_map (λ e. expr_of typing.typing e) o.limit))

abbrev frame_in : Select → Places → Option Frame
frame_in s p = framed p (map (λ f. from_of typing.typing f) (out-Select s).from) []

frame_of : (s : Select) (p : Places) (ks : List Kind) → T s p ≡ Some ks → SomeOf (kinds_by s p (out-Select s).list) (frame_in s p) ks
frame_of s p ks e = some_of (kinds_by s p (out-Select s).list) (frame_in s p) ks (sym (ap (λ (l : typing.Listing). l p) (eq.select_is typing.typing s)) ∙ e)

-- it has an item for each kind
pub kinds_many : (s : Select) (p : Places) (ks : List Kind) → T s p ≡ Some ks → length (out-Select s).list ≡ length ks
kinds_many s p ks e =
    let found = frame_of s p ks e in
    let list = (out-Select s).list in
    let same = (other_list _ [] _ _ _ ks found.second refl).0 in
    sym (length-map (items_in list) (λ (t : typing.Term). t (inside found.x p)) ∙ length-map list (λ i. item_of typing.typing i)) ∙ ap (λ ks. length ks) same

pub picked_kinds : (s : Select) (p : Places) (ts : List Ty) (ks : List Kind) → T s p ≡ Some ks → Zipped FitsIn ts ks → Every ItemLinked (out-Select s).list
    → T (picked ts s) p ≡ Some (map (λ t. Of t) (own_types ts ks))
picked_kinds s p ts ks e f l =
    let o = out-Select s in
    let found = frame_of s p ks e in
    let q = inside found.x p in
    let filter = option_map (λ (t : typing.Term). t q) (option_map (λ e. expr_of typing.typing e) o.filter) in
    let order = kinds q (map (λ k. key_of typing.typing k) o.order) in
    let limit = option_map (λ (t : typing.Term). t q) (option_map (λ e. expr_of typing.typing e) o.limit) in
    let parts = other_list (kinds q (items_in o.list)) (map (λ t. Of t) (own_types ts ks)) filter order limit ks found.second (all_right (own_types ts ks)) in
    ap (λ (l : typing.Listing). l p) (eq.of_select typing.typing (items_as ts o.list) o.from o.filter o.order o.limit)
    ∙ ap (option_and_then (kinds_by s p (items_as ts o.list))) found.first
    ∙ ap (λ list. select_kinds list filter order limit) (items_kinds ts o.list ks q parts.0 f l)
    ∙ parts.1

-- ---- the select in the FROM of another one

pub length_from : (first many : ℕ) → length (count_from first many) ≡ many
length_from first zero = refl
length_from first (suc many) = ap suc (length_from (suc first) many)

listed_all : (cs : List (List ℕ)) (ts : List Ty) → length cs ≡ length ts → listed cs (Some ts) ≡ Some ts
unfolding listed
listed_all [] ts h = refl
listed_all (c ∷ cs) ts h = ap (λ t. if t then Some ts else None) (eq-eqb (length (c ∷ cs)) (length ts) h)

pub source_shape : (s : Select) (p : Places) (ks : List Kind) → T s (inside [] p) ≡ Some ks → length (out-Select s).list ≡ length ks
    → from_of typing.typing (as_source s) p [] ≡ Some (types_of ks)
unfolding typing.further typing.or_none
source_shape s p ks e many =
    let names = value_names (length (out-Select s).list) in
    let wide : length names ≡ length (types_of ks) = length-map (below (length (out-Select s).list)) value_name ∙ (length_from 0 (length (out-Select s).list) ∙ (many ∙ sym (length-map ks type_of))) in
    ap (λ (o : typing.Origin). o names p []) (eq.of_sub typing.typing (one s) false)
    ∙ ap (λ (w : typing.Whole). listed names (w (inside [] p))) (eq.of_query typing.typing (s ∷ []))
    ∙ ap (λ o. listed names (typing.shape_of o)) e
    ∙ listed_all names (types_of ks) wide

-- inside the outer select
abbrev over : List Kind → Places → Places
over ks p = inside (types_of ks ∷ []) p

over_kinds : (e : Expr) (limit : Option Expr) (s : Select) (p : Places) (ks : List Kind) → from_of typing.typing (as_source s) p [] ≡ Some (types_of ks)
    → T (over_source e limit s) p ≡ select_kinds (K e (over ks p) ∷ []) None [] (option_map (λ (t : typing.Term). t (over ks p)) (option_map (λ e. expr_of typing.typing e) limit))
over_kinds e limit s p ks h =
    let limits = option_map (λ e. expr_of typing.typing e) limit in
    let by : Frame → Option (List Kind) = λ frame. select_kinds (K e (inside frame p) ∷ []) None [] (option_map (λ (t : typing.Term). t (inside frame p)) limits) in
    ap (λ (l : typing.Listing). l p) (eq.of_select typing.typing (item e ∷ []) (as_source s ∷ []) None [] limit)
    ∙ ap (λ o. option_and_then by (option_and_then (λ (ts : List Ty). Some (ts ∷ [])) o)) h

scalar_kind_is : (e : Expr) (limit : Option Expr) (s : Select) (p : Places) (t : Ty) → T (over_source e limit s) p ≡ Some (Of t ∷ []) → K (scalar_over e limit s) p ≡ Of t
unfolding typing.further typing.or_none typing.scalar_kind type_of
scalar_kind_is e limit s p t h =
    ap (λ (k : typing.Term). k p) (eq.of_scalar typing.typing (one (over_source e limit s)))
    ∙ ap (λ (w : typing.Whole). typing.scalar_kind (w p)) (eq.of_query typing.typing (over_source e limit s ∷ []))
    ∙ ap (λ o. typing.scalar_kind (typing.shape_of o)) h

-- ---- tests

count_kind : (s : Select) (p : Places) (ks : List Kind) → from_of typing.typing (as_source s) p [] ≡ Some (types_of ks) → K (scalar_over expr.CountRows None s) p ≡ Of ty.Bigint
unfolding select_kinds maybe_fits maybe_number is_right
count_kind s p ks h = scalar_kind_is expr.CountRows None s p ty.Bigint (over_kinds expr.CountRows None s p ks h)

-- a count may stand beside a literal
count_meets : (n : ℤ) → is_right (meet (Of ty.Bigint) (Of (literal_type n))) ≡ true
unfolding meet meet_types same only_if is_right
count_meets n = either_literal (λ t. is_right (meet (Of ty.Bigint) (Of t)) ≡ true) refl refl n

pub compared_kind : (op : CmpOp) (s : Select) (n : ℤ) (p : Places) (ks : List Kind) → T s (inside [] p) ≡ Some ks → length (out-Select s).list ≡ length ks
    → K (count_compared op s n) p ≡ Of ty.Boolean
unfolding only_if
compared_kind op s n p ks e many =
    ap (λ (k : typing.Term). k p) (eq.of_compare typing.typing op (scalar_over expr.CountRows None s) (expr.Int n))
    ∙ ap (λ k. only_if (is_right (meet k (Of (literal_type n)))) (Of ty.Boolean)) (count_kind s p ks (source_shape s p ks e many))
    ∙ ap (λ b. only_if b (Of ty.Boolean)) (count_meets n)

-- ---- picks

column_kind : (ks : List Kind) (p : Places) (j : ℕ) (t : Ty) → slice_get (types_of ks) j ≡ Some t → K (col 0 0 j) (over ks p) ≡ Of t
unfolding typing.column typing.kind_at
column_kind ks p j t e = ap typing.kind_at e

-- one row
literal_number : (n : ℤ) → is_number (Of (literal_type n)) ≡ true
unfolding is_number
literal_number n = either_literal (λ t. is_number (Of t) ≡ true) refl refl n

one_kind : (t : Ty) (n : ℤ) → select_kinds (Of t ∷ []) None [] (Some (Of (literal_type n))) ≡ Some (Of t ∷ [])
unfolding select_kinds maybe_fits maybe_number is_right
one_kind t n = ap (λ b. if b then Some (Of t ∷ []) else None) (literal_number n)

pub pick_kind : (s : Select) (p : Places) (ks : List Kind) (j : ℕ) (t : Ty) → from_of typing.typing (as_source s) p [] ≡ Some (types_of ks)
    → slice_get (types_of ks) j ≡ Some t → K (pick s j) p ≡ Of t
pick_kind s p ks j t h e =
    scalar_kind_is (col 0 0 j) (Some (expr.Int (pos 1))) s p t
    (over_kinds (col 0 0 j) (Some (expr.Int (pos 1))) s p ks h
    ∙ ap (λ k. select_kinds (k ∷ []) None [] (Some (Of (literal_type (pos 1))))) (column_kind ks p j t e) ∙ one_kind t (pos 1))

-- with the cast that an item has which is converted
pub pick_as_kind : (s : Select) (p : Places) (ks : List Kind) (j : ℕ) (t : Ty) (k : Kind) → from_of typing.typing (as_source s) p [] ≡ Some (types_of ks)
    → slice_get (types_of ks) j ≡ Some (own_type t k) → assignable t k ≡ true → (c : Bool) → c ≡ converts t k
    → K (pick_as (if c then Some t else None) s j) p ≡ Of t
pick_as_kind s p ks j t k h e a true c =
    ap (λ (f : typing.Term). f p) (eq.of_cast typing.typing (pick s j) t) ∙ ap (cast_kind t) (pick_kind s p ks j (own_type t k) h e) ∙ own_cast t k (sym c)
pick_as_kind s p ks j t k h e a false c = pick_kind s p ks j (own_type t k) h e ∙ ap (λ u. Of u) (own_fits t k a (sym c))
