-- Selects and items of FROM whose columns have types, with no aggregate and no parameter.
use Rattle.std.proofs.Common.{◌≡◌, refl, ap, ◌∙◌, ℕ, true, ◌&&◌, List, [], ◌∷◌, ◌++◌, map, fold, length, Option, Some, None, option_map, append_assoc}
use Rattle.std.specs.Prelude.{option_and_then, if◌then◌else◌}
use Rattle.std.specs.List.{list_all}
use Rattle.std.proofs.lemmas.Bool.{eq-eqb}
use Rattle.away_values.specs.declared.types.Ty.{Ty}
use Rattle.away_values.specs.declared.types.Ty.TheVariants as ty
use Rattle.away_trees.specs.declared.queries.Expr.{Expr}
use Rattle.away_trees.specs.declared.queries.FromItem.{FromItem}
use Rattle.away_trees.specs.declared.queries.Query.{Query}
use Rattle.away_trees.specs.declared.queries.Select.{Select}
use Rattle.away_trees.specs.declared.queries.Expr.TheViews.{roll-Query}
use Rattle.away_trees.specs.Algebra.{expr_of, item_of, from_of, select_of, query_of}
use Rattle.away_trees.proofs.Equations as eq
use Rattle.away_typing.specs.declared.kind.Kind.{Kind}
use Rattle.away_typing.specs.declared.kind.Kind.TheVariants.{Of}
use Rattle.away_typing.specs.Aggregates.{using_, Term, maybe}
use Rattle.away_typing.specs.Kinds.{is_right, meet, fits}
use Rattle.away_typing.specs.Parameters.{Found, finding}
use Rattle.away_typing.specs.Parameters as params
use Rattle.away_typing.specs.Typing as typing
use Rattle.away_typing.specs.Typing.{Places, Frame, Shape, inside, kinds, framed, maybe_fits, select_kinds, both_from, both, further, or_none, union, shape_of, types_of, listed}
use Rattle.sql_meaning.specs.Trees.{item, select}
use Rattle.sql_meaning.proofs.Lists.{Zipped}
use Rattle.cte_parts.specs.Names.{alias_name, only_name}
use Rattle.cte_parts.specs.Trees.{lateral_as, only_as}
use Rattle.type_soundness.specs.Sorts.{Every}
use Rattle.cte_types.proofs.Fine.{type_right, type_met, type_back, type_fits, Calm, unused_calm, either_calm, all_calm, outside_calm, apart_calm, select_calm, calm_is, Quiet, quiet_is, quiet_all, Fine}

abbrev pub kinds_of : List Ty → List Kind
kinds_of ts = map (λ t. Of t) ts

-- its kind and what it uses
pub record IsOfType (p : Places) (e : Expr) (t : Ty) : Type 0 where
  pub kind : expr_of typing.typing e p ≡ Of t
  pub calm : Calm (expr_of using_ e).uses

pub of_types : (p : Places) (es : List Expr) (ts : List Ty) → Zipped (Fine p) es ts → Zipped (IsOfType p) es ts
of_types p [] [] h = tt
of_types p (e ∷ es) (t ∷ ts) h = (record { kind = h.0.kind; calm = h.0.calm }, of_types p es ts h.1)
of_types p _ _ h = absurd h

pub record Good (p : Places) (ts : List Ty) (s : Select) : Type 0 where
  pub kinds : select_of typing.typing s p ≡ Some (kinds_of ts)
  pub calm : Calm (select_of using_ s).uses
  pub quiet : Quiet (select_of finding s)

-- an item of FROM without aggregates and parameters
pub record IsCalmItem (f : FromItem) : Type 0 where
  pub calm : Calm (from_of using_ f).uses
  pub quiet : Quiet (from_of finding f)

pub record Brings (p : Places) (frame : Frame) (f : FromItem) (ts : List Ty) : Type 0 where
  pub shape : from_of typing.typing f p frame ≡ Some ts
  pub item : IsCalmItem f

-- ---- FROM

abbrev pub parts : List FromItem → List typing.Part
parts fs = map (λ f. from_of typing.typing f) fs

framed_more : (p : Places) (fs : List FromItem) (f : FromItem) (start frame : Frame) (ts : List Ty) → framed p (parts fs) start ≡ Some frame
    → from_of typing.typing f p frame ≡ Some ts
    → framed p (parts (fs ++ f ∷ [])) start ≡ Some (frame ++ ts ∷ [])
framed_more p [] f start frame ts h k =
    let same : start ≡ frame = some_is start frame h in
    ap (option_and_then (λ us. framed p [] (start ++ us ∷ []))) (ap (from_of typing.typing f p) same ∙ k) ∙ ap (λ fr. Some (fr ++ ts ∷ [])) same
  where
    some_is : {A : Type 0} (x y : A) → Some x ≡ Some y → x ≡ y
    some_is x y h = cc
framed_more p (g ∷ fs) f start frame ts h k = by (λ start h. framed_more p fs f start frame ts h k) (from_of typing.typing g p start) refl h
  where
    by : ((start : Frame) → framed p (parts fs) start ≡ Some frame → framed p (parts (fs ++ f ∷ [])) start ≡ Some (frame ++ ts ∷ [])) → (o : Shape)
        → from_of typing.typing g p start ≡ o → option_and_then (λ us. framed p (parts fs) (start ++ us ∷ [])) o ≡ Some frame
        → option_and_then (λ us. framed p (parts (fs ++ f ∷ [])) (start ++ us ∷ [])) (from_of typing.typing g p start) ≡ Some (frame ++ ts ∷ [])
    by rest None e h = absurd (cc)
    by rest (Some us) e h = ap (option_and_then (λ us. framed p (parts (fs ++ f ∷ [])) (start ++ us ∷ []))) e ∙ rest (start ++ us ∷ []) h

-- an item more
pub one_more : (p : Places) (fs : List FromItem) (f : FromItem) (frame : Frame) (ts : List Ty) → framed p (parts fs) [] ≡ Some frame → Brings p frame f ts
    → framed p (parts (fs ++ f ∷ [])) [] ≡ Some (frame ++ ts ∷ [])
one_more p fs f frame ts h k = framed_more p fs f [] frame ts h k.shape

-- ---- a select

all_right : (ts : List Ty) → list_all is_right (kinds_of ts) ≡ true
all_right [] = refl
all_right (t ∷ ts) = λ i. type_right t i && all_right ts i

list_kinds : (p : Places) (es : List Expr) (ts : List Ty) → Zipped (IsOfType p) es ts → kinds p (map (λ x. item_of typing.typing x) (map item es)) ≡ kinds_of ts
list_kinds p [] [] h = refl
list_kinds p (e ∷ es) (t ∷ ts) h = λ i. h.0.kind i ∷ list_kinds p es ts h.1 i
list_kinds p _ _ h = absurd h

pub list_uses : (p : Places) (es : List Expr) (ts : List Ty) → Zipped (IsOfType p) es ts → Every Calm
    (map (λ (t : Term). t.uses) (map (λ x. item_of using_ x) (map item es)))
list_uses p [] [] h = tt
list_uses p (e ∷ es) (t ∷ ts) h = (h.0.calm, list_uses p es ts h.1)
list_uses p _ _ h = absurd h

list_quiet : (p : Places) (es : List Expr) (ts : List Ty) → Zipped (Fine p) es ts → Every Quiet (map (λ x. item_of finding x) (map item es))
list_quiet p [] [] h = tt
list_quiet p (e ∷ es) (t ∷ ts) h = (h.0.quiet, list_quiet p es ts h.1)
list_quiet p _ _ h = absurd h

from_uses : (fs : List FromItem) → Every IsCalmItem fs → Every Calm (map (λ (t : Term). t.uses) (map (λ x. from_of using_ x) fs))
from_uses [] h = tt
from_uses (f ∷ fs) h = (h.0.calm, from_uses fs h.1)

from_quiet : (fs : List FromItem) → Every IsCalmItem fs → Every Quiet (map (λ x. from_of finding x) fs)
from_quiet [] h = tt
from_quiet (f ∷ fs) h = (h.0.quiet, from_quiet fs h.1)

abbrev pub FilterFine : Places → Option Expr → Type 0
FilterFine p None = Unit {0}
FilterFine p (Some c) = Fine p c ty.Boolean

filter_fits : (p : Places) (o : Option Expr) → FilterFine p o
    → maybe_fits ty.Boolean (option_map (λ (t : typing.Term). t p) (option_map (λ e. expr_of typing.typing e) o)) ≡ true
unfolding maybe_fits
filter_fits p None h = refl
filter_fits p (Some c) h = ap (fits ty.Boolean) h.kind ∙ type_fits ty.Boolean

filter_calm : (p : Places) (o : Option Expr) → FilterFine p o → Calm (maybe (option_map (λ e. expr_of using_ e) o)).uses
filter_calm p None h = unused_calm
filter_calm p (Some c) h = h.calm

filter_quiet : (p : Places) (o : Option Expr) → FilterFine p o → Quiet (params.maybe (option_map (λ e. expr_of finding e) o))
filter_quiet p None h q = refl
filter_quiet p (Some c) h q = h.quiet q

chosen : (ks : List Kind) (w : Option Kind) → list_all is_right ks ≡ true → maybe_fits ty.Boolean w ≡ true → select_kinds ks w [] None ≡ Some ks
unfolding select_kinds maybe_fits typing.maybe_number
chosen ks w h g = λ i. if g i && (h i && (true && true)) then Some ks else None

pub select_calm_of : (es : List Expr) (fs : List FromItem) (c : Option Expr)
    → Every Calm (map (λ (t : Term). t.uses) (map (λ x. item_of using_ x) (map item es)))
    → Every IsCalmItem fs → Calm (maybe (option_map (λ e. expr_of using_ e) c)).uses → Calm (select_of using_ (select es fs c)).uses
select_calm_of es fs c list from filter =
    calm_is _ _ (ap (λ (t : Term). t.uses) (eq.of_select using_ (map item es) fs c [] None))
    (select_calm _ _ (all_calm _ list)
    (either_calm _ _ (all_calm _ (from_uses fs from)) (either_calm _ _ (outside_calm _ filter)
    (either_calm _ _ (outside_calm _ unused_calm) (outside_calm _ unused_calm)))))

module _ (p : Places) (frame : Frame) (es : List Expr) (fs : List FromItem) (c : Option Expr) (ts : List Ty) (from : framed p (parts fs) [] ≡ Some frame)
    (filter : FilterFine (inside frame p) c) where
  pub kinds_are : Zipped (IsOfType (inside frame p)) es ts → select_of typing.typing (select es fs c) p ≡ Some (kinds_of ts)
  kinds_are list =
      let q : Places = inside frame p in
      let w : Option Kind = option_map (λ (t : typing.Term). t q) (option_map (λ e. expr_of typing.typing e) c) in
      ap (λ f. f p) (eq.of_select typing.typing (map item es) fs c [] None)
      ∙ (ap (option_and_then (λ frame.
      select_kinds (kinds (inside frame p) (map (λ x. item_of typing.typing x) (map item es)))
      (option_map (λ (t : typing.Term). t (inside frame p)) (option_map (λ e. expr_of typing.typing e) c)) [] None)) from
      ∙ (ap (λ ks. select_kinds ks w [] None) (list_kinds q es ts list) ∙ chosen (kinds_of ts) w (all_right ts) (filter_fits q c filter)))

  pub good_select : Zipped (Fine (inside frame p)) es ts → Every IsCalmItem fs → Good p ts (select es fs c)
  good_select list items = record {
    kinds = kinds_are (of_types (inside frame p) es ts list);
    calm = select_calm_of es fs c (list_uses (inside frame p) es ts (of_types (inside frame p) es ts list)) items (filter_calm (inside frame p) c filter);
    quiet = quiet_is _ _ (eq.of_select finding (map item es) fs c [] None)
        (λ q. filter_quiet (inside frame p) c filter _ ∙ (quiet_all _ (from_quiet fs items) _ ∙ quiet_all _ (list_quiet (inside frame p) es ts list) q));
  }

-- ---- UNION ALL

both_same : (done : List Kind) (ts : List Ty) → both_from done (kinds_of ts) (kinds_of ts) ≡ Some (done ++ kinds_of ts)
both_same done [] = ap (λ ks. Some ks) (nil done)
  where
    nil : (ks : List Kind) → ks ≡ ks ++ []
    nil [] = refl
    nil (k ∷ ks) = ap (λ l. k ∷ l) (nil ks)
both_same done (t ∷ ts) =
    ap (λ b. if b then both_from (done ++ meet (Of t) (Of t) ∷ []) (kinds_of ts) (kinds_of ts) else None)
    (ap is_right (type_met t) ∙ type_right t)
    ∙ (ap (λ k. both_from (done ++ k ∷ []) (kinds_of ts) (kinds_of ts)) (type_met t)
    ∙ (both_same (done ++ Of t ∷ []) ts ∙ ap (λ ks. Some ks) (append_assoc done (Of t ∷ []) (kinds_of ts))))

both_is : (ts : List Ty) → both (Some (kinds_of ts)) (Some (kinds_of ts)) ≡ Some (kinds_of ts)
unfolding both
both_is ts = both_same [] ts

module _ (p : Places) (ts : List Ty) where
  united_from : (ss : List Select) → Every (Good p ts) ss
      → fold (λ ks (l : typing.Listing). further ks (l p)) (Some (Some (kinds_of ts))) (map (λ s. select_of typing.typing s) ss) ≡ Some (Some (kinds_of ts))
  unfolding further
  united_from [] h = refl
  united_from (s ∷ ss) h =
      ap (λ o. fold (λ ks (l : typing.Listing). further ks (l p)) (Some o) (map (λ s. select_of typing.typing s) ss))
      (ap (both (Some (kinds_of ts))) h.0.kinds ∙ both_is ts)
      ∙ united_from ss h.1

  pub union_is : (s : Select) (ss : List Select) → Every (Good p ts) (s ∷ ss) → union (map (λ s. select_of typing.typing s) (s ∷ ss)) p ≡ Some (kinds_of ts)
  unfolding further or_none
  union_is s ss h =
      ap (λ o. or_none (fold (λ ks (l : typing.Listing). further ks (l p)) (Some o) (map (λ s. select_of typing.typing s) ss))) h.0.kinds
      ∙ ap or_none (united_from ss h.1)

  types_back : (ts : List Ty) → types_of (kinds_of ts) ≡ ts
  types_back [] = refl
  types_back (t ∷ ts) = λ i. type_back t i ∷ types_back ts i

  pub shape_is : (s : Select) (ss : List Select) → Every (Good p ts) (s ∷ ss) → shape_of (union (map (λ s. select_of typing.typing s) (s ∷ ss)) p) ≡ Some ts
  shape_is s ss h = ap shape_of (union_is s ss h) ∙ ap (λ ts. Some ts) (types_back ts)

-- ---- a lateral subquery

listed_is : (names : List (List ℕ)) (ts : List Ty) → length names ≡ length ts → listed names (Some ts) ≡ Some ts
unfolding listed
listed_is [] ts h = refl
listed_is (n ∷ names) ts h = ap (λ b. if b then Some ts else None) (eq-eqb (length (n ∷ names)) (length ts) h)

select_uses_of : (p : Places) (ts : List Ty) (ss : List Select) → Every (Good p ts) ss → Every Calm
    (map (λ (t : Term). t.uses) (map (λ s. select_of using_ s) ss))
select_uses_of p ts [] h = tt
select_uses_of p ts (s ∷ ss) h = (h.0.calm, select_uses_of p ts ss h.1)

selects_quiet : (p : Places) (ts : List Ty) (ss : List Select) → Every (Good p ts) ss → Every Quiet (map (λ s. select_of finding s) ss)
selects_quiet p ts [] h = tt
selects_quiet p ts (s ∷ ss) h = (h.0.quiet, selects_quiet p ts ss h.1)

abbrev pub united : List Select → Query
united ss = roll-Query (record { recursive = None; selects = ss })

pub query_calm : (p : Places) (ts : List Ty) (ss : List Select) → Every (Good p ts) ss → Calm (query_of using_ (united ss)).uses
query_calm p ts ss h =
    calm_is _ _ (ap (λ (t : Term). t.uses) (eq.of_query using_ ss)) (apart_calm _ (either_calm _ _ unused_calm (all_calm _ (select_uses_of p ts ss h))))

pub lateral_brings : (p : Places) (frame : Frame) (alias : List ℕ) (names : List (List ℕ)) (s : Select) (ss : List Select) (ts : List Ty)
    → length names ≡ length ts → Every (Good (inside frame p) ts) (s ∷ ss) → Brings p frame (lateral_as alias names (united (s ∷ ss))) ts
lateral_brings p frame alias names s ss ts size h = record {
  shape =
      ap (λ (f : typing.Origin). f names p frame) (eq.of_sub typing.typing (united (s ∷ ss)) true)
      ∙ (ap (listed names) (ap (λ (w : typing.Whole). w (inside frame p)) (eq.of_query typing.typing (s ∷ ss)) ∙ shape_is (inside frame p) ts s ss h)
      ∙ listed_is names ts size);
  item = record {
    calm = calm_is _ _ (ap (λ (t : Term). t.uses) (eq.of_sub using_ (united (s ∷ ss)) true)) (apart_calm _ (query_calm (inside frame p) ts (s ∷ ss) h));
    quiet = quiet_is _ _ (eq.of_sub finding (united (s ∷ ss)) true) (quiet_is _ _ (eq.of_query finding (s ∷ ss))
        (λ q. quiet_all (map (λ s. select_of finding s) (s ∷ ss)) (selects_quiet (inside frame p) ts (s ∷ ss) h) q));
  };
}

-- an item of one column
pub only_brings : (p : Places) (frame : Frame) (k : ℕ) (e : Expr) (c : Option Expr) (t : Ty) → Fine (inside [] (inside frame p)) e t
    → FilterFine (inside [] (inside frame p)) c
    → Brings p frame (only_as k (select (e ∷ []) [] c)) (t ∷ [])
only_brings p frame k e c t fine filter =
    lateral_brings p frame (alias_name k) (only_name ∷ []) (select (e ∷ []) [] c) [] (t ∷ []) refl
    (good_select (inside frame p) [] (e ∷ []) [] c (t ∷ []) refl filter (fine, tt) tt, tt)
