-- At the rows of a select that has types, each expression of its list has a value of its kind.
use Rattle.std.proofs.Common.{◌≡◌, refl, sym, ap, subst, ◌∙◌, Bool, true, false, ℕ, List, [], ◌∷◌, map, Option, Some, None, Ok, option_map}
use Rattle.std.specs.Prelude.{codes, if◌then◌else◌, length, ◌==◌, slice_index_or}
use Rattle.std.specs.List.{list_all}
use Rattle.away_values.specs.declared.types.Ty.{Ty}
use Rattle.away_values.specs.declared.values.Value.{Value}
use Rattle.away_trees.specs.Algebra.{expr_of, source_of, from_of, item_of, key_of, select_of, query_of}
use Rattle.away_trees.specs.declared.queries.Expr.{Expr}
use Rattle.away_trees.specs.declared.queries.Expr.TheBlock as b
use Rattle.away_trees.specs.declared.queries.Expr.TheVariants as expr
use Rattle.away_trees.specs.declared.queries.Expr.TheViews.{out-Select, out-FromItem, roll-out-FromItem}
use Rattle.away_trees.specs.declared.queries.FromItem.{FromItem}
use Rattle.away_trees.specs.declared.queries.Select.{Select}
use Rattle.away_trees.specs.declared.queries.Source.{Source}
use Rattle.away_trees.proofs.Equations as eq
use Rattle.away_typing.specs.declared.kind.Kind.{Kind}
use Rattle.away_typing.specs.declared.kind.Kind.TheVariants.{Null}
use Rattle.away_names.specs.Functions.{function}
use Rattle.away_typing.specs.Kinds.{is_right, meet, settled, type_of}
use Rattle.away_typing.specs.Typing as typing
use Rattle.away_typing.specs.Typing.{Places}
use Rattle.sql_meaning.specs.Context.{Frame, Context, inside}
use Rattle.sql_meaning.specs.Expressions.{FromMeaning}
use Rattle.sql_meaning.specs.Meaning.{meaning, value}
use Rattle.sql_meaning.specs.Selects as meant
use Rattle.sql_meaning.proofs.Lists.{Zipped}
use Rattle.type_soundness.specs.Arguments.{Params, Supplied, standing, all}
use Rattle.type_soundness.specs.Sorts.{IsOf, Every}
use Rattle.type_soundness.specs.Surroundings.{AreRows, IsFrame, Fit}
use Rattle.type_soundness.specs.TypedValues.{Holds}
use Rattle.type_soundness.proofs.KindRules.{column_typed, meet_left, meet_right, settled_holds}
use Rattle.type_soundness.proofs.Places.{rows_at, fit_inside, before_seen, whole_seen}
use Rattle.type_soundness.proofs.Results.{then_of, ok_is}
use Rattle.type_soundness.proofs.Selects.{PartAt, some_of, product_at, every_kept}
use Rattle.type_soundness.proofs.Trees.{kinds_of, left, right, expr_holds, query_holds}
use Rattle.inline_law.specs.Filled.{froms_of, filter_of, kept_rows}

-- ---- rows of FROM

in_list : (columns : List (List ℕ)) (s : typing.Shape) (ts : List Ty) → typing.listed columns s ≡ Some ts → s ≡ Some ts
unfolding typing.listed
in_list [] s ts e = e
in_list (c ∷ cs) None ts e = cc
in_list (c ∷ cs) (Some us) ts e = by (length (c ∷ cs) == length us) e
  where
    by : (b : Bool) → (if b then Some us else None) ≡ Some ts → Some us ≡ Some ts
    by true e = e
    by false e = cc

abbrev FromsHold : typing.Part → Params → FromMeaning → Type 0
FromsHold t u m = (p : Places) (cx : Context) → Fit p cx → Supplied cx.args u → PartAt p cx t m

table_at : (columns : List (List ℕ)) (p : Places) (cx : Context) → Fit p cx → (ts : List Ty) → typing.table_shape p.tables columns ≡ Some ts → AreRows ts (slice_index_or cx.tables (meant.place_of columns) [])
unfolding typing.table_shape
table_at columns p cx f ts e = rows_at p.tables cx.tables f.tables (meant.place_of columns) ts e

source_holds : (x : Source) (columns : List (List ℕ)) → FromsHold (source_of typing.typing x columns) (source_of standing x) (source_of meaning x columns)
source_holds (b.Table name) columns p cx f s types frame g ts t rows e = subst (AreRows ts) (sym (ok_is _ rows e)) (table_at columns p cx f ts t)
source_holds (b.Sub' n (b.more_of-Query q rest) lateral) columns p cx f s types frame g ts t rows e =
    query_holds q (typing.inside (typing.before lateral types) p) (inside (if lateral then frame else []) cx)
    (fit_inside p cx (typing.before lateral types) (if lateral then frame else []) f (before_seen lateral types frame g)) s ts
    (in_list columns (query_of typing.typing q (typing.inside (typing.before lateral types) p)) ts t) rows e

from_holds : (x : FromItem) → FromsHold (from_of typing.typing x) (from_of standing x) (from_of meaning x)
from_holds x = subst (λ (x : FromItem). FromsHold (from_of typing.typing x) (from_of standing x) (from_of meaning x)) (roll-out-FromItem x) (source_holds (out-FromItem x).source (out-FromItem x).columns)

froms_hold : (xs : List FromItem) (p : Places) (cx : Context) → Fit p cx → Supplied cx.args (all (map (λ f. from_of standing f) xs))
    → Zipped (PartAt p cx) (map (λ f. from_of typing.typing f) xs) (map (λ f. from_of meaning f) xs)
froms_hold [] p cx fit s = tt
froms_hold (x ∷ xs) p cx fit s = (
  from_holds x p cx fit (left cx.args (from_of standing x) (all (map (λ f. from_of standing f) xs)) s),
  froms_hold xs p cx fit (right cx.args (from_of standing x) (all (map (λ f. from_of standing f) xs)) s),
)

-- ---- a select that has types

abbrev pub kinds_at : Places → Select → List Kind
kinds_at p x = typing.kinds p (map (λ i. item_of typing.typing i) (out-Select x).list)

pub record Parts (x : Select) (p : Places) (ks : List Kind) : Type 0 where
  pub types : typing.Frame
  pub framed_is : typing.framed p (map (λ f. from_of typing.typing f) (out-Select x).from) [] ≡ Some types
  pub all_right : list_all is_right ks ≡ true
  pub kinds_are : ks ≡ kinds_at (typing.inside types p) x

pub parts_of : (x : Select) (p : Places) (ks : List Kind) → select_of typing.typing x p ≡ Some ks → Parts x p ks
parts_of x p ks e =
    let froms : List typing.Part = map (λ f. from_of typing.typing f) (out-Select x).from in
    let list : List typing.Term = map (λ i. item_of typing.typing i) (out-Select x).list in
    let filter : Option typing.Term = option_map (λ e. expr_of typing.typing e) (out-Select x).filter in
    let order : List typing.Term = map (λ k. key_of typing.typing k) (out-Select x).order in
    let limit : Option typing.Term = option_map (λ e. expr_of typing.typing e) (out-Select x).limit in
    let a = some_of (λ (types : typing.Frame). typing.select_kinds (typing.kinds (typing.inside types p) list) (option_map (λ (t : typing.Term). t (typing.inside types p)) filter) (typing.kinds (typing.inside types p) order) (option_map (λ (t : typing.Term). t (typing.inside types p)) limit)) (typing.framed p froms []) ks (sym (ap (λ (l : typing.Listing). l p) (eq.select_is typing.typing x)) ∙ e) in
    let c = kinds_of (typing.kinds (typing.inside a.x p) list) _ _ _ ks a.second in
    record { types = a.x; framed_is = a.first; all_right = subst (λ ks. list_all is_right ks ≡ true) (sym c.same) c.all_right; kinds_are = c.same }

-- the rows that are kept are of the types of FROM
pub frames_typed : (x : Select) (p : Places) (cx : Context) (types : typing.Frame) → Fit p cx → Supplied cx.args (all (map (λ f. from_of standing f) (out-Select x).from))
    → typing.framed p (map (λ f. from_of typing.typing f) (out-Select x).from) [] ≡ Some types
    → (frames : List Frame) → kept_rows x cx ≡ Ok frames → Every (IsFrame types) frames
frames_typed x p cx types fit s h frames e =
    let a = then_of (meant.product cx (froms_of x) ([] ∷ [])) (meant.kept cx (filter_of x)) frames e in
    every_kept (IsFrame types) cx (filter_of x) a.x
    (product_at p cx (map (λ f. from_of typing.typing f) (out-Select x).from) (froms_of x) (froms_hold (out-Select x).from p cx fit s) [] ([] ∷ []) (tt, tt) types h a.x a.first)
    frames a.second

-- a value at such a row is of the expression's kind
pub value_holds : (e : Expr) (p : Places) (cx : Context) (types : typing.Frame) (frame : Frame) → Fit p cx → IsFrame types frame → Supplied cx.args (expr_of standing e)
    → (v : Value) → value e (inside frame cx) ≡ Ok v → Holds (expr_of typing.typing e (typing.inside types p)) v
value_holds e p cx types frame fit g s v h = expr_holds e (typing.inside types p) (inside frame cx) (fit_inside p cx types frame fit (whole_seen types frame g)) s v h

-- ---- beside a NULL

coalesce_is : (a b : Kind) → typing.called (function (codes "coalesce")) (a ∷ b ∷ []) ≡ settled (meet (meet Null a) b)
unfolding typing.called typing.call_kind function
coalesce_is a b = refl

-- what stands beside something else in COALESCE is of the type of both
pub beside_typed : (e other : Expr) (p : Places) (t : Ty) → is_right (expr_of typing.typing (expr.Call (codes "coalesce") (e ∷ other ∷ [])) p) ≡ true
    → type_of (expr_of typing.typing (expr.Call (codes "coalesce") (e ∷ other ∷ [])) p) ≡ t
    → (v : Value) → Holds (expr_of typing.typing e p) v → IsOf t v
beside_typed e other p t r i v h =
    let k = expr_of typing.typing e p in
    let j = expr_of typing.typing other p in
    let is : expr_of typing.typing (expr.Call (codes "coalesce") (e ∷ other ∷ [])) p ≡ settled (meet (meet Null k) j) =
    ap (λ (t : typing.Term). t p) (eq.of_call typing.typing (codes "coalesce") (e ∷ other ∷ [])) ∙ coalesce_is k j in
    subst (λ t. IsOf t v) i
    (column_typed _ v r
    (subst (λ k. Holds k v) (sym is)
    (settled_holds (meet (meet Null k) j) v (meet_left (meet Null k) j v (meet_right Null k v h)))))
