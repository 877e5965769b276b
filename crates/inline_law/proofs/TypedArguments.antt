-- Arguments of the types of the parameters have values of their sorts, at each row that is kept.
use Rattle.std.proofs.Common.{◌≡◌, inl, inr, sym, subst, ℕ, Bool, true, false, if◌then◌else◌, ◌==◌, List, [], ◌∷◌, map, length, slice_index_or, Some, None, Ok}
use Rattle.away_trees.specs.Algebra.{from_of, head_or, queries_of, source_of}
use Rattle.away_trees.specs.Fits.{FitsSchema}
use Rattle.away_trees.specs.declared.queries.Expr.{Expr}
use Rattle.away_trees.specs.declared.queries.Expr.TheBlock as b
use Rattle.away_trees.specs.declared.queries.Expr.TheViews.{out-FromItem, out-Select}
use Rattle.away_trees.specs.declared.queries.FromItem.{FromItem}
use Rattle.away_trees.specs.declared.queries.Source.{Source}
use Rattle.away_trees.specs.declared.schemas.Schema.{Schema}
use Rattle.away_trees.specs.declared.statements.Function.{Function}
use Rattle.away_typing.specs.Trees.{kind_of}
use Rattle.away_typing.specs.Typing.{Places}
use Rattle.away_typing.specs.Typing as typing
use Rattle.away_typing.specs.Wholes.{column_types, over_tables}
use Rattle.away_typing.specs.declared.kind.Kind.{Kind}
use Rattle.away_typing.specs.declared.kind.Kind.TheVariants.{Null, Of, Sum, Wrong}
use Rattle.away_values.specs.declared.types.Ty.{Ty}
use Rattle.away_values.specs.declared.types.Ty.TheVariants as ty
use Rattle.away_values.specs.declared.values.Value.{Value}
use Rattle.away_values.specs.declared.values.Value.TheVariants as val
use Rattle.sql_meaning.specs.Context.{Rows, Frame, Context, inside, outermost}
use Rattle.sql_meaning.specs.Meaning.{meaning, value}
use Rattle.sql_meaning.specs.Selects as meant
use Rattle.sql_meaning.proofs.Lists.{Zipped}
use Rattle.plsql_meaning.specs.Equivalent.{types_of}
use Rattle.type_soundness.specs.Arguments.{Supplied, all, params_in, standing}
use Rattle.type_soundness.specs.Sorts.{IsOf}
use Rattle.type_soundness.specs.Sorts as sorts
use Rattle.type_soundness.specs.Surroundings.{AreRows, Fit, IsFrame, IsSeen}
use Rattle.type_soundness.specs.TypedValues.{Holds}
use Rattle.type_soundness.proofs.Places.{before_seen, fit_inside, rows_at}
use Rattle.type_soundness.proofs.Results.{ok_is, then_of}
use Rattle.type_soundness.proofs.Selects.{PartAt, every_kept, product_at}
use Rattle.type_soundness.proofs.Tables.{fit_plain}
use Rattle.type_soundness.proofs.Trees.{expr_holds, left, query_holds, right}
use Rattle.inline_law.specs.Answers.{Every, FitParameters}
use Rattle.inline_law.specs.Filled.{CallingSelect, filter_of, froms_of, kept_rows}
use Rattle.inline_law.specs.Typed.{AreArguments, IsArgument, IsTypedCalling}
use Rattle.inline_law.proofs.Starts.{every_map}

-- ---- FROM

in_list : (columns : List (List ℕ)) (s : typing.Shape) (ts : List Ty) → typing.listed columns s ≡ Some ts → s ≡ Some ts
unfolding typing.listed
in_list [] s ts e = e
in_list (c ∷ cs) None ts e = cc
in_list (c ∷ cs) (Some us) ts e = by (length (c ∷ cs) == length us) e
  where
    by : (b : Bool) → (if b then Some us else None) ≡ Some ts → Some us ≡ Some ts
    by true e = e
    by false e = cc

table_at : (columns : List (List ℕ)) (p : Places) (cx : Context) → Fit p cx → (ts : List Ty) → typing.table_shape p.tables columns ≡ Some ts
    → AreRows ts (slice_index_or cx.tables (meant.place_of columns) [])
unfolding typing.table_shape
table_at columns p cx f ts e = rows_at p.tables cx.tables f.tables (meant.place_of columns) ts e

module _ (p : Places) (cx : Context) (fit : Fit p cx) where
  row_typed : {m : _} (qs : b.Row_of-Query m) (types : typing.Frame) (frame : Frame) → IsSeen types frame
      → Supplied cx.args (head_or standing.no_query (queries_of standing qs))
      → (ts : List Ty) → head_or typing.typing.no_query (queries_of typing.typing qs) (typing.inside types p) ≡ Some ts
      → (rows : Rows) → (head_or meaning.no_query (queries_of meaning qs)).rows (inside frame cx) ≡ Ok rows → AreRows ts rows
  row_typed b.end_of-Query types frame seen supplied ts shape rows e = cc
  row_typed (b.more_of-Query q rest) types frame seen supplied ts shape rows e =
      query_holds q (typing.inside types p) (inside frame cx) (fit_inside p cx types frame fit seen) supplied ts shape rows e

  source_typed : (x : Source) (columns : List (List ℕ)) → Supplied cx.args (source_of standing x)
      → PartAt p cx (source_of typing.typing x columns) (source_of meaning x columns)
  source_typed (b.Table name) columns supplied types frame g ts t rows e = subst (AreRows ts) (sym (ok_is _ rows e)) (table_at columns p cx fit ts t)
  source_typed (b.Sub' m qs lateral) columns supplied types frame g ts t rows e =
      row_typed qs (typing.before lateral types) (if lateral then frame else []) (before_seen lateral types frame g) supplied ts
      (in_list columns (head_or typing.typing.no_query (queries_of typing.typing qs) (typing.inside (typing.before lateral types) p)) ts t) rows e

  froms_typed : (fs : List FromItem) → Supplied cx.args (all (map (λ x. from_of standing x) fs))
      → Zipped (PartAt p cx) (map (λ x. from_of typing.typing x) fs) (map (λ x. from_of meaning x) fs)
  froms_typed [] h = tt
  froms_typed (f ∷ fs) h = (
    source_typed (out-FromItem f).source (out-FromItem f).columns (left cx.args (from_of standing f) (all (map (λ x. from_of standing x) fs)) h),
    froms_typed fs (right cx.args (from_of standing f) (all (map (λ x. from_of standing x) fs)) h),
  )

-- ---- arguments

whole_seen : (types : typing.Frame) (frame : Frame) → IsFrame types frame → IsSeen types frame
whole_seen types [] h = tt
whole_seen types (row ∷ more) h = h

small_is_big : (v : Value) → IsOf ty.Integer v → IsOf ty.Bigint v
small_is_big val.Null h = tt
small_is_big (val.Int n) h = tt
small_is_big (val.Bool b) h = absurd h
small_is_big (val.Text t) h = absurd h

null_of : (t : Ty) (v : Value) → v ≡ val.Null → IsOf t v
null_of t v e = subst (IsOf t) (sym e) tt

fits_parameter : (t : Ty) (k : Kind) (v : Value) → IsArgument t k → Holds k v → IsOf t v
fits_parameter t Null v h g = null_of t v g
fits_parameter t (Of u) v (inl e) g = subst (λ x. IsOf x v) e g
fits_parameter t (Of u) v (inr e) g = subst (λ x. IsOf x v) (sym e.1) (small_is_big v (subst (λ x. IsOf x v) e.0 g))
fits_parameter t Sum v h g = absurd h
fits_parameter t Wrong v h g = absurd h

argument_holds : (e : Expr) (p : Places) (cx : Context) (v : Value) → Fit p cx → Supplied cx.args (params_in e) → value e cx ≡ Ok v → Holds (kind_of e p) v
unfolding kind_of
argument_holds e p cx v f s h = expr_holds e p cx f s v h

fit_arguments : (p : Places) (cx : Context) → Fit p cx → (ts : List Ty) (es : List Expr) → AreArguments p ts es
    → Every (λ (e : Expr). Supplied cx.args (params_in e)) es → FitParameters cx ts es
fit_arguments p cx fit [] [] h s = tt
fit_arguments p cx fit (t ∷ ts) (e ∷ es) h s =
    ((λ v k. fits_parameter t (kind_of e p) v h.0 (argument_holds e p cx v fit s.0 k)), fit_arguments p cx fit ts es h.1 s.1)
fit_arguments p cx fit [] (e ∷ es) h s = absurd h
fit_arguments p cx fit (t ∷ ts) [] h s = absurd h

both_fit : (p : Places) (cx : Context) → Fit p cx → (ts : List Ty) (calls : List (List Expr)) → Every (AreArguments p ts) calls
    → Every (Every (λ (e : Expr). Supplied cx.args (params_in e))) calls
    → Every (FitParameters cx ts) calls
both_fit p cx fit ts [] h s = tt
both_fit p cx fit ts (es ∷ calls) h s = (fit_arguments p cx fit ts es h.0 s.0, both_fit p cx fit ts calls h.1 s.1)

same_every : {A : Type 0} (P : A → Type 0) (xs : List A) → sorts.Every P xs → Every P xs
same_every P [] h = tt
same_every P (x ∷ xs) h = (h.0, same_every P xs h.1)

-- At each row that is kept the arguments of each call fit the parameters.
pub arguments_typed : (s : Schema) (f : Function) (params : List (ℕ × Ty)) (q : CallingSelect) → IsTypedCalling s f params q
    → (tables : List Rows) (args : List Value) → FitsSchema s tables → Supplied args params
    → (frames : List Frame) → kept_rows q.select (outermost tables args) ≡ Ok frames
    → Every (λ (frame : Frame). Every (FitParameters (inside frame (outermost tables args)) (types_of f)) q.calls) frames
arguments_typed s f params q h tables args fits supplied frames kept =
    let p : Places = over_tables (column_types s) in
    let cx : Context = outermost tables args in
    let fit : Fit p cx = fit_plain s tables args fits in
    let x = then_of (meant.product cx (froms_of q.select) ([] ∷ [])) (meant.kept cx (filter_of q.select)) frames kept in
    let framed = product_at p cx (map (λ x. from_of typing.typing x) (out-Select q.select).from) (froms_of q.select) (froms_typed p cx fit (out-Select q.select).from (h.of_from args supplied))
    [] ([] ∷ []) (tt, tt) h.columns h.framed x.x x.first in
    every_map (IsFrame h.columns) (λ (frame : Frame). Every (FitParameters (inside frame cx) (types_of f)) q.calls) frames
    (λ frame seen.
    both_fit (typing.inside h.columns p) (inside frame cx) (fit_inside p cx h.columns frame fit (whole_seen h.columns frame seen)) (types_of f) q.calls h.kinds (h.of_arguments args supplied))
    (same_every (IsFrame h.columns) frames (every_kept (IsFrame h.columns) cx (filter_of q.select) x.x framed frames x.second))
