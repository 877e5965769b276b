-- In every tree values are of their kinds, and rows of the types of their columns.
use Rattle.std.proofs.Common.{◌≡◌, refl, sym, subst, ℕ, Bool, true, false, ◌&&◌, List, [], ◌∷◌, ◌++◌, slice_index_or, Option, Some, None, option_map}
use Rattle.std.specs.Prelude.{if◌then◌else◌, slice_get, length, is_some, ◌==◌}
use Rattle.std.specs.List.{list_all}
use Rattle.away_values.specs.declared.types.Ty.{Ty}
use Rattle.away_values.specs.declared.types.Ty.TheVariants as ty
use Rattle.away_values.specs.declared.values.Value.{Value}
use Rattle.away_values.specs.declared.values.Value.TheVariants as val
use Rattle.away_values.specs.declared.operators.ChainOp.{ChainOp}
use Rattle.away_values.specs.Operators.{literal_type}
use Rattle.away_values.specs.Results.{and_then}
use Rattle.away_trees.specs.declared.queries.Expr.{Expr}
use Rattle.away_trees.specs.declared.queries.Query.{Query}
use Rattle.away_trees.specs.declared.queries.Select.{Select}
use Rattle.away_trees.specs.Algebra.{expr_of, query_of, select_of}
use Rattle.away_typing.specs.declared.kind.Kind.{Kind}
use Rattle.away_typing.specs.Kinds.{is_right}
use Rattle.away_typing.specs.Typing as typing
use Rattle.away_typing.specs.Typing.{Places}
use Rattle.sql_meaning.specs.Context.{Frame, Context, argument, at_row, inside}
use Rattle.sql_meaning.specs.Expressions.{ExprMeaning, SourceMeaning, FromMeaning, KeyMeaning, SelectMeaning, QueryMeaning}
use Rattle.sql_meaning.specs.Meaning.{meaning}
use Rattle.sql_meaning.specs.Selects as meant
use Rattle.sql_meaning.proofs.Lists.{Zipped, ZippedOption}
use Rattle.sql_meaning.proofs.Related.{Alike, AlikeOption, AlikeLink, AlikeArm, Relation, IsKept, expr_related, query_related, select_related}
use Rattle.type_soundness.specs.Arguments.{Params, Supplied, standing, all, maybe, of_links, of_arms}
use Rattle.type_soundness.specs.Sorts.{IsOf, Every}
use Rattle.type_soundness.specs.Surroundings.{AreRows, IsFrame, IsOfGroup, Fit}
use Rattle.type_soundness.specs.TypedValues.{Holds}
use Rattle.type_soundness.proofs.Calls.{At, AllAt, OverRows, call_holds}
use Rattle.type_soundness.proofs.Lists.{every_left, every_right, zipped}
use Rattle.type_soundness.proofs.Nodes as nodes
use Rattle.type_soundness.proofs.Operators.{typed_ok, literal_typed}
use Rattle.type_soundness.proofs.Places.{at_holds, rows_at, column_holds, fit_inside, fit_at_row, before_seen}
use Rattle.type_soundness.proofs.Results.{then_of, ok_is}
use Rattle.type_soundness.proofs.Selects.{IsListed, PartAt, some_of, some_is, product_at, every_kept, every_cut, listed_at}
use Rattle.type_soundness.proofs.Unions.{ListingAt, union_at, shape_at}

-- ---- what holds of each kind of node

abbrev Exprs : typing.Term → Params → ExprMeaning → Type 0
Exprs k u m = (p : Places) (cx : Context) → Fit p cx → Supplied cx.args u → At p cx k m

abbrev Froms : typing.Part → Params → FromMeaning → Type 0
Froms t u m = (p : Places) (cx : Context) → Fit p cx → Supplied cx.args u → PartAt p cx t m

abbrev Sources : typing.Origin → Params → SourceMeaning → Type 0
Sources t u m = (columns : List (List ℕ)) → Froms (t columns) u (m columns)

abbrev Queries : typing.Whole → Params → QueryMeaning → Type 0
Queries w u m = (p : Places) (cx : Context) → Fit p cx → Supplied cx.args u → nodes.RowsAt p cx w m

abbrev Selects : typing.Listing → Params → SelectMeaning → Type 0
Selects l u m = (p : Places) (cx : Context) → Fit p cx → Supplied cx.args u → ListingAt p cx l m

abbrev relation : Relation typing.typing standing meaning
relation = record {
  Exprs = Exprs;
  Sources = Sources;
  Froms = Froms;
  Items = Exprs;
  Keys = λ k u m. Unit {0};
  Queries = Queries;
  Recursives = λ t u m. Unit {0};
  Selects = Selects;
}

-- ---- lists of parts

abbrev One : List Value → ℕ × Ty → Type 0
One args x = IsOf x.1 (argument args x.0)

pub left : (args : List Value) (us ws : Params) → Supplied args (us ++ ws) → Supplied args us
left args us ws h = every_left (One args) us ws h

pub right : (args : List Value) (us ws : Params) → Supplied args (us ++ ws) → Supplied args ws
right args us ws h = every_right (One args) us ws h

module _ (p : Places) (cx : Context) (fit : Fit p cx) where
  exprs : (xs : List typing.Term) (us : List Params) (zs : List ExprMeaning) → Alike Exprs xs us zs → Supplied cx.args (all us) → AllAt p cx xs zs
  exprs xs us zs r h = zipped (One cx.args) (λ (u : Params). u) Exprs (At p cx) (λ x u z r h. r p cx fit h) xs us zs r h

  links : (xs : List (ChainOp × typing.Term)) (us : List (ChainOp × Params)) (zs : List (ChainOp × ExprMeaning)) → Alike (AlikeLink Exprs) xs us zs → Supplied cx.args (of_links us) → Zipped (nodes.LinkAt p cx) xs zs
  links xs us zs r h = zipped (One cx.args) (λ (u : ChainOp × Params). u.1) (AlikeLink Exprs) (nodes.LinkAt p cx) (λ x u z r h. (r.1, r.2 p cx fit h)) xs us zs r h

  arms : (xs : List (typing.Term × typing.Term)) (us : List (Params × Params)) (zs : List (ExprMeaning × ExprMeaning)) → Alike (AlikeArm Exprs) xs us zs → Supplied cx.args (of_arms us) → Zipped (nodes.ArmAt p cx) xs zs
  arms xs us zs r h =
      zipped (One cx.args) (λ (u : Params × Params). u.0 ++ u.1) (AlikeArm Exprs) (nodes.ArmAt p cx)
      (λ x u z r h. (r.0 p cx fit (left cx.args u.0 u.1 h), r.1 p cx fit (right cx.args u.0 u.1 h))) xs us zs r h

  option : (x : Option typing.Term) (u : Option Params) (z : Option ExprMeaning) → AlikeOption Exprs x u z → Supplied cx.args (maybe u) → ZippedOption (At p cx) x z
  option None None None r h = tt
  option (Some x) (Some u) (Some z) r h = r p cx fit h
  option _ _ _ r h = absurd r

  over_rows : (k : typing.Term) (u : Params) (m : ExprMeaning) → Exprs k u m → Supplied cx.args u → OverRows p cx k m
  over_rows k u m r h = by cx.group fit.group
    where
      by : (frames : List Frame) → Every (IsOfGroup p.frames) frames → Every (λ frame. At p (at_row frame cx) k m) frames
      by [] g = tt
      by (frame ∷ more) g = (r p (at_row frame cx) (fit_at_row p cx frame fit g.0) h, by more g.1)

  arguments : (xs : List typing.Term) (us : List Params) (zs : List ExprMeaning) → Alike Exprs xs us zs → Supplied cx.args (all us) → Zipped (OverRows p cx) xs zs
  arguments xs us zs r h = zipped (One cx.args) (λ (u : Params). u) Exprs (OverRows p cx) (λ x u z r h. over_rows x u z r h) xs us zs r h

  parts : (xs : List typing.Part) (us : List Params) (zs : List FromMeaning) → Alike Froms xs us zs → Supplied cx.args (all us) → Zipped (PartAt p cx) xs zs
  parts xs us zs r h = zipped (One cx.args) (λ (u : Params). u) Froms (PartAt p cx) (λ x u z r h. r p cx fit h) xs us zs r h

  listings : (xs : List typing.Listing) (us : List Params) (zs : List SelectMeaning) → Alike Selects xs us zs → Supplied cx.args (all us) → Zipped (ListingAt p cx) xs zs
  listings xs us zs r h = zipped (One cx.args) (λ (u : Params). u) Selects (ListingAt p cx) (λ x u z r h. r p cx fit h) xs us zs r h

-- ---- tables and subqueries

in_list : (columns : List (List ℕ)) (s : typing.Shape) (ts : List Ty) → typing.listed columns s ≡ Some ts → s ≡ Some ts
unfolding typing.listed
in_list [] s ts e = e
in_list (c ∷ cs) None ts e = cc
in_list (c ∷ cs) (Some us) ts e = by (length (c ∷ cs) == length us) e
  where
    by : (b : Bool) → (if b then Some us else None) ≡ Some ts → Some us ≡ Some ts
    by true e = e
    by false e = cc

table_at : (columns : List (List ℕ)) (p : Places) (cx : Context) → Fit p cx → (ts : List Ty) → typing.table_shape p.tables columns ≡ Some ts → AreRows ts (slice_index_or cx.tables (meant.place_of columns) [])
unfolding typing.table_shape
table_at columns p cx f ts e = rows_at p.tables cx.tables f.tables (meant.place_of columns) ts e

-- ---- a select

pub record Chosen (list : List Kind) (ks : List Kind) : Type 0 where
  pub all_right : list_all is_right list ≡ true
  pub same : ks ≡ list

both_parts : (a b : Bool) → (a && b) ≡ true → (a ≡ true) × (b ≡ true)
both_parts true b h = (refl, h)
both_parts false b h = cc

pub kinds_of : (list : List Kind) (filter : Option Kind) (order : List Kind) (limit : Option Kind) (ks : List Kind) → typing.select_kinds list filter order limit ≡ Some ks → Chosen list ks
unfolding typing.select_kinds
kinds_of list filter order limit ks e = by (typing.maybe_fits ty.Boolean filter && (list_all is_right list && (list_all is_right order && typing.maybe_number limit))) refl e
  where
    by : (b : Bool) → (typing.maybe_fits ty.Boolean filter && (list_all is_right list && (list_all is_right order && typing.maybe_number limit))) ≡ b → (if b then Some list else None) ≡ Some ks → Chosen list ks
    by true h e = record { all_right = (both_parts (list_all is_right list) (list_all is_right order && typing.maybe_number limit) (both_parts (typing.maybe_fits ty.Boolean filter) _ h).1).0; same = some_is list ks e }
    by false h e = cc

select_at : (l₁ : List typing.Term) (l₂ : List Params) (l₃ : List ExprMeaning) (f₁ : List typing.Part) (f₂ : List Params) (f₃ : List FromMeaning) (w₁ : Option typing.Term) (w₃ : Option ExprMeaning) (o₁ : List typing.Term) (o₃ : List KeyMeaning) (m₁ : Option typing.Term) (m₃ : Option ExprMeaning) →
    Alike Exprs l₁ l₂ l₃ → Alike Froms f₁ f₂ f₃ → (p : Places) (cx : Context) → Fit p cx → Supplied cx.args (all l₂) → Supplied cx.args (all f₂) → ListingAt p cx (typing.listing (record { list = l₁; from = f₁; filter = w₁; order = o₁; limit = m₁ })) (meant.select_meaning (record { list = l₃; from = f₃; filter = w₃; order = o₃; limit = m₃ }))
select_at l₁ l₂ l₃ f₁ f₂ f₃ w₁ w₃ o₁ o₃ m₁ m₃ lr fr p cx fit ls fs ks s rows e =
    let a = some_of (λ types. typing.select_kinds (typing.kinds (typing.inside types p) l₁) (option_map (λ t. t (typing.inside types p)) w₁) (typing.kinds (typing.inside types p) o₁) (option_map (λ t. t (typing.inside types p)) m₁)) (typing.framed p f₁ []) ks s in
    let c = kinds_of (typing.kinds (typing.inside a.x p) l₁) _ _ _ ks a.second in
    let x = then_of (meant.product cx f₃ ([] ∷ [])) (λ frames. and_then (meant.kept cx w₃ frames) (λ rows. and_then (meant.listed cx l₃ o₃ rows) (meant.cut cx m₃))) rows e in
    let y = then_of (meant.kept cx w₃ x.x) (λ rows. and_then (meant.listed cx l₃ o₃ rows) (meant.cut cx m₃)) rows x.second in
    let z = then_of (meant.listed cx l₃ o₃ y.x) (meant.cut cx m₃) rows y.second in
    let frames = product_at p cx f₁ f₃ (parts p cx fit f₁ f₂ f₃ fr fs) [] ([] ∷ []) (tt, tt) a.x a.first x.x x.first in
    let some_ = every_kept (IsFrame a.x) cx w₃ x.x frames y.x y.first in
    let listed = listed_at p cx a.x l₁ l₃ fit (λ here same f. exprs (typing.inside a.x p) here f l₁ l₂ l₃ lr (subst (λ args. Supplied args (all l₂)) (sym same) ls)) o₃ c.all_right y.x some_ z.x z.first in
    subst (λ ks. Every (IsListed ks) rows) (sym c.same) (every_cut (IsListed (typing.kinds (typing.inside a.x p) l₁)) cx m₃ z.x listed rows z.second)

-- ---- a query, which has no recursive part where it has columns

without_part : (b : Bool) (shape : typing.Shape) (ts : List Ty) → (if b then None else shape) ≡ Some ts → shape ≡ Some ts
without_part true shape ts e = cc
without_part false shape ts e = e

-- ---- all steps

steps : IsKept typing.typing standing meaning relation
steps = record {
  no_expr = λ p cx f s v e. tt;
  no_query = λ p cx f s ts t rows e. cc;
  int = λ n p cx f s v e. typed_ok (literal_type n) (val.Int n) v e (literal_typed n);
  str = λ t p cx f s v e. typed_ok ty.Text (val.Text t) v e tt;
  bool = λ b p cx f s v e. typed_ok ty.Boolean (val.Bool b) v e tt;
  null = λ p cx f s v e. ok_is val.Null v e;
  named = λ t p cx f s v e. tt;
  qualified = λ t u p cx f s v e. tt;
  slot = λ i p cx f s v e. subst (Holds (typing.kind_at (slice_get p.slots i))) (sym (ok_is _ v e)) (at_holds p.slots cx.env i f.variables);
  column = λ c p cx f s v e. subst (Holds (typing.column p.frames c)) (sym (ok_is _ v e)) (column_holds p.frames cx.frames c f.frames);
  param = λ i t p cx f s v e. typed_ok t (argument cx.args i) v e s.0;
  neg = λ x u z k p cx f s. nodes.neg_at p cx x z (k p cx f s);
  neg_small = λ x u z k p cx f s. nodes.neg_small_at p cx x z (k p cx f s);
  not = λ x u z k p cx f s. nodes.not_at p cx x z (k p cx f s);
  is = λ x u z test negative k p cx f s. nodes.is_at p cx x z test negative (k p cx f s);
  chain = λ x u z xs us zs k r p cx f s. nodes.chain_at p cx x z xs zs (k p cx f (left cx.args u (of_links us) s)) (links p cx f xs us zs r (right cx.args u (of_links us) s));
  compare = λ op x₁ x₂ u₁ u₂ z₁ z₂ k₁ k₂ p cx f s. nodes.compare_at p cx op x₁ x₂ z₁ z₂;
  between = λ v x₁ x₂ x₃ u₁ u₂ u₃ z₁ z₂ z₃ k₁ k₂ k₃ p cx f s. nodes.between_at p cx v x₁ x₂ x₃ z₁ z₂ z₃;
  one_of = λ v x u z xs us zs k r p cx f s. nodes.one_of_at p cx v x z xs zs;
  cast = λ x u z t k p cx f s. nodes.cast_at p cx x z t (k p cx f s);
  cases = λ xs us zs x u z r k p cx f s. nodes.cases_at p cx xs zs x z (arms p cx f xs us zs r (left cx.args (of_arms us) (maybe u) s)) (option p cx f x u z k (right cx.args (of_arms us) (maybe u) s));
  call = λ name xs us zs r p cx f s v e. call_holds p cx name xs zs (exprs p cx f xs us zs r s) (arguments p cx f xs us zs r s) v e;
  count_rows = λ p cx f s v e. typed_ok ty.Bigint _ v e tt;
  scalar = λ x u z k p cx f s. nodes.scalar_at p cx x z (k p cx f s);
  exists = λ x u z k p cx f s. nodes.exists_at p cx x z;
  table = λ name columns p cx f s types frame g ts t rows e. subst (AreRows ts) (sym (ok_is _ rows e)) (table_at columns p cx f ts t);
  sub = λ x u z lateral k columns p cx f s types frame g ts t rows e. k (typing.inside (typing.before lateral types) p) (inside (if lateral then frame else []) cx) (fit_inside p cx (typing.before lateral types) (if lateral then frame else []) f (before_seen lateral types frame g)) s ts (in_list columns (x (typing.inside (typing.before lateral types) p)) ts t) rows e;
  from = λ x u z alias columns k. k columns;
  item = λ x u z alias k. k;
  key = λ x u z descending k. tt;
  select = λ l₁ l₂ l₃ f₁ f₂ f₃ w₁ w₂ w₃ o₁ o₂ o₃ m₁ m₂ m₃ lr fr wr kr mr p cx f s.
      let rest = right cx.args (all l₂) (all f₂ ++ (maybe w₂ ++ (all o₂ ++ maybe m₂))) s in
      select_at l₁ l₂ l₃ f₁ f₂ f₃ w₁ w₃ o₁ o₃ m₁ m₃ lr fr p cx f (left cx.args (all l₂) (all f₂ ++ (maybe w₂ ++ (all o₂ ++ maybe m₂))) s) (left cx.args (all f₂) (maybe w₂ ++ (all o₂ ++ maybe m₂)) rest);
  recursive = λ name columns xs us zs x u z r k. tt;
  query = λ x u z xs us zs h r p cx f s ts t rows e.
      shape_at p cx (typing.union xs p) ts rows (λ all_ d. union_at p cx xs zs (listings p cx f xs us zs r (right cx.args (maybe u) (all us) s)) all_ d rows e)
      (without_part (is_some x) (typing.shape_of (typing.union xs p)) ts t);
}

pub expr_holds : (e : Expr) → Exprs (expr_of typing.typing e) (expr_of standing e) (expr_of meaning e)
expr_holds e = expr_related typing.typing standing meaning relation steps e

pub select_holds : (x : Select) → Selects (select_of typing.typing x) (select_of standing x) (select_of meaning x)
select_holds x = select_related typing.typing standing meaning relation steps x

pub query_holds : (q : Query) → Queries (query_of typing.typing q) (query_of standing q) (query_of meaning q)
query_holds q = query_related typing.typing standing meaning relation steps q
