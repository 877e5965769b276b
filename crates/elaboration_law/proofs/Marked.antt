-- A tree that has a type is marked as it is to be.
use Rattle.std.proofs.Common.{◌≡◌, refl, ap, ◌∙◌, true, map}
use Rattle.std.specs.Prelude.{is_some}
use Rattle.away_values.specs.declared.types.Ty.TheVariants.{Boolean}
use Rattle.away_trees.specs.declared.queries.Expr.{Expr}
use Rattle.away_trees.specs.declared.queries.Expr.TheVariants as expr
use Rattle.away_trees.specs.declared.queries.Source.TheVariants as source
use Rattle.away_trees.specs.declared.queries.Select.{Select}
use Rattle.away_trees.specs.declared.queries.Query.{Query}
use Rattle.away_trees.specs.declared.queries.Expr.TheViews.{roll-Item, roll-FromItem, roll-Key}
use Rattle.away_trees.specs.Algebra.{expr_of, select_of, query_of}
use Rattle.away_names.specs.Functions.{function}
use Rattle.away_typing.specs.declared.kind.Kind.TheVariants.{Of}
use Rattle.away_typing.specs.Kinds.{only_if, fits, is_right, meet, common}
use Rattle.away_typing.specs.Typing.{Frame, Places, inside, Shape, Term, Origin, Part, Listing, Whole, Terms, kind_or_null, passed, scalar_kind, exists_kind, listed, before, framed, maybe_fits, or_none, shape_of, typing, pair}
use Rattle.away_typing.specs.Typing as t
use Rattle.elaboration_law.specs.Rebuilding.{rebuilding}
use Rattle.elaboration.specs.Elaborating.{MadeExpr, MadeSource, MadeQuery, made, chain_made, elaborating, elaborated, elaborated_select, elaborated_query}
use Rattle.elaboration_law.proofs.Joint.{Keeps, expr_related, select_related, query_related}
use Rattle.elaboration_law.proofs.Rebuilt as rebuilt
use Rattle.elaboration_law.proofs.Rights.{right, only_true, fits_right, is_right_right, meet_right, passed_right, cast_right, common_right, called_right}
use Rattle.elaboration_law.proofs.MarkedExpressions.{begun, cases_marked, exprs_marked, link_at, links_marked, minus_plain, minus_small, relation}
use Rattle.elaboration_law.proofs.MarkedSelects.{exists_some, listed_some, query_marked, scalar_some, select_marked}

-- ---- all steps

steps : Keeps typing rebuilding elaborating relation
steps =
    record {
      int = λ n p h. refl;
      str = λ t p h. refl;
      bool = λ v p h. refl;
      null = λ p h. refl;
      named = λ t p h. refl;
      dotted = λ t s p h. refl;
      slot = λ i p h. refl;
      column = λ c p h. refl;
      param = λ i t p h. refl;
      neg = λ x z m k p h. minus_plain p x z m k h;
      neg_small = λ x z m k p h. minus_small p x z m k h;
      not = λ x z m k p h. ap (λ (m : MadeExpr). made (only_if (fits Boolean m.kind) (Of Boolean)) (expr.Not m.it)) (k p (fits_right Boolean (x p) (only_true (fits Boolean (x p)) (Of Boolean) h)));
      is = λ x z m test negative k p h. ap (λ (m : MadeExpr). made (only_if (passed test m.kind) (Of Boolean)) (expr.Is m.it test negative)) (k p (passed_right test (x p) (only_true (passed test (x p)) (Of Boolean) h)));
      chain = λ x z m xs zs ms k r p h.
          let is = k p (begun p xs (x p) h) in
          let links = links_marked p xs zs ms r (x p) h in
          (λ i. chain_made (is i) (map (link_at p) ms)) ∙ (λ i. made (links.0 i) (expr.Chain z (links.1 i)));
      compare = λ op x₁ x₂ z₁ z₂ m₁ m₂ k₁ k₂ p h.
          let both = meet_right (x₁ p) (x₂ p) (is_right_right (meet (x₁ p) (x₂ p)) (only_true (is_right (meet (x₁ p) (x₂ p))) (Of Boolean) h)) in
          let a = k₁ p both.0 in
          let b = k₂ p both.1 in
          λ i. made (only_if (is_right (meet (a i).kind (b i).kind)) (Of Boolean)) (expr.Compare op (a i).it (b i).it);
      between = λ v x₁ x₂ x₃ z₁ z₂ z₃ m₁ m₂ m₃ k₁ k₂ k₃ p h.
          let all = meet_right (meet (x₁ p) (x₂ p)) (x₃ p) (is_right_right (meet (meet (x₁ p) (x₂ p)) (x₃ p)) (only_true (is_right (meet (meet (x₁ p) (x₂ p)) (x₃ p))) (Of Boolean) h)) in
          let both = meet_right (x₁ p) (x₂ p) all.0 in
          let a = k₁ p both.0 in
          let b = k₂ p both.1 in
          let c = k₃ p all.1 in
          λ i. made (only_if (is_right (meet (meet (a i).kind (b i).kind) (c i).kind)) (Of Boolean)) (expr.Between v (a i).it (b i).it (c i).it);
      one_of = λ v x z m xs zs ms k r p h.
          let ks = map (λ k. k p) xs in
          let both = meet_right (x p) (common ks) (is_right_right (meet (x p) (common ks)) (only_true (is_right (meet (x p) (common ks))) (Of Boolean) h)) in
          let a = k p both.0 in
          let all = exprs_marked p xs zs ms r (common_right ks both.1) in
          λ i. made (only_if (is_right (meet (a i).kind (common (all.0 i)))) (Of Boolean)) (expr.OneOf v (a i).it (all.1 i));
      cast = λ x z m ty k p h. ap (λ (m : MadeExpr). made (t.cast_kind ty m.kind) (expr.Cast m.it ty)) (k p (cast_right ty (x p) h));
      cases = λ xs zs ms x z m r k p h. cases_marked p xs zs ms x z m r k h;
      call = λ name xs zs ms r p h.
          let all = exprs_marked p xs zs ms r (called_right (function name) (map (λ k. k p) xs) h) in
          λ i. made (t.called (function name) (all.0 i)) (expr.Call name (all.1 i));
      count_rows = λ p h. refl;
      scalar = λ x z m k p h. ap (λ (m : MadeQuery). made (scalar_kind m.shape) (expr.Scalar m.it)) (k p (scalar_some (x p) h));
      exists = λ x z m k p h. ap (λ (m : MadeQuery). made (exists_kind m.shape) (expr.Exists m.it)) (k p (exists_some (x p) h));
      table = λ name columns p frame h. refl;
      sub = λ x z m lateral k columns p frame h.
          let q = inside (before lateral frame) p in
          ap (λ (m : MadeQuery). record { shape = listed columns m.shape; it = source.Sub m.it lateral }) (k q (listed_some columns (x q) h));
      from = λ x z m alias columns k p frame h. ap (λ (m : MadeSource). record { shape = m.shape; it = roll-FromItem (record { source = m.it; alias = alias; columns = columns }) }) (k columns p frame h);
      item = λ x z m alias k p h. ap (λ (m : MadeExpr). record { kind = m.kind; it = roll-Item (record { expr = m.it; alias = alias }) }) (k p h);
      key = λ x z m descending k p h. ap (λ (m : MadeExpr). record { kind = m.kind; it = roll-Key (record { expr = m.it; descending = descending }) }) (k p h);
      select = λ l₁ l₂ l₃ f₁ f₂ f₃ w₁ w₂ w₃ o₁ o₂ o₃ m₁ m₂ m₃ lr fr wr kr mr p h. select_marked p l₁ l₂ l₃ f₁ f₂ f₃ w₁ w₂ w₃ o₁ o₂ o₃ m₁ m₂ m₃ lr fr wr kr mr h;
      recursive = λ name columns xs zs ms x z m r k. tt;
      query = λ x z m xs zs ms k r. query_marked x z m xs zs ms k r;
    }

pub typed_is_marked : (e : Expr) (p : Places) → right (expr_of typing e p) ≡ true → elaborated p e ≡ made (expr_of typing e p) e
unfolding elaborated
typed_is_marked e p h =
    expr_related typing rebuilding elaborating relation steps e p h ∙ ap (made (expr_of typing e p)) (rebuilt.expr_same e)

pub typed_select_is_marked : (s : Select) (p : Places) → is_some (select_of typing s p) ≡ true → elaborated_select p s ≡ record { kinds = select_of typing s p; it = s }
unfolding elaborated_select
typed_select_is_marked s p h =
    select_related typing rebuilding elaborating relation steps s p h ∙ ap (λ it. record { kinds = select_of typing s p; it = it }) (rebuilt.select_same s)

pub typed_query_is_marked : (q : Query) (p : Places) → is_some (query_of typing q p) ≡ true → elaborated_query p q ≡ record { shape = query_of typing q p; it = q }
unfolding elaborated_query
typed_query_is_marked q p h =
    query_related typing rebuilding elaborating relation steps q p h ∙ ap (λ it. record { shape = query_of typing q p; it = it }) (rebuilt.query_same q)
