-- The values of expressions are of their kinds where those of their parts are.
use Rattle.std.proofs.Common.{◌≡◌, refl, subst, Bool, true, false, not, ◌&&◌, List, [], ◌∷◌, map, Option, Some, None, Ok}
use Rattle.std.specs.Prelude.{if◌then◌else◌, fold, is_some}
use Rattle.away_values.specs.declared.types.Ty.{Ty}
use Rattle.away_values.specs.declared.types.Ty.TheVariants as ty
use Rattle.away_values.specs.declared.values.Value.{Value}
use Rattle.away_values.specs.declared.values.Value.TheVariants as val
use Rattle.away_values.specs.declared.operators.ChainOp.{ChainOp}
use Rattle.away_values.specs.declared.operators.CmpOp.{CmpOp}
use Rattle.away_values.specs.declared.operators.IsTest.{IsTest}
use Rattle.away_values.specs.Operators as op
use Rattle.away_values.specs.Results.{Or, and_then, mapped}
use Rattle.away_values.proofs.Typing.{are_typed}
use Rattle.away_typing.specs.declared.kind.Kind.{Kind}
use Rattle.away_typing.specs.declared.kind.Kind.TheVariants.{Null, Of}
use Rattle.away_typing.specs.Kinds.{meet, common, fits, is_right, is_number, is_integer, settled}
use Rattle.away_typing.specs.Typing as typing
use Rattle.away_typing.specs.Typing.{Places}
use Rattle.away_trees.specs.declared.queries.Expr.TheOpen as ex
use Rattle.sql_meaning.specs.Context.{Rows, Context, at}
use Rattle.sql_meaning.specs.Expressions.{ExprMeaning, QueryMeaning, answers, link_answers, arm_answers, other_value, expr_meaning}
use Rattle.sql_meaning.specs.Parts as parts
use Rattle.sql_meaning.proofs.Lists.{Zipped, ZippedOption}
use Rattle.type_soundness.specs.Sorts.{IsOf}
use Rattle.type_soundness.specs.Surroundings.{IsRow, AreRows}
use Rattle.type_soundness.specs.TypedValues.{Holds}
use Rattle.type_soundness.proofs.Calls.{At}
use Rattle.type_soundness.proofs.KindRules.{holds_at, only_if_holds, meet_left, meet_right, met_before, settled_holds, sort_of}
use Rattle.type_soundness.proofs.Operators.{typed_at, typed_ok, negation_typed, negation_if_typed, compare_typed, pair_typed, between_typed, among_typed, cast_typed}
use Rattle.type_soundness.proofs.Results.{then_of, mapped_of, ok_is}

module _ (p : Places) (cx : Context) where
  pub neg_at : (k : typing.Term) (m : ExprMeaning) → At p cx k m → At p cx (typing.kind (ex.Neg k)) (expr_meaning (ex.Neg m))
  neg_at k m h v e = only_if_holds (is_number (k p) && not (is_integer (k p))) (Of ty.Bigint) v (λ s. let a = then_of (m.value cx) op.negated v e in sort_of ty.Bigint v (are_typed.minus a.x v a.second))

  pub neg_small_at : (k : typing.Term) (m : ExprMeaning) → At p cx k m → At p cx (typing.kind (ex.NegSmall k)) (expr_meaning (ex.NegSmall m))
  neg_small_at k m h v e =
      only_if_holds (is_integer (k p)) (Of ty.Integer) v
      (λ s. let a = then_of (m.value cx) (λ w. and_then (op.negated w) op.small) v e in
      let b = then_of (op.negated a.x) op.small v a.second in
      sort_of ty.Integer v (are_typed.small_integer b.x v b.second))

  pub not_at : (k : typing.Term) (m : ExprMeaning) → At p cx k m → At p cx (typing.kind (ex.Not k)) (expr_meaning (ex.Not m))
  not_at k m h v e = only_if_holds (fits ty.Boolean (k p)) (Of ty.Boolean) v (λ s. let a = mapped_of op.negation (m.value cx) v e in typed_at ty.Boolean v (op.negation a.x) a.second (negation_typed a.x))

  pub is_at : (k : typing.Term) (m : ExprMeaning) (test : IsTest) (negative : Bool) → At p cx k m → At p cx (typing.kind (ex.Is k test negative)) (expr_meaning (ex.Is m test negative))
  is_at k m test negative h v e =
      only_if_holds (typing.passed test (k p)) (Of ty.Boolean) v
      (λ s. let a = mapped_of (λ w. op.negation_if negative (val.Bool (op.passes test w))) (m.value cx) v e in
      typed_at ty.Boolean v (op.negation_if negative (val.Bool (op.passes test a.x))) a.second (negation_if_typed negative (val.Bool (op.passes test a.x)) tt))

  -- ---- chains

  abbrev pub LinkAt : ChainOp × typing.Term → ChainOp × ExprMeaning → Type 0
  LinkAt x y = (y.0 ≡ x.0) × At p cx x.1 y.1

  links_at : (ks : List (ChainOp × typing.Term)) (ms : List (ChainOp × ExprMeaning)) → Zipped LinkAt ks ms → (k : Kind) (a v : Value) → Holds k a → parts.chained (link_answers cx ms) a ≡ Ok v → Holds (typing.chained p ks k) v
  links_at [] [] h k a v g e = holds_at k v a (ok_is a v e) g
  links_at (x ∷ xs) (y ∷ ys) h k a v g e =
      let r = then_of (parts.pair y.0 a (y.1.value cx)) (parts.chained (link_answers cx ys)) v e in
      links_at xs ys h.1 (typing.pair x.0 k (x.1 p)) r.x v
      (subst (λ o. Holds (typing.pair o k (x.1 p)) r.x) h.0.0 (pair_typed y.0 k (x.1 p) a r.x (y.1.value cx) r.first)) r.second
  links_at _ _ h k a v g e = absurd h

  pub chain_at : (k : typing.Term) (m : ExprMeaning) (ks : List (ChainOp × typing.Term)) (ms : List (ChainOp × ExprMeaning)) → At p cx k m → Zipped LinkAt ks ms → At p cx (typing.kind (ex.Chain k ks)) (expr_meaning (ex.Chain m ms))
  chain_at k m ks ms h g v e = let a = then_of (m.value cx) (parts.chained (link_answers cx ms)) v e in links_at ks ms g (k p) a.x v (h a.x a.first) a.second

  -- ---- comparisons

  pub compare_at : (o : CmpOp) (k j : typing.Term) (m n : ExprMeaning) → At p cx (typing.kind (ex.Compare o k j)) (expr_meaning (ex.Compare o m n))
  compare_at o k j m n v e =
      only_if_holds (is_right (meet (k p) (j p))) (Of ty.Boolean) v
      (λ s. let a = then_of (m.value cx) (λ w. mapped (op.compare o w) (n.value cx)) v e in
      let b = mapped_of (op.compare o a.x) (n.value cx) v a.second in
      typed_at ty.Boolean v (op.compare o a.x b.x) b.second (compare_typed o a.x b.x))

  pub between_at : (negative : Bool) (k j i : typing.Term) (m n l : ExprMeaning) → At p cx (typing.kind (ex.Between negative k j i)) (expr_meaning (ex.Between negative m n l))
  between_at negative k j i m n l v e =
      only_if_holds (is_right (meet (meet (k p) (j p)) (i p))) (Of ty.Boolean) v
      (λ s. let a = mapped_of (op.negation_if negative) (and_then (m.value cx) (λ x. and_then (n.value cx) (λ y. parts.between x y (l.value cx)))) v e in
      let b = then_of (m.value cx) (λ x. and_then (n.value cx) (λ y. parts.between x y (l.value cx))) a.x a.first in
      let c = then_of (n.value cx) (λ y. parts.between b.x y (l.value cx)) a.x b.second in
      typed_at ty.Boolean v (op.negation_if negative a.x) a.second (negation_if_typed negative a.x (between_typed b.x c.x a.x (l.value cx) c.second)))

  pub one_of_at : (negative : Bool) (k : typing.Term) (m : ExprMeaning) (ks : List typing.Term) (ms : List ExprMeaning) → At p cx (typing.kind (ex.OneOf negative k ks)) (expr_meaning (ex.OneOf negative m ms))
  one_of_at negative k m ks ms v e =
      only_if_holds (is_right (meet (k p) (common (typing.kinds p ks)))) (Of ty.Boolean) v
      (λ s. let a = mapped_of (op.negation_if negative) (and_then (m.value cx) (λ x. parts.among x (answers cx ms) (val.Bool false))) v e in
      let b = then_of (m.value cx) (λ x. parts.among x (answers cx ms) (val.Bool false)) a.x a.first in
      typed_at ty.Boolean v (op.negation_if negative a.x) a.second (negation_if_typed negative a.x (among_typed b.x (answers cx ms) (val.Bool false) a.x tt b.second)))

  pub cast_at : (k : typing.Term) (m : ExprMeaning) (t : Ty) → At p cx k m → At p cx (typing.kind (ex.Cast k t)) (expr_meaning (ex.Cast m t))
  cast_at k m t h v e = let a = then_of (m.value cx) (op.cast t) v e in cast_typed t (k p) a.x v (h a.x a.first) a.second

  -- ---- CASE

  abbrev pub ArmAt : typing.Term × typing.Term → ExprMeaning × ExprMeaning → Type 0
  ArmAt x y = At p cx x.0 y.0 × At p cx x.1 y.1

  arm_step : (b : Bool) (k j : Kind) (ks : List Kind) (other : Kind) (arm rest : Or Value) (v : Value) → (arm ≡ Ok v → Holds j v) → (rest ≡ Ok v → Holds (meet (fold meet (meet k j) ks) other) v) → (if b then arm else rest) ≡ Ok v → Holds (meet (fold meet (meet k j) ks) other) v
  arm_step true k j ks other arm rest v one more e = meet_left (fold meet (meet k j) ks) other v (met_before (meet k j) ks v (meet_right k j v (one e)))
  arm_step false k j ks other arm rest v one more e = more e

  arms_at : (other : Kind) (o : Or Value) → ((v : Value) → o ≡ Ok v → Holds other v) → (k : Kind) (xs : List (typing.Term × typing.Term)) (ys : List (ExprMeaning × ExprMeaning)) → Zipped ArmAt xs ys → (v : Value) → parts.chosen o (arm_answers cx ys) ≡ Ok v → Holds (meet (fold meet k (map (λ arm. arm.1 p) xs)) other) v
  arms_at other o go k [] [] h v e = meet_right k other v (go v e)
  arms_at other o go k (x ∷ xs) (y ∷ ys) h v e =
      let a = then_of (y.0.value cx) (λ b. if op.is_true b then y.1.value cx else parts.chosen o (arm_answers cx ys)) v e in
      arm_step (op.is_true a.x) k (x.1 p) (map (λ arm. arm.1 p) xs) other (y.1.value cx) (parts.chosen o (arm_answers cx ys)) v (h.0.1 v) (λ e. arms_at other o go (meet k (x.1 p)) xs ys h.1 v e) a.second
  arms_at other o go k _ _ h v e = absurd h

  other_at : (o : Option typing.Term) (m : Option ExprMeaning) → ZippedOption (At p cx) o m → (v : Value) → other_value cx m ≡ Ok v → Holds (typing.other_kind p o) v
  other_at None None h v e = ok_is val.Null v e
  other_at (Some k) (Some m) h v e = h v e
  other_at None (Some m) h v e = absurd h
  other_at (Some k) None h v e = absurd h

  pub cases_at : (xs : List (typing.Term × typing.Term)) (ys : List (ExprMeaning × ExprMeaning)) (o : Option typing.Term) (m : Option ExprMeaning) → Zipped ArmAt xs ys → ZippedOption (At p cx) o m → At p cx (typing.kind (ex.Cases xs o)) (expr_meaning (ex.Cases ys m))
  cases_at xs ys o m h g v e =
      only_if_holds (typing.tested p xs) (settled (meet (typing.chosen p xs) (typing.other_kind p o))) v
      (λ s. settled_holds (meet (typing.chosen p xs) (typing.other_kind p o)) v (arms_at (typing.other_kind p o) (other_value cx m) (other_at o m g) Null xs ys h v e))

  -- ---- subqueries

  -- its rows are of the types of its columns
  abbrev pub RowsAt : typing.Whole → QueryMeaning → Type 0
  RowsAt w m = (ts : List Ty) → w p ≡ Some ts → (rows : Rows) → m.rows cx ≡ Ok rows → AreRows ts rows

  first_of : (t : Ty) (row : List Value) → IsRow (t ∷ []) row → IsOf t (at row 0)
  first_of t [] h = absurd h
  first_of t (v ∷ vs) h = h.0

  only_of : (t : Ty) (rows : Rows) → AreRows (t ∷ []) rows → (v : Value) → parts.only rows ≡ Ok v → IsOf t v
  only_of t [] h v e = typed_ok t val.Null v e tt
  only_of t (row ∷ []) h v e = typed_ok t (at row 0) v e (first_of t row h.0)
  only_of t (row ∷ other ∷ more) h v e = cc

  scalar_by : (s : typing.Shape) (rows : Rows) → ((ts : List Ty) → s ≡ Some ts → AreRows ts rows) → (v : Value) → parts.only rows ≡ Ok v → Holds (typing.scalar_kind s) v
  unfolding typing.scalar_kind
  scalar_by None rows h v e = tt
  scalar_by (Some []) rows h v e = tt
  scalar_by (Some (t ∷ [])) rows h v e = only_of t rows (h (t ∷ []) refl) v e
  scalar_by (Some (t ∷ u ∷ ts)) rows h v e = tt

  pub scalar_at : (w : typing.Whole) (m : QueryMeaning) → RowsAt w m → At p cx (typing.kind (ex.Scalar w)) (expr_meaning (ex.Scalar m))
  scalar_at w m h v e = let a = then_of (m.rows cx) parts.only v e in scalar_by (w p) a.x (λ ts s. h ts s a.x a.first) v a.second

  pub exists_at : (w : typing.Whole) (m : QueryMeaning) → At p cx (typing.kind (ex.Exists w)) (expr_meaning (ex.Exists m))
  unfolding typing.exists_kind
  exists_at w m v e =
      only_if_holds (is_some (w p)) (Of ty.Boolean) v
      (λ s. let a = mapped_of (λ rows. val.Bool (parts.has_row rows)) (m.rows cx) v e in typed_at ty.Boolean v (val.Bool (parts.has_row a.x)) a.second tt)
