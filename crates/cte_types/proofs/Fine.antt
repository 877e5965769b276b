-- Expressions of the query that have a type where they stand, no aggregate and no parameter.
use Rattle.std.proofs.Common.{◌≡◌, refl, ap, sym, ◌∙◌, subst, ℕ, ◌^◌, ℤ, pos, negsuc, Bool, true, false, ◌&&◌, ◌||◌, if◌then◌else◌, List, [], ◌∷◌, fold, Option, Some}
use Rattle.std.specs.Prelude.{option_and_then, slice_get, nat_lt}
use Rattle.away_values.specs.declared.types.Ty.{Ty}
use Rattle.away_values.specs.declared.types.Ty.TheVariants as ty
use Rattle.away_values.specs.Operators.{literal_type}
use Rattle.away_values.specs.declared.operators.CmpOp.{CmpOp}
use Rattle.away_values.specs.declared.operators.IsTest.TheVariants as test
use Rattle.away_trees.specs.declared.queries.Col.{Col}
use Rattle.away_trees.specs.declared.queries.Expr.{Expr}
use Rattle.away_trees.specs.declared.queries.Expr.TheVariants as expr
use Rattle.away_trees.specs.Algebra.{expr_of}
use Rattle.away_trees.proofs.Equations as eq
use Rattle.away_typing.specs.declared.kind.Kind.TheVariants.{Of}
use Rattle.away_typing.specs.declared.params.Params.{Params}
use Rattle.away_typing.specs.declared.uses.Uses.{Uses}
use Rattle.away_typing.specs.Aggregates.{using_, unused, either, of_column, of_select, outside, apart, all_of}
use Rattle.away_typing.specs.Kinds.{same, only_if, meet, meet_types, fits, is_right, type_of}
use Rattle.away_typing.specs.Parameters.{Found, finding}
use Rattle.away_typing.specs.Typing.{Places, Frame, typing, column, kind_at, cast_kind, castable, passed}
use Rattle.sql_meaning.specs.Trees.{cast_to, number, truth, null_of}
use Rattle.type_soundness.specs.Sorts.{Every}

-- ---- types that expressions have

pub type_right : (t : Ty) → is_right (Of t) ≡ true
unfolding is_right
type_right t = refl

pub type_met : (t : Ty) → meet (Of t) (Of t) ≡ Of t
unfolding meet meet_types only_if same
type_met ty.Bigint = refl
type_met ty.Boolean = refl
type_met ty.Text = refl
type_met ty.Integer = refl

pub type_back : (t : Ty) → type_of (Of t) ≡ t
unfolding type_of
type_back t = refl

pub type_fits : (t : Ty) → fits t (Of t) ≡ true
unfolding fits same
type_fits ty.Bigint = refl
type_fits ty.Boolean = refl
type_fits ty.Text = refl
type_fits ty.Integer = refl

-- ---- literals

-- a literal is an integer or a bigint
pub either_literal : (P : Ty → Type 0) → P ty.Integer → P ty.Bigint → (n : ℤ) → P (literal_type n)
unfolding literal_type
either_literal P a b (pos n) = by (nat_lt n (2 ^ 31))
  where
    by : (small : Bool) → P (if small then ty.Integer else ty.Bigint)
    by true = a
    by false = b
either_literal P a b (negsuc n) = b

-- a cast to bigint takes it
pub literal_castable : (n : ℤ) → castable (literal_type n) ty.Bigint ≡ true
unfolding castable same
literal_castable n = either_literal (λ t. castable t ty.Bigint ≡ true) refl refl n

-- ---- what is used

-- no aggregate, and nothing that breaks a rule
pub record Calm (u : Uses) : Type 0 where
  pub aggregate : u.aggregate ≡ false
  pub misused : u.misused ≡ false
  pub limited : u.limited ≡ false

pub unused_calm : Calm unused
unfolding unused
unused_calm = record { aggregate = refl; misused = refl; limited = refl }

pub either_calm : (a b : Uses) → Calm a → Calm b → Calm (either a b)
unfolding either
either_calm a b h k = record {
  aggregate = λ i. h.aggregate i || k.aggregate i;
  misused = λ i. h.misused i || k.misused i;
  limited = λ i. h.limited i || k.limited i;
}

all_from : (u : Uses) (us : List Uses) → Calm u → Every Calm us → Calm (fold either u us)
all_from u [] h k = h
all_from u (v ∷ us) h k = all_from (either u v) us (either_calm u v h k.0) k.1

pub all_calm : (us : List Uses) → Every Calm us → Calm (all_of us)
all_calm us h = all_from unused us unused_calm h

pub column_calm : (level : ℕ) → Calm (of_column level)
unfolding of_column unused
column_calm level = record { aggregate = refl; misused = refl; limited = refl }

pub outside_calm : (u : Uses) → Calm u → Calm (outside u)
unfolding outside unused
outside_calm u h = record { aggregate = refl; misused = λ i. h.misused i || h.aggregate i; limited = h.limited }

pub apart_calm : (u : Uses) → Calm u → Calm (apart u)
unfolding apart unused
apart_calm u h = record { aggregate = refl; misused = h.misused; limited = h.limited }

pub select_calm : (list rest : Uses) → Calm list → Calm rest → Calm (of_select list false rest false)
unfolding of_select unused
select_calm list rest h k = record {
  aggregate = h.aggregate;
  misused = λ i. h.misused i || (k.misused i || (h.aggregate i && (false || list.free)));
  limited = λ i. h.limited i || (k.limited i || false);
}

pub calm_is : (u v : Uses) → u ≡ v → Calm v → Calm u
calm_is u v e h = subst Calm (sym e) h

-- ---- parameters

-- it has none
abbrev pub Quiet : Found → Type 0
Quiet f = (p : Params) → f p ≡ p

pub quiet_is : (f g : Found) → f ≡ g → Quiet g → Quiet f
quiet_is f g e h = subst Quiet (sym e) h

pub quiet_then : (f g : Found) → Quiet f → Quiet g → (p : Params) → g (f p) ≡ p
quiet_then f g h k p = k (f p) ∙ h p

pub quiet_all : (fs : List Found) → Every Quiet fs → (p : Params) → fold (λ p (f : Found). f p) p fs ≡ p
quiet_all [] h p = refl
quiet_all (f ∷ fs) h p = quiet_all fs h.1 (f p) ∙ h.0 p

-- ---- expressions

pub record Fine (p : Places) (e : Expr) (t : Ty) : Type 0 where
  pub kind : expr_of typing e p ≡ Of t
  pub calm : Calm (expr_of using_ e).uses
  pub quiet : Quiet (expr_of finding e)

-- the type of a column
abbrev pub at_type : List Frame → Col → Option Ty
at_type frames c = option_and_then (λ item. slice_get item c.column) (option_and_then (λ frame. slice_get frame c.item) (slice_get frames c.level))

pub column_fine : (p : Places) (c : Col) (t : Ty) → at_type p.frames c ≡ Some t → Fine p (expr.Column c) t
unfolding column kind_at
column_fine p c t h = record { kind = ap kind_at h; calm = column_calm c.level; quiet = λ q. refl }

cast_fine : (p : Places) (e : Expr) (t : Ty) → cast_kind t (expr_of typing e p) ≡ Of t → Calm (expr_of using_ e).uses → Quiet (expr_of finding e)
    → Fine p (expr.Cast e t) t
cast_fine p e t k c q = record {
  kind = ap (λ f. f p) (eq.of_cast typing e t) ∙ k;
  calm = calm_is _ _ (ap (λ f. f.uses) (eq.of_cast using_ e t)) c;
  quiet = quiet_is _ _ (eq.of_cast finding e t) q;
}

pub number_fine : (p : Places) (n : ℤ) → Fine p (number n) ty.Bigint
unfolding cast_kind only_if
number_fine p n = cast_fine p (expr.Int n) ty.Bigint (ap (λ b. only_if b (Of ty.Bigint)) (literal_castable n)) unused_calm (λ q. refl)

pub truth_fine : (p : Places) (v : Bool) → Fine p (truth v) ty.Boolean
unfolding cast_kind only_if castable same
truth_fine p v = cast_fine p (expr.Bool v) ty.Boolean refl unused_calm (λ q. refl)

pub null_fine : (p : Places) (t : Ty) → Fine p (null_of t) t
unfolding cast_kind
null_fine p t = cast_fine p expr.Null t refl unused_calm (λ q. refl)

pub text_fine : (p : Places) (s : List ℕ) → Fine p (cast_to ty.Text (expr.Str s)) ty.Text
unfolding cast_kind only_if castable same
text_fine p s = cast_fine p (expr.Str s) ty.Text refl unused_calm (λ q. refl)

pub not_fine : (p : Places) (e : Expr) → Fine p e ty.Boolean → Fine p (expr.Not e) ty.Boolean
unfolding only_if fits same
not_fine p e h = record {
  kind = ap (λ f. f p) (eq.of_not typing e) ∙ ap (λ k. only_if (fits ty.Boolean k) (Of ty.Boolean)) h.kind;
  calm = calm_is _ _ (ap (λ f. f.uses) (eq.of_not using_ e)) h.calm;
  quiet = quiet_is _ _ (eq.of_not finding e) h.quiet;
}

pub not_true_fine : (p : Places) (e : Expr) → Fine p e ty.Boolean → Fine p (expr.Is e test.True true) ty.Boolean
unfolding only_if fits same passed
not_true_fine p e h = record {
  kind = ap (λ f. f p) (eq.of_is typing e test.True true) ∙ ap (λ k. only_if (passed test.True k) (Of ty.Boolean)) h.kind;
  calm = calm_is _ _ (ap (λ f. f.uses) (eq.of_is using_ e test.True true)) h.calm;
  quiet = quiet_is _ _ (eq.of_is finding e test.True true) h.quiet;
}

pub compare_fine : (p : Places) (op : CmpOp) (x y : Expr) (t : Ty) → Fine p x t → Fine p y t → Fine p (expr.Compare op x y) ty.Boolean
unfolding only_if
compare_fine p op x y t a b = record {
  kind =
      ap (λ f. f p) (eq.of_compare typing op x y)
      ∙ ((λ i. only_if (is_right (meet (a.kind i) (b.kind i))) (Of ty.Boolean)) ∙ ap (λ c. only_if c (Of ty.Boolean))
      (ap is_right (type_met t) ∙ type_right t));
  calm = calm_is _ _ (ap (λ f. f.uses) (eq.of_compare using_ op x y)) (either_calm _ _ a.calm b.calm);
  quiet = quiet_is _ _ (eq.of_compare finding op x y) (quiet_then (expr_of finding x) (expr_of finding y) a.quiet b.quiet);
}
