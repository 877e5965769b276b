-- Small parts of the query that can be derived wherever they stand.
use Rattle.std.proofs.Common.{◌≡◌, ap, sym, ◌∙◌, subst, ℕ, suc, ◌<◌, ◌≤◌, ◌^◌, pos, Bool, true, List, [], ◌∷◌, map}
use Rattle.away_values.specs.Classes.{is_class}
use Rattle.away_values.specs.declared.operators.CmpOp.TheVariants as cmp
use Rattle.away_values.specs.declared.operators.IsTest.TheVariants as test
use Rattle.away_values.specs.declared.types.Ty.{Ty}
use Rattle.away_values.specs.declared.types.Ty.TheVariants as ty
use Rattle.away_grammar.specs.declared.grammar.Level.TheVariants as l
use Rattle.away_grammar.specs.Grammar.{at}
use Rattle.away_trees.specs.declared.queries.Expr.{Expr}
use Rattle.away_trees.specs.declared.queries.Expr.TheVariants as expr
use Rattle.qualified_names.specs.Sight.{Sight}
use Rattle.qualified_names.specs.Trees.{qualified_expr}
use Rattle.qualified_names.proofs.QualifyingRules as d
use Rattle.qualified_names.proofs.Gives.{Every}
use Rattle.sql_meaning.specs.Trees.{truth, number, null_of, cast_to}
use Rattle.cte_prints.specs.Derivable.{Derivable}
use Rattle.cte_prints.proofs.ClassDerivable.{class_is_text}
use Rattle.cte_prints.proofs.QualifiedParts.{DerivableAt}
use Rattle.cte_prints.proofs.Deriving as derive

module _ (n : ℕ) (s : Sight) where
  cast_derives : (t : Ty) (e x : Expr) → qualified_expr e s ≡ x → Derivable n (at l.Or) x → DerivableAt (suc n) s (expr.Cast e t)
  cast_derives t e x same h = subst (Derivable (suc n) (at l.Or)) (sym (d.cast_is e t s ∙ ap (λ y. expr.Cast y t) same)) (derive.cast_derivable n t x h)

  pub truth_derives : (b : Bool) → DerivableAt (suc n) s (truth b)
  truth_derives b = cast_derives ty.Boolean (expr.Bool b) (expr.Bool b) (d.bool_is b s) (derive.bool_derivable n b)

  pub number_derives : (i : ℕ) → i < 2 ^ 63 → DerivableAt (suc n) s (number (pos i))
  number_derives i low = cast_derives ty.Bigint (expr.Int (pos i)) (expr.Int (pos i)) (d.int_is (pos i) s) (derive.int_derivable n i low)

  pub null_derives : (t : Ty) → DerivableAt (suc n) s (null_of t)
  null_derives t = cast_derives t expr.Null expr.Null (d.null_is s) (derive.null_derivable n)

  pub nulls_derive : (ts : List Ty) → Every (DerivableAt (suc n) s) (map null_of ts)
  nulls_derive [] = tt
  nulls_derive (t ∷ ts) = (null_derives t, nulls_derive ts)

  pub class_derives : (t : List ℕ) → is_class t ≡ true → DerivableAt (suc n) s (cast_to ty.Text (expr.Str t))
  class_derives t h =
      let is = class_is_text t h in
      cast_derives ty.Text (expr.Str t) (expr.Str t) (d.str_is t s) (derive.text_derivable n t is.0 is.1)

  pub parameter_derives : (i : ℕ) (t : Ty) → 1 ≤ i → i ≤ 64 → DerivableAt (suc n) s (expr.Param i t)
  parameter_derives i t low high = subst (Derivable (suc n) (at l.Or)) (sym (d.param_is i t s)) (derive.param_derivable n i t low high)

  -- ---- tests of a value that stands alone

  pub not_true_derives : (e : Expr) → Derivable n (at l.Primary) (qualified_expr e s) → DerivableAt n s (expr.Is e test.True true)
  not_true_derives e h = subst (Derivable n (at l.Or)) (sym (d.is_is e test.True true s)) (derive.not_true_derivable n (qualified_expr e s) h)

  pub negated_derives : (e : Expr) → Derivable n (at l.Primary) (qualified_expr e s) → DerivableAt n s (expr.Not e)
  negated_derives e h = subst (Derivable n (at l.Or)) (sym (d.not_is e s)) (derive.negated_derivable n (qualified_expr e s) h)

  pub is_number_derives : (e : Expr) (i : ℕ) → i < 2 ^ 63 → Derivable (suc n) (at l.Primary) (qualified_expr e s) → DerivableAt (suc n) s
      (expr.Compare cmp.Eq e (number (pos i)))
  is_number_derives e i low h =
      let same : qualified_expr (number (pos i)) s ≡ number (pos i) =
      d.cast_is (expr.Int (pos i)) ty.Bigint s ∙ ap (λ y. expr.Cast y ty.Bigint) (d.int_is (pos i) s) in
      subst (Derivable (suc n) (at l.Or)) (sym (d.compare_is cmp.Eq e (number (pos i)) s))
      (derive.equal_derivable (suc n) (qualified_expr e s) (qualified_expr (number (pos i)) s) h
      (subst (Derivable (suc n) (at l.Primary)) (sym same) (derive.cast_alone n ty.Bigint (expr.Int (pos i)) (derive.int_derivable n i low))))
