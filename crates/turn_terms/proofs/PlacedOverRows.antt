-- Expressions with others in place of their slots, over a row.
use Rattle.std.proofs.Common.{◌≡◌, refl, ap, sym, ◌∙◌, ℕ, Bool, true, false, if◌then◌else◌, List, [], ◌∷◌, Bor}
use Rattle.std.specs.Prelude.{nat_eq}
use Rattle.away_values.specs.declared.types.Ty.{Ty}
use Rattle.away_trees.specs.declared.queries.Expr.{Expr}
use Rattle.away_trees.specs.declared.queries.Expr.TheVariants as expr
use Rattle.away_trees.specs.declared.queries.Expr.TheBlock as b
use Rattle.away_trees.specs.Algebra.{expr_of}
use Rattle.away_trees.proofs.Equations.{of_cast}
use Rattle.sql_meaning.specs.Placed.{replacing, with_cast}
use Rattle.sql_meaning.specs.Reads.{slots_of}
use Rattle.sql_meaning.specs.Trees.{col, null_of}
use Rattle.call_forms.specs.Scopes.{Scope, paired}
use Rattle.turn_template.specs.TurnTemplate.{Ref, no_ref, placed_ref}
use Rattle.turn_terms.specs.Placing.{named_leaf, leaf_at, literal_at, expr_in}
use Rattle.turn_terms.specs.References.{as_it_is, on_row, value_in, scope_of}
use Rattle.turn_terms.specs.declared.leaves.Leaves.{Leaves}
use Rattle.turn_terms.specs.declared.leaves.Leaves.TheVariants as leaves
use Rattle.turn_terms.specs.declared.references.Reference.{Reference}
use Rattle.turn_terms.proofs.Fusing.{fused}

pub written_is : (e : Expr) → expr_in leaves.Columns 0 e ≡ on_row e 0
unfolding expr_in on_row leaf_at literal_at
written_is e = refl

-- ---- what a name's leaf is over a row

module _ (refs : List Reference) where
  one_leaf : (c : Bool) (n : ℕ) (x : Expr) (r : Ref) → on_row x ≡ r → on_row (if c then value_in refs n else x) ≡ (if c then scope_of refs n else r)
  unfolding scope_of
  one_leaf true n x r h = refl
  one_leaf false n x r h = h

  leaf_is : (slots names : List ℕ) (i : ℕ) → on_row (paired (value_in refs) expr.Null slots names i) ≡ paired (scope_of refs) no_ref slots names i
  unfolding on_row
  leaf_is [] names i = refl
  leaf_is (s ∷ slots) [] i = refl
  leaf_is (s ∷ slots) (n ∷ names) i = one_leaf (nat_eq s i) n (paired (value_in refs) expr.Null slots names i) (paired (scope_of refs) no_ref slots names i) (leaf_is slots names i)

  abbrev leaf : List ℕ → List ℕ → ℕ → Expr
  leaf slots names = paired (value_in refs) expr.Null slots names

  by_names : (slots names : List ℕ) (e : Expr) (d : ℕ) → on_row (expr_of (replacing (λ d i. leaf slots names i) with_cast) e 0) d
      ≡ expr_of (replacing (λ d i. paired (scope_of refs) no_ref slots names i d) with_cast) e d
  unfolding on_row
  by_names slots names e d =
      fused_row e d ∙ ap (λ (f : ℕ → ℕ → Expr). expr_of (replacing f with_cast) e d) (λ j d i. leaf_is slots names i j d)
    where
      fused_row : (e : Expr) (d : ℕ) → on_row (expr_of (replacing (λ d i. leaf slots names i) with_cast) e 0) d ≡ expr_of (replacing (λ d i. on_row (leaf slots names i) d) with_cast) e d
      fused_row e d = fused (leaf slots names) e 0 d

pub null_placed : (t : Ty) (refs : ℕ → Ref) → on_row (null_of t) ≡ placed_ref t refs expr.Null
unfolding on_row
null_placed t refs = λ i d. of_cast_at t d i
  where
    of_cast_at : (t : Ty) (d : ℕ) → on_row (null_of t) d ≡ with_cast t expr.Null
    of_cast_at t d = ap (λ (r : Ref). r d) (of_cast (replacing (λ d i. col d 0 i) as_it_is) expr.Null t)

whole : (t : Ty) (refs : ℕ → Ref) (e : Expr) → (e ≡ expr.Null → ⊥) → (d : ℕ) → placed_ref t refs e d ≡ expr_of (replacing (λ d i. refs i d) with_cast) e d
whole t refs b.Null h d = absurd (h refl)
whole t refs e h d = refl

pub names_placed : (t : Ty) (slots names : Bor (List ℕ)) (refs : Bor (List Reference)) (e : Expr) → (e ≡ expr.Null → ⊥) → slots.now ≡ slots_of e
    → on_row (expr_in (leaves.Names slots names refs) 0 e) ≡ placed_ref t (paired (scope_of refs.now) no_ref (slots_of e) names.now) e
unfolding expr_in leaf_at literal_at named_leaf
names_placed t slots names refs e other are = λ i d. at d i
  where
    at : (d : ℕ) → on_row (expr_in (leaves.Names slots names refs) 0 e) d ≡ placed_ref t (paired (scope_of refs.now) no_ref (slots_of e) names.now) e d
    at d =
        by_names refs.now slots.now names.now e d
        ∙ (ap (λ zs. expr_of (replacing (λ d i. paired (scope_of refs.now) no_ref zs names.now i d) with_cast) e d) are
        ∙ sym (whole t (paired (scope_of refs.now) no_ref (slots_of e) names.now) e other d))
