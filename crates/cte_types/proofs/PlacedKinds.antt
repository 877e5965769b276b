-- The whole expression of a place that asks for a type has this type where it is placed, and uses and parameters as before.
use Rattle.std.proofs.Common.{◌≡◌, refl, ap, ◌∙◌, subst, ℕ, zero, suc, ◌+◌, ◌≤◌, true, false, List, [], ◌∷◌, ◌++◌, arith}
use Rattle.std.specs.Prelude.{slice_get}
use Rattle.away_trees.specs.declared.queries.Col.{Col}
use Rattle.away_trees.specs.declared.queries.Expr.{Expr}
use Rattle.away_trees.specs.declared.queries.Expr.TheVariants as expr
use Rattle.away_trees.specs.declared.queries.Expr.TheBlock as b
use Rattle.away_trees.specs.Algebra.{expr_of}
use Rattle.away_trees.proofs.Equations as eq
use Rattle.away_typing.specs.declared.kind.Kind.TheVariants.{Of}
use Rattle.away_typing.specs.Aggregates.{using_}
use Rattle.away_typing.specs.Kinds.{fits}
use Rattle.away_typing.specs.Parameters.{finding}
use Rattle.away_typing.specs.Typing.{Places, Frame, typing, column, kind_at}
use Rattle.away_values.specs.declared.types.Ty.{Ty}
use Rattle.sql_meaning.specs.Placed.{further, placed, placed_at}
use Rattle.sql_meaning.specs.Reads.{slots_of}
use Rattle.cte_types.specs.Linked.{IsLinked}
use Rattle.cte_types.proofs.KeptKinds.{Keeps, KeepsSome, kept_same}
use Rattle.cte_types.proofs.KeptTrees.{Placement, placed_kept}
use Rattle.cte_types.proofs.PlacedUses.{placed_uses}
use Rattle.cte_types.proofs.PlacedParameters.{placed_params}
use Rattle.cte_types.proofs.NullAlone.{is_null, kind_exact}
use Rattle.cte_types.proofs.SlotsRead.{is_in, reads_its_slots}
use Rattle.cte_types.proofs.Fine.{null_fine}

still_there : {A : Type 0} (xs ys : List A) (k : ℕ) → KeepsSome (slice_get xs k) (slice_get (xs ++ ys) k)
still_there [] ys k = tt
still_there (x ∷ xs) ys zero = refl
still_there (x ∷ xs) ys (suc k) = still_there xs ys k

-- over more tables, where each slot that is read has the type of its column
module _ (e : Expr) (ref : ℕ → Col) (slots : List Ty) (frames : List Frame) (tables more : List (List Ty)) (t : Ty)
    (columns : (i : ℕ) → is_in (slots_of e) i ≡ true → column frames (ref i) ≡ kind_at (slice_get slots i)) where
  abbrev there : Places
  there = record { slots = slots; frames = []; tables = tables }

  abbrev here : Places
  here = record { slots = []; frames = frames; tables = tables ++ more }

  as_far : (c : Col) → column frames (further 0 c) ≡ column frames c
  unfolding column
  as_far c =
      let same : c.level + 0 ≡ c.level = omega arith in
      ap (λ l. column frames (record c { level = l })) same

  stands : Placement ref (is_in (slots_of e)) 0 there here
  unfolding column kind_at
  stands = record {
    columns = λ c. tt;
    slots = λ i w. kept_same (kind_at (slice_get slots i)) (column frames (further 0 (ref i))) (as_far (ref i) ∙ columns i w);
    stands = λ k. still_there tables more k;
  }

  kept : Keeps (expr_of typing e there) (expr_of typing (placed ref e) here)
  kept = placed_kept ref (is_in (slots_of e)) e there here stands (reads_its_slots e)

  exact : IsLinked e → is_null e ≡ false → fits t (expr_of typing e there) ≡ true → expr_of typing (placed ref e) here ≡ Of t
  exact l n f =
      let k : expr_of typing e there ≡ Of t = kind_exact e there t l n f in
      subst (λ k. Keeps k (expr_of typing (placed ref e) here)) k kept

pub kind_at_place : (e : Expr) (ref : ℕ → Col) (slots : List Ty) (frames : List Frame) (tables more : List (List Ty)) (t : Ty)
    → ((i : ℕ) → is_in (slots_of e) i ≡ true → column frames (ref i) ≡ kind_at (slice_get slots i)) → IsLinked e
    → fits t (expr_of typing e (record { slots = slots; frames = []; tables = tables })) ≡ true
    → expr_of typing (placed_at t ref e) (record { slots = []; frames = frames; tables = tables ++ more }) ≡ Of t
kind_at_place b.Null ref slots frames tables more t columns l f = (null_fine (record { slots = []; frames = frames; tables = tables ++ more }) t).kind
kind_at_place e ref slots frames tables more t columns l f = exact e ref slots frames tables more t columns l refl f

pub uses_at_place : (e : Expr) (ref : ℕ → Col) (t : Ty) → ((i : ℕ) → 1 ≤ (ref i).level) → (expr_of using_ (placed_at t ref e)).uses ≡ (expr_of using_ e).uses
uses_at_place b.Null ref t outer = ap (λ f. f.uses) (eq.of_cast using_ expr.Null t)
uses_at_place e ref t outer = placed_uses ref outer e

pub params_at_place : (e : Expr) (ref : ℕ → Col) (t : Ty) → expr_of finding (placed_at t ref e) ≡ expr_of finding e
params_at_place b.Null ref t = eq.of_cast finding expr.Null t
params_at_place e ref t = placed_params ref e
