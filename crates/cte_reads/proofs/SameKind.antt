-- `==` tells equal kinds from others.
use Rattle.std.proofs.Common.{◌≡◌, ℕ, ℤ, Bool, true, false, ◌&&◌, refl, sym, ap, ◌∙◌, List, [], ◌∷◌, ◌==◌, int_eq}
use Rattle.std.specs.Bool.{Decides}
use Rattle.std.proofs.lemmas.Bool.Decides.{Decides-eqb, Decides-int_eq, Decides-and, Decides-like}
use mathlib.Core.Bool.{beq}
use mathlib.Core.Logic.{◌⊎◌, inl, inr}
use denote.Enum.Bare.{sameb, same_true, true_same, Bare}
use denote.Enum.Compared.{Each, by}
use denote.Enum.Declared.{Declared, Choice}
use denote.Struct.Field.{Field}
use denote.Struct.Values.{Values}
use Rattle.away_trees.specs.declared.queries.Col.{Col}
use Rattle.away_values.specs.contracts.operators.ChainOp as links
use Rattle.away_values.specs.contracts.operators.ChainOpPartialEq.TheImpl as link_impl
use Rattle.away_values.specs.contracts.operators.IntOp as int_ops
use Rattle.away_values.specs.contracts.operators.CmpOp as comparisons
use Rattle.away_values.specs.contracts.operators.IsTest as is_tests
use Rattle.away_values.specs.contracts.types.Ty as types
use Rattle.tree_events.specs.contracts.events.Kind as made
use Rattle.tree_events.specs.contracts.events.KindPartialEq.TheImpl as impl
use Rattle.tree_events.specs.declared.events.Kind.{Kind}

-- ---- a choice between tuples, by what compares each of them

record Leaf (V : Type 0) : Type 0 where
  eq : V → V → Bool
  told : (x y : V) → Decides (eq x y) (x ≡ y)

abbrev Leaves : List (List Field) → Type 0
Leaves [] = Unit {0}
Leaves (Fs ∷ Fss) = Leaf (Values Fs) × Leaves Fss

abbrev each_of : (Fss : List (List Field)) → Leaves Fss → Each Bool Fss
each_of [] l = tt
each_of (Fs ∷ Fss) l = (l.0.eq, each_of Fss l.1)

left_same : {A B : Type 0} (a b : A) (x y : A ⊎ B) → x ≡ inl a → y ≡ inl b → x ≡ y → a ≡ b
left_same a b x y p q e = cc

right_same : {A B : Type 0} (a b : B) (x y : A ⊎ B) → x ≡ inr a → y ≡ inr b → x ≡ y → a ≡ b
right_same a b x y p q e = cc

by_told : (Fss : List (List Field)) (l : Leaves Fss) (c d : Choice Fss) → Decides (by false false Fss (each_of Fss l) c d) (c ≡ d)
by_told [] l c d = absurd c
by_told (Fs ∷ Fss) l (inl a) (inl b) = Decides-like _ (ap inl) (left_same a b (inl a) (inl b) refl refl) (l.0.told a b)
by_told (Fs ∷ Fss) l (inl a) (inr b) = (λ e. absurd (cc), λ e. absurd (cc))
by_told (Fs ∷ Fss) l (inr b) (inl a) = (λ e. absurd (cc), λ e. absurd (cc))
by_told (Fs ∷ Fss) l (inr a) (inr b) = Decides-like _ (ap inr) (right_same a b (inr a) (inr b) refl refl) (by_told Fss l.1 a b)

-- ---- the tuples of a kind

one : {X : Type 0} (x y : X × Unit {0}) (r : Bool) → Decides r (x.0 ≡ y.0) → Decides r (x ≡ y)
one x y r h = Decides-like r (λ e i. (e i, tt)) (ap (λ p. p.0)) h

two : {X Y : Type 0} (x y : X × (Y × Unit {0})) (r s : Bool) → Decides r (x.0 ≡ y.0) → Decides s (x.1.0 ≡ y.1.0) → Decides (r && s) (x ≡ y)
two x y r s h k = Decides-like (r && s) (λ e i. (e.0 i, (e.1 i, tt))) (λ e. (ap (λ p. p.0) e, ap (λ p. p.1.0) e)) (Decides-and r s h k)

beq_told : (a b : Bool) → Decides (beq a b) (a ≡ b)
beq_told true true = (λ e. refl, λ e. refl)
beq_told true false = (λ e. absurd (cc), λ e. absurd (cc))
beq_told false true = (λ e. absurd (cc), λ e. absurd (cc))
beq_told false false = (λ e. refl, λ e. refl)

bare_told : (D : Declared) → Bare D.parts → (x y : D.D) → Decides (sameb D x y) (x ≡ y)
bare_told D b x y = (same_true D b x y, true_same D x y)

column_told : (x y : Col) → Decides ((x.level == y.level) && ((x.item == y.item) && (x.column == y.column))) (x ≡ y)
column_told x y =
    Decides-like _ (λ e i. record { level = e.0 i; item = e.1.0 i; column = e.1.1 i }) (λ e. (ap (λ c. c.level) e, (ap (λ c. c.item) e, ap (λ c. c.column) e)))
    (Decides-and _ _ (Decides-eqb x.level y.level) (Decides-and _ _ (Decides-eqb x.item y.item) (Decides-eqb x.column y.column)))

abbrev alone : Leaf (Unit {0})
alone = record { eq = λ x y. true; told = λ x y. (λ e. refl, λ e. refl) }

abbrev integers : Leaf (ℤ × Unit {0})
integers = record { eq = λ x y. int_eq x.0 y.0; told = λ x y. one x y _ (Decides-int_eq x.0 y.0) }

abbrev numbers : Leaf (ℕ × Unit {0})
numbers = record { eq = λ x y. x.0 == y.0; told = λ x y. one x y _ (Decides-eqb x.0 y.0) }

abbrev truths : Leaf (Bool × Unit {0})
truths = record { eq = λ x y. beq x.0 y.0; told = λ x y. one x y _ (beq_told x.0 y.0) }

abbrev columns : Leaf (Col × Unit {0})
columns = record {
  eq = λ x y. (x.0.level == y.0.level) && ((x.0.item == y.0.item) && (x.0.column == y.0.column));
  told = λ x y. one x y _ (column_told x.0 y.0);
}

abbrev of_bare : (D : Declared) → Bare D.parts → Leaf (D.D × Unit {0})
of_bare D b = record { eq = λ x y. sameb D x.0 y.0; told = λ x y. one x y _ (bare_told D b x.0 y.0) }

abbrev params : Leaf (ℕ × (types.the_type.D × Unit {0}))
params = record {
  eq = λ x y. (x.0 == y.0) && sameb types.the_type x.1.0 y.1.0;
  told = λ x y. two x y _ _ (Decides-eqb x.0 y.0) (bare_told types.the_type tt x.1.0 y.1.0);
}

abbrev tests : Leaf (is_tests.the_type.D × (Bool × Unit {0}))
tests = record {
  eq = λ x y. sameb is_tests.the_type x.0 y.0 && beq x.1.0 y.1.0;
  told = λ x y. two x y _ _ (bare_told is_tests.the_type tt x.0 y.0) (beq_told x.1.0 y.1.0);
}

abbrev link_ops : Leaves links.the_parts
link_ops = (alone, (alone, (alone, (of_bare int_ops.the_type tt, (of_bare int_ops.the_type tt, tt)))))

link_told : (x y : links.the_type.D) → Decides (link_impl.ghosts.eq x y) (x ≡ y)
link_told x y =
    Decides-like _ (λ e. sym (links.the_eta x) ∙ (ap links.the_make e ∙ links.the_eta y)) (ap links.as_values) (by_told links.the_parts link_ops (links.as_values x) (links.as_values y))

abbrev link : Leaf (links.the_type.D × Unit {0})
link = record { eq = λ x y. link_impl.ghosts.eq x.0 y.0; told = λ x y. one x y _ (link_told x.0 y.0) }

abbrev kinds : Leaves made.the_parts
kinds = (integers, (alone, (truths, (alone, (alone, (alone, (numbers, (columns, (params, (alone, (alone, (alone, (tests, (alone, (link, (of_bare comparisons.the_type tt, (truths, (truths, (of_bare types.the_type tt, (alone, (alone, (alone, (alone, (alone, (alone, (alone, (alone, (truths, (truths, (alone, (alone, (alone, (alone, (alone, (alone, (alone, (alone, (alone, tt))))))))))))))))))))))))))))))))))))))

pub same_kinds : (x y : Kind) → Decides (impl.ghosts.eq x y) (x ≡ y)
same_kinds x y =
    Decides-like _ (λ e. sym (made.the_eta x) ∙ (ap made.the_make e ∙ made.the_eta y)) (ap made.as_values) (by_told made.the_parts kinds (made.as_values x) (made.as_values y))
