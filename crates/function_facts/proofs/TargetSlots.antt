-- The targets of a SELECT INTO where no rule is broken: each is a variable in sight, and its hidden slot has that variable's type.
use Rattle.std.proofs.Common.{◌≡◌, refl, ap, ℕ, zero, suc, ◌<◌, arith, List, [], ◌∷◌, ◌++◌, map, length, Option, Some, None}
use Rattle.std.specs.Prelude.{slice_get, get_or}
use Rattle.away_values.specs.declared.types.Ty.TheVariants as ty
use Rattle.away_names.specs.declared.rule.Rule.TheVariants as rule
use Rattle.away_names.specs.declared.scope.Variable.{Variable}
use Rattle.away_names.specs.Lookups.{Name, Scope, variable_named}
use Rattle.away_names.specs.Naming.{written}
use Rattle.away_names.specs.Notes.{pure}
use Rattle.away_types.specs.declared.slots.Slot.{Slot}
use Rattle.away_types.specs.Statements as n
use Rattle.away_types.specs.Statements.{target_by, type_or_bigint, picked_for}
use Rattle.select_into.specs.Entries.{Target}
use Rattle.block_forms.specs.Slots.{slot, types_of, hidden_slot}
use Rattle.block_forms.specs.Targets.{named_targets}
use Rattle.type_soundness.specs.Sorts.{Every}
use Rattle.type_soundness.proofs.CleanNotes.{Clean, clean_parts, not_broken}
use Rattle.function_facts.proofs.Names.{every_each}
use Rattle.function_facts.proofs.SlotLookups.{VariablesBelow, variable_below}

-- a slot below a number, which is there
abbrev pub SlotBelow : ℕ → Option ℕ → Type 0
SlotBelow slots None = ⊥
SlotBelow slots (Some i) = i < slots

abbrev pub TargetBelow : ℕ → Target → Type 0
TargetBelow slots t = SlotBelow slots t.1

module _ (slots : ℕ) (scope : Scope) (h : VariablesBelow slots scope.variables) where
  by_below : (name : Name) (v : Option Variable) → variable_named name scope.variables ≡ v → Clean (target_by name v).note → TargetBelow slots (target_by name v).it
  unfolding target_by
  by_below name None is c = not_broken rule.Names c
  by_below name (Some v) is c = variable_below slots name scope.variables v h is

  target_below : (t : Target) → Clean (n.target scope t.0).note → TargetBelow slots (n.target scope t.0).it
  target_below t c =
      by_below t.0 (variable_named t.0 scope.variables) refl
      (clean_parts (written scope t.0) (target_by t.0 (variable_named t.0 scope.variables)).note c).1

  each_below : (ts : List Target) → Every (λ (t : Target). Clean (n.target scope t.0).note → TargetBelow slots (n.target scope t.0).it) ts
  each_below [] = tt
  each_below (t ∷ ts) = (target_below t, each_below ts)

  pub targets_below : (ts : List Target) → Clean (n.targeted scope ts).note → Every (TargetBelow slots) (n.targeted scope ts).it
  targets_below ts c = every_each (TargetBelow slots) (λ (t : Target). n.target scope t.0) ts (each_below ts) (pure []) (λ c. tt) c

-- ---- what is set

one_set : (slots : ℕ) (o : Option ℕ) (name : Name) (ts : List Target) → SlotBelow slots o → Every (λ i. i < slots) (named_targets ts) → Every (λ i. i < slots) (named_targets ((name, o) ∷ ts))
one_set slots None name ts h k = absurd h
one_set slots (Some i) name ts h k = (h, k)

pub sets_below : (slots : ℕ) (ts : List Target) → Every (TargetBelow slots) ts → Every (λ i. i < slots) (named_targets ts)
sets_below slots [] h = tt
sets_below slots (t ∷ ts) h = one_set slots t.1 t.0 ts h.0 (sets_below slots ts h.1)

-- ---- hidden slots

type_is : (shown later : List Slot) (i : ℕ) → i < length shown → type_or_bigint (slice_get shown i) ≡ get_or (types_of (shown ++ later)) i ty.Bigint
type_is [] later i l = absurd (omega (arith, l))
type_is (x ∷ xs) later zero l = refl
type_is (x ∷ xs) later (suc i) l = type_is xs later i (omega (arith, l))

one_is : (shown later : List Slot) (name : Name) (o : Option ℕ) → SlotBelow (length shown) o → picked_for shown o ≡ hidden_slot (types_of (shown ++ later)) (name, o)
one_is shown later name None h = absurd h
one_is shown later name (Some i) h = ap slot (type_is shown later i h)

-- whatever slots come later
pub picked_are : (shown later : List Slot) (ts : List Target) → Every (TargetBelow (length shown)) ts
    → map (λ (t : Target). picked_for shown t.1) ts ≡ map (hidden_slot (types_of (shown ++ later))) ts
picked_are shown later [] h = refl
picked_are shown later (t ∷ ts) h = λ j. one_is shown later t.0 t.1 h.0 j ∷ picked_are shown later ts h.1 j
