-- The SSA form of sign_of is named.
use Rattle.std.proofs.Common.{◌≡◌, ℕ, zero, suc, ◌<◌, [], ◌∷◌, Some, None, refl, subst, arith}
use Rattle.std.specs.Prelude.{slice_get}
use Rattle.std.proofs.lemmas.Option.{same_Some}
use Rattle.block_forms.specs.declared.forms.Block.{Block}
use Rattle.block_forms.specs.declared.forms.End.{End}
use Rattle.block_forms.specs.declared.forms.End.TheVariants as jump
use Rattle.block_forms.specs.declared.forms.SsaBlock.{SsaBlock}
use Rattle.block_forms.specs.Forms.{Pairs, at_key, source}
use Rattle.block_forms.specs.Named.{places_that_set, NamesOfSlots, MapOfSlots, MapOfParameters, TermRenamed, BlockRenamed, PhisOfPredecessors, Gives, EdgesFed, Named}
use Rattle.block_forms.specs.Patterns.{term}
use Rattle.block_forms.specs.Places.{Each, EachAt, EachPair, NoneBefore, Distinct, first_of}
use Rattle.block_forms.specs.Worked.{sign_of_form}
use Rattle.call_forms.specs.Worked.{sign_of_ssa}
use Rattle.call_forms.proofs.Elements.{no_elements, first_element, no_pairs, first_pair}

-- ---- names

names : NamesOfSlots 1 1 sign_of_ssa
names = record {
  of_slots = first_element (λ i s. s < 1) 0 [] (omega arith) (no_elements (λ i s. s < 1));
  parameters = parameters;
  parameters_unset = unset;
  set_once = λ n lt. omega (arith, unset n lt);
}
  where
    parameters : (k : ℕ) → k < 1 → slice_get (0 ∷ []) k ≡ Some k
    parameters zero lt = refl
    parameters (suc k) lt = absurd (omega (arith, lt))

    unset : (k : ℕ) → k < 1 → places_that_set sign_of_ssa.blocks k ≡ 0
    unset k lt = refl

-- ---- maps

-- what holds of the pair of 0 and 0 holds of each element of their map
of_pair : (P : ℕ × ℕ → Type 0) → P (0, 0) → Each P ((0, 0) ∷ [])
of_pair P here = first_element (λ i. P) (0, 0) [] here (no_elements (λ i. P))

one_slot : Distinct first_of ((0, 0) ∷ [])
one_slot = first_element (λ i p. NoneBefore first_of ((0, 0) ∷ []) i p.0) (0, 0) [] (record { others = λ j y at lt. absurd (omega (arith, lt)) }) (no_elements _)

abbrev OfSlots : SsaBlock → Type 0
OfSlots = MapOfSlots (0 ∷ [])

one_map : (e : End) → OfSlots (record { map = (0, 0) ∷ []; phis = []; set = None; end = e })
one_map e = record {
  slots_differ = one_slot;
  own_slots = of_pair (λ p. slice_get (0 ∷ []) p.1 ≡ Some p.0) refl;
  phi_slots_differ = no_elements _;
  phis_mapped = no_elements _;
}

no_map : (e : End) → OfSlots (record { map = []; phis = []; set = None; end = e })
no_map e = record { slots_differ = no_elements _; own_slots = no_elements _; phi_slots_differ = no_elements _; phis_mapped = no_elements _ }

maps : Each OfSlots sign_of_ssa.blocks
maps zero y e = subst OfSlots (same_Some _ _ e) (one_map _)
maps (suc zero) y e = subst OfSlots (same_Some _ _ e) (one_map _)
maps (suc (suc zero)) y e = subst OfSlots (same_Some _ _ e) (no_map _)
maps (suc (suc (suc zero))) y e = subst OfSlots (same_Some _ _ e) (no_map _)
maps (suc (suc (suc (suc zero)))) y e = subst OfSlots (same_Some _ _ e) (no_map _)
maps (suc (suc (suc (suc (suc i))))) y e = absurd (cc)

entry : MapOfParameters 1 (record { map = (0, 0) ∷ []; phis = []; set = None; end = jump.Jump 1 })
entry = record { no_phi = refl; parameters = of_pair (λ p. (p.0 ≡ p.1) × (p.1 < 1)) (refl, omega arith) }

-- ---- blocks

no_slots : (m : Pairs) (k : ℕ) → TermRenamed m (term k []) (term k [])
no_slots m k = record { expr = refl; names = record { as_many = refl; each = no_pairs (λ i s n. at_key m s ≡ Some n) [] } }

one_name : (k : ℕ) → TermRenamed ((0, 0) ∷ []) (term k (0 ∷ [])) (term k (0 ∷ []))
one_name k = record {
  expr = refl;
  names = record {
    as_many = refl;
    each = first_pair (λ i s n. at_key ((0, 0) ∷ []) s ≡ Some n) 0 0 [] [] refl (no_pairs (λ i s n. at_key ((0, 0) ∷ []) s ≡ Some n) []);
  };
}

-- two elements of two lists
at_pair : (P : Block → SsaBlock → Type 0) (x x' : Block) (y y' : SsaBlock) → Some x ≡ Some x' → Some y ≡ Some y' → P x y → P x' y'
at_pair P x x' y y' d e h = subst (λ x. P x y') (same_Some x x' d) (subst (P x) (same_Some y y' e) h)

abbrev IsRenamed : Block → SsaBlock → Type 0
IsRenamed = BlockRenamed (0 ∷ [])

blocks : EachPair (λ b. IsRenamed) sign_of_form.blocks sign_of_ssa.blocks
blocks zero x y d e = at_pair IsRenamed _ _ _ _ d e (record { set = tt; end = refl })
blocks (suc zero) x y d e = at_pair IsRenamed _ _ _ _ d e (record { set = tt; end = (one_name 0, refl, refl) })
blocks (suc (suc zero)) x y d e = at_pair IsRenamed _ _ _ _ d e (record { set = tt; end = no_slots [] 1 })
blocks (suc (suc (suc zero))) x y d e = at_pair IsRenamed _ _ _ _ d e (record { set = tt; end = no_slots [] 2 })
blocks (suc (suc (suc (suc zero)))) x y d e = at_pair IsRenamed _ _ _ _ d e (record { set = tt; end = refl })
blocks (suc (suc (suc (suc (suc i))))) x y d e = absurd (cc)

-- ---- edges

abbrev HasOperands : ℕ → SsaBlock → Type 0
HasOperands = PhisOfPredecessors sign_of_form.blocks

operands : EachAt HasOperands sign_of_ssa.blocks
operands zero y e = subst (HasOperands 0) (same_Some _ _ e) (record { each = no_elements _ })
operands (suc zero) y e = subst (HasOperands 1) (same_Some _ _ e) (record { each = no_elements _ })
operands (suc (suc zero)) y e = subst (HasOperands 2) (same_Some _ _ e) (record { each = no_elements _ })
operands (suc (suc (suc zero))) y e = subst (HasOperands 3) (same_Some _ _ e) (record { each = no_elements _ })
operands (suc (suc (suc (suc zero)))) y e = subst (HasOperands 4) (same_Some _ _ e) (record { each = no_elements _ })
operands (suc (suc (suc (suc (suc i))))) y e = absurd (cc)

abbrev AreFed : ℕ → Block → SsaBlock → Type 0
AreFed = EdgesFed sign_of_ssa.blocks

edges : EachPair AreFed sign_of_form.blocks sign_of_ssa.blocks
edges zero x y d e =
    at_pair (AreFed 0) _ _ _ _ d e (record { each = of_pair (λ p. Gives (at_key ((0, 0) ∷ []) p.0) (source [] 0 p.1)) refl })
edges (suc zero) x y d e = at_pair (AreFed 1) _ _ _ _ d e (record { each = (no_elements _, no_elements _) })
edges (suc (suc zero)) x y d e = at_pair (AreFed 2) _ _ _ _ d e (record { each = tt })
edges (suc (suc (suc zero))) x y d e = at_pair (AreFed 3) _ _ _ _ d e (record { each = tt })
edges (suc (suc (suc (suc zero)))) x y d e = at_pair (AreFed 4) _ _ _ _ d e (record { each = tt })
edges (suc (suc (suc (suc (suc i))))) x y d e = absurd (cc)

pub named : Named 1 1 sign_of_form sign_of_ssa
named = record { as_many_blocks = refl; names = names; maps = maps; entry = entry; blocks = blocks; operands = operands; edges = edges }
