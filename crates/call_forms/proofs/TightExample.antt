-- The worked tail form with all blocks merged is tight.
use Rattle.std.proofs.Common.{◌≡◌, ℕ, zero, suc, ◌<◌, ◌≤◌, [], ◌∷◌, Some, refl, sym, subst, arith, inl, inr}
use Rattle.std.specs.Prelude.{slice_get}
use Rattle.std.proofs.lemmas.Option.{same_Some}
use Rattle.away_typing.specs.Kinds.{same}
use Rattle.away_values.specs.declared.types.Ty.{Ty}
use Rattle.away_values.specs.declared.types.Ty.TheVariants as ty
use Rattle.block_forms.specs.Worked.{bigint, sign_of_form}
use Rattle.call_forms.specs.Called.{Among}
use Rattle.call_forms.specs.Forms.{AnfBlock}
use Rattle.call_forms.specs.Tight.{parameters_of_type, ColumnsOfType, DepthAfter, DepthWithin, HasDepth, Reason, entry, Tight}
use Rattle.call_forms.specs.Worked.{sign_of_ssa, sign_of_anf, sign_of_merged}
use Rattle.call_forms.proofs.Elements.{no_elements, first_element}

entry_label : Among (0 ∷ []) 0
entry_label = record { place = 0; there = refl }

abbrev parameters : Ty → ℕ → ℕ
parameters = parameters_of_type (bigint ∷ []) sign_of_ssa sign_of_anf

columns_at : (t : Ty) → ColumnsOfType (bigint ∷ []) sign_of_ssa sign_of_anf sign_of_merged t
unfolding same
columns_at ty.Bigint = record {
  enough = first_element (λ i b. parameters ty.Bigint b ≤ 1) 0 [] (let le : 1 ≤ 1 = omega arith in le) (no_elements _);
  none_spare = inr (record { label = 0; is_label = entry_label; needs = refl });
}
columns_at ty.Boolean = record {
  enough = first_element (λ i b. parameters ty.Boolean b ≤ 0) 0 [] (let le : 0 ≤ 0 = omega arith in le) (no_elements _);
  none_spare = inl refl;
}
columns_at ty.Text = record {
  enough = first_element (λ i b. parameters ty.Text b ≤ 0) 0 [] (let le : 0 ≤ 0 = omega arith in le) (no_elements _);
  none_spare = inl refl;
}
columns_at ty.Integer = record {
  enough = first_element (λ i b. parameters ty.Integer b ≤ 0) 0 [] (let le : 0 ≤ 0 = omega arith in le) (no_elements _);
  none_spare = inl refl;
}

-- ---- depths: the test's arms have depth 1, and the blocks before it none

abbrev Within : ℕ → ℕ → ℕ → Type 0
Within = DepthWithin sign_of_anf (0 ∷ [])

of_entry : (k d : ℕ) → Within k 0 d → d ≡ 0
of_entry zero d h = h.1
of_entry (suc k) d h = absurd (h.no_label entry_label)

after_caller : (k c b d above : ℕ) (x : AnfBlock) → slice_get sign_of_anf.blocks c ≡ Some x → Within k c above → (c ≡ 1 → above ≡ 0)
    → DepthAfter x.end b above d → (d ≤ 1) × (b ≡ 1 → d ≡ 0)
after_caller k zero b d above x e within first after =
    let here = subst (λ (x : AnfBlock). DepthAfter x.end b above d) (sym (same_Some _ _ e)) after in
    let none = of_entry k above within in
    (omega (arith, here.1, none), λ q. omega (arith, here.1, none))
after_caller k (suc zero) b d above x e within first after =
    let here = subst (λ (x : AnfBlock). DepthAfter x.end b above d) (sym (same_Some _ _ e)) after in
    let none = first refl in
    (omega (arith, here.1, none), λ q. elim here.0 [ inl p ↦ absurd (omega (arith, p, q)) | inr p ↦ absurd (omega (arith, p, q)) ])
after_caller k (suc (suc zero)) b d above x e within first after =
    absurd (subst (λ (x : AnfBlock). DepthAfter x.end b above d) (sym (same_Some _ _ e)) after)
after_caller k (suc (suc (suc zero))) b d above x e within first after =
    absurd (subst (λ (x : AnfBlock). DepthAfter x.end b above d) (sym (same_Some _ _ e)) after)
after_caller k (suc (suc (suc (suc zero)))) b d above x e within first after =
    absurd (subst (λ (x : AnfBlock). DepthAfter x.end b above d) (sym (same_Some _ _ e)) after)
after_caller k (suc (suc (suc (suc (suc c))))) b d above x e within first after = absurd (cc)

depth_within : (k b d : ℕ) → Within k b d → (d ≤ 1) × (b ≡ 1 → d ≡ 0)
depth_within zero b d h = (omega (arith, h.1), λ q. h.1)
depth_within (suc k) b d h =
    after_caller k h.caller b d h.above h.block h.there h.of_caller (λ q. (depth_within k h.caller h.above h.of_caller).1 q) h.after

shallow : (b d : ℕ) → HasDepth sign_of_anf (0 ∷ []) b d → d < 16
shallow b d h = omega (arith, (depth_within h.calls b d h.within).0)

pub merged_is_tight : Tight (bigint ∷ []) sign_of_form sign_of_ssa sign_of_anf sign_of_merged
merged_is_tight = record {
  columns = columns_at;
  depths = shallow;
  reasons = first_element (λ i. Reason sign_of_form sign_of_anf sign_of_merged) 0 [] (entry refl) (no_elements _);
}
