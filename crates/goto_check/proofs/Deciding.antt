-- The whole check from its parts.
use Rattle.std.proofs.Common.{◌≡◌, ℕ, ◌+◌, Bool, true, false, ◌&&◌, List, length, ◌↔◌, IsTrue, refl, sym, ap, subst, nat_eq}
use Rattle.std.proofs.lemmas.Bool.{eqb-true, eq-eqb}
use Rattle.away_trees.specs.declared.statements.Function.{Function}
use Rattle.away_types.specs.declared.slots.Slot.{Slot}
use Rattle.block_forms.specs.declared.forms.Goto.{Goto}
use Rattle.block_forms.specs.declared.places.Numbers.{Numbers}
use Rattle.block_forms.specs.Laid.{laid, setting_of}
use Rattle.block_forms.specs.Lowered.{AllStand, EachOnce, NoWayTo, BlockBelow, Lowered, numbers_of, parts_in, all_parts}
use Rattle.block_forms.specs.Places.{Each}

both : {P Q : Type 0} (a b : Bool) → IsTrue a ↔ P → IsTrue b ↔ Q → IsTrue (a && b) ↔ (P × Q)
both true true p q = (λ t. (p.0 t, q.0 t), λ x. p.1 x.0)
both true false p q = (λ t. absurd (cc), λ x. let f : IsTrue false = q.1 x.1 in absurd (cc))
both false b p q = (λ t. absurd (cc), λ x. let f : IsTrue false = p.1 x.0 in absurd (cc))

same_number : (a b : ℕ) (r : Bool) → nat_eq a b ≡ r → IsTrue r ↔ (a ≡ b)
same_number a b true e = (λ t. eqb-true a b e, λ q. search)
same_number a b false e = (λ t. absurd (cc), λ q. absurd (cc (e, eq-eqb a b q)))

pub are_same : (a b : ℕ) → IsTrue (nat_eq a b) ↔ (a ≡ b)
are_same a b = same_number a b (nat_eq a b) refl

-- the form is that of the function where the parts stand that are laid out by the function's numbers
pub decided : (f : Function) (slots : List Slot) (g : Goto) (n : Numbers) (stands e w b : Bool) → n ≡ numbers_of f → length g.nodes ≡ length f.params + (laid f.body).size.node →
    IsTrue stands ↔ AllStand g.blocks (parts_in (setting_of g slots n) f) →
    IsTrue e ↔ EachOnce (parts_in (setting_of g slots n) f) g.blocks →
    IsTrue w ↔ Each (NoWayTo g.entry) g.blocks →
    IsTrue b ↔ Each (BlockBelow (length slots)) g.blocks →
    IsTrue (((stands && e) && w) && b) ↔ Lowered f slots g
decided f slots g n stands e w b at_n as_many stand once way below =
    let at : parts_in (setting_of g slots n) f ≡ all_parts f slots g = ap (λ n. parts_in (setting_of g slots n) f) at_n in
    let all = both ((stands && e) && w) b (both (stands && e) w (both stands e stand once) way) below in (
      λ t. let h = all.0 t in record {
        as_many = as_many;
        stand = subst (λ ps. AllStand g.blocks ps) at h.0.0.0;
        each_once = subst (λ ps. EachOnce ps g.blocks) at h.0.0.1;
        no_way_in = h.0.1;
        slots_below = h.1;
      },
      λ l. all.1 (((subst (λ ps. AllStand g.blocks ps) (sym at) l.stand, subst (λ ps. EachOnce ps g.blocks) (sym at) l.each_once), l.no_way_in), l.slots_below),
    )
