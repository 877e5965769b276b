-- The worked forms compute as related.
use Rattle.std.proofs.Common.{◌≡◌, ℕ, zero, suc, ◌+◌, ◌<◌, ◌≤◌, [], ◌∷◌, false, refl, sym, ap, subst, arith, rules}
use Rattle.std.specs.Prelude.{slice_get, Some}
use Rattle.std.proofs.lemmas.Option.{same_Some}
use Rattle.away_trees.specs.declared.statements.Stmt.TheBlock as b
use Rattle.away_trees.specs.declared.queries.Expr.TheBlock as e
use Rattle.away_trees.specs.declared.queries.Expr.TheViews as view
use Rattle.block_forms.specs.Laid.{laid}
use Rattle.block_forms.specs.Forms.{Block}
use Rattle.block_forms.specs.Expressions.{sources}
use Rattle.block_forms.specs.Places.{Each}
use Rattle.block_forms.specs.Lowered.{AllStand, all_parts, EachOnce, BlockBelow, owners, sharers, end_leads}
use Rattle.block_forms.specs.Intos.{intos}
use Rattle.block_forms.specs.Slots.{variables, own_slots}
use Rattle.block_forms.specs.WorkedInto.{only_key, only_key_slots, only_key_form, swapped, swapped_slots, swapped_form}
use Rattle.block_forms.specs.Worked.{sign_of, sign_of_form, collatz, collatz_form, count_up, count_up_form, count_up_slots, bigint, shared_entry, with_continue, with_exit, WorkedForms, WorkedTable, WorkedRuns}

sign_of_stands : AllStand sign_of_form.blocks (all_parts sign_of (bigint ∷ []) sign_of_form)
unfolding laid b.hidden-the_row-Stmt-0 b.hidden-the_row-Arm-1 e.hidden-the_row-Expr-0 e.hidden-the_row-Expr-Chain-1-2-1 denote.Hole.Carrier.hidden
sign_of_stands = search rules

collatz_stands : AllStand collatz_form.blocks (all_parts collatz (bigint ∷ bigint ∷ []) collatz_form)
unfolding laid b.hidden-the_row-Stmt-0 b.hidden-the_row-Arm-1 e.hidden-the_row-Expr-0 e.hidden-the_row-Expr-Chain-1-2-1 denote.Hole.Carrier.hidden
collatz_stands = search rules

count_up_stands : AllStand count_up_form.blocks (all_parts count_up count_up_slots count_up_form)
unfolding laid b.hidden-the_row-Stmt-0 b.hidden-the_row-Arm-1 e.hidden-the_row-Expr-0 e.hidden-the_row-Expr-Chain-1-2-1 denote.Hole.Carrier.hidden
count_up_stands = search rules

only_key_stands : AllStand only_key_form.blocks (all_parts only_key only_key_slots only_key_form)
unfolding laid b.hidden-the_row-Stmt-0 b.hidden-the_row-Arm-1 e.hidden-the_row-Expr-0 e.hidden-the_row-Expr-Chain-1-2-1 e.hidden-the_row-Select-5 e.hidden-the_row-Item-6 e.hidden-the_row-FromItem-7 e.hidden-the_row-Key-8 view.roll-Select view.roll-Query denote.Hole.Carrier.hidden denote.Hole.Carrier.roll
only_key_stands = search rules

swapped_stands : AllStand swapped_form.blocks (all_parts swapped swapped_slots swapped_form)
unfolding laid b.hidden-the_row-Stmt-0 b.hidden-the_row-Arm-1 e.hidden-the_row-Expr-0 e.hidden-the_row-Expr-Chain-1-2-1 e.hidden-the_row-Select-5 e.hidden-the_row-Item-6 e.hidden-the_row-FromItem-7 e.hidden-the_row-Key-8 view.roll-Select view.roll-Query denote.Hole.Carrier.hidden denote.Hole.Carrier.roll
swapped_stands = search rules

slots_are : own_slots only_key ≡ only_key_slots
unfolding laid intos variables b.hidden-the_row-Stmt-0 b.hidden-the_row-Arm-1 e.hidden-the_row-Expr-0 e.hidden-the_row-Expr-Chain-1-2-1 e.hidden-the_row-Select-5 e.hidden-the_row-Item-6 e.hidden-the_row-FromItem-7 e.hidden-the_row-Key-8 view.roll-Select view.roll-Query denote.Hole.Carrier.hidden denote.Hole.Carrier.roll
slots_are = refl

sign_of_once : EachOnce (all_parts sign_of (bigint ∷ []) sign_of_form) sign_of_form.blocks
unfolding laid b.hidden-the_row-Stmt-0 b.hidden-the_row-Arm-1 e.hidden-the_row-Expr-0 e.hidden-the_row-Expr-Chain-1-2-1 denote.Hole.Carrier.hidden
sign_of_once = record { once = once; covered = covered }
  where
    once : (b : ℕ) → b < 5 → owners b (all_parts sign_of (bigint ∷ []) sign_of_form) ≤ 1
    once zero lt = omega arith
    once (suc zero) lt = omega arith
    once (suc (suc zero)) lt = omega arith
    once (suc (suc (suc zero))) lt = omega arith
    once (suc (suc (suc (suc zero)))) lt = omega arith
    once (suc (suc (suc (suc (suc b))))) lt = absurd (omega arith)

    covered : (b : ℕ) → b < 5 → 1 ≤ owners b (all_parts sign_of (bigint ∷ []) sign_of_form) + sharers b (all_parts sign_of (bigint ∷ []) sign_of_form)
    covered zero lt = omega arith
    covered (suc zero) lt = omega arith
    covered (suc (suc zero)) lt = omega arith
    covered (suc (suc (suc zero))) lt = omega arith
    covered (suc (suc (suc (suc zero)))) lt = omega arith
    covered (suc (suc (suc (suc (suc b))))) lt = absurd (omega arith)

no_way_at : (i : ℕ) (x : Block) → slice_get sign_of_form.blocks i ≡ Some x → end_leads x.end 0 ≡ false
no_way_at zero x e = ap (λ (x : Block). end_leads x.end 0) (same_Some _ _ (sym e))
no_way_at (suc zero) x e = ap (λ (x : Block). end_leads x.end 0) (same_Some _ _ (sym e))
no_way_at (suc (suc zero)) x e = ap (λ (x : Block). end_leads x.end 0) (same_Some _ _ (sym e))
no_way_at (suc (suc (suc zero))) x e = ap (λ (x : Block). end_leads x.end 0) (same_Some _ _ (sym e))
no_way_at (suc (suc (suc (suc zero)))) x e = ap (λ (x : Block). end_leads x.end 0) (same_Some _ _ (sym e))
no_way_at (suc (suc (suc (suc (suc b))))) x e = absurd (cc)

no_names : Each (λ s. s < 1) []
no_names i s e = absurd (cc)

slot_zero : Each (λ s. s < 1) (0 ∷ [])
slot_zero zero s e = subst (λ s. s < 1) (same_Some _ _ e) (let lt : 0 < 1 = omega arith in lt)
slot_zero (suc i) s e = absurd (cc)

below_at : (i : ℕ) (x : Block) → slice_get sign_of_form.blocks i ≡ Some x → BlockBelow 1 x
below_at zero x e = subst (BlockBelow 1) (same_Some _ _ e) (record { set = tt; end = tt })
below_at (suc zero) x e = subst (BlockBelow 1) (same_Some _ _ e) (record { set = tt; end = record { names = slot_zero } })
below_at (suc (suc zero)) x e = subst (BlockBelow 1) (same_Some _ _ e) (record { set = tt; end = record { names = no_names } })
below_at (suc (suc (suc zero))) x e = subst (BlockBelow 1) (same_Some _ _ e) (record { set = tt; end = record { names = no_names } })
below_at (suc (suc (suc (suc zero)))) x e = subst (BlockBelow 1) (same_Some _ _ e) (record { set = tt; end = tt })
below_at (suc (suc (suc (suc (suc b))))) x e = absurd (cc)

continue_at_entry : AllStand shared_entry.blocks (all_parts with_continue [] shared_entry)
unfolding laid b.hidden-the_row-Stmt-0 b.hidden-the_row-Arm-1 e.hidden-the_row-Expr-0 e.hidden-the_row-Expr-Chain-1-2-1 denote.Hole.Carrier.hidden
continue_at_entry = search rules

exit_at_entry : AllStand shared_entry.blocks (all_parts with_exit [] shared_entry) → ⊥
unfolding laid b.hidden-the_row-Stmt-0 b.hidden-the_row-Arm-1 e.hidden-the_row-Expr-0 e.hidden-the_row-Expr-Chain-1-2-1 denote.Hole.Carrier.hidden
exit_at_entry h = h.1.1.1.1.1.1.0

pub forms_stand : WorkedForms
unfolding laid b.hidden-the_row-Stmt-0 b.hidden-the_row-Arm-1 e.hidden-the_row-Expr-0 e.hidden-the_row-Expr-Chain-1-2-1 denote.Hole.Carrier.hidden
forms_stand = record {
  sign_of_is = record { as_many = refl; stand = sign_of_stands; each_once = sign_of_once; no_way_in = λ i x e. record { elsewhere = no_way_at i x e }; slots_below = below_at };
  collatz_stands = collatz_stands;
  count_up_stands = count_up_stands;
  continue_at_entry_stands = continue_at_entry;
  exit_at_entry = λ h. exit_at_entry h.stand;
  only_key_stands = only_key_stands;
  swapped_stands = swapped_stands;
  slots_are = slots_are;
}

pub table_is : WorkedTable
unfolding sources variables b.hidden-the_row-Stmt-0 b.hidden-the_row-Arm-1 e.hidden-the_row-Expr-0 e.hidden-the_row-Expr-Chain-1-2-1 e.hidden-the_row-Select-5 e.hidden-the_row-Item-6 e.hidden-the_row-FromItem-7 e.hidden-the_row-Key-8 view.roll-Select view.roll-Query denote.Hole.Carrier.hidden denote.Hole.Carrier.roll view.out-Select denote.Hole.Carrier.out denote.Hole.Carrier.shown e.shown-the_row-Key-8
table_is = record {
  first = refl;
  second = refl;
  last = refl;
  many = refl;
  past_greatest = refl;
  past_least = refl;
  next_up = refl;
  next_down = refl;
  one = refl;
  strict = refl;
  picked = refl;
  converted = refl;
}

pub runs_are : WorkedRuns
unfolding sources variables b.hidden-the_row-Stmt-0 b.hidden-the_row-Arm-1 e.hidden-the_row-Expr-0 e.hidden-the_row-Expr-Chain-1-2-1 e.hidden-the_row-Select-5 e.hidden-the_row-Item-6 e.hidden-the_row-FromItem-7 e.hidden-the_row-Key-8 view.roll-Select view.roll-Query denote.Hole.Carrier.hidden denote.Hole.Carrier.roll view.out-Select denote.Hole.Carrier.out denote.Hole.Carrier.shown e.shown-the_row-Key-8
runs_are = record { ends = refl; goes_on = refl; swaps = refl }
