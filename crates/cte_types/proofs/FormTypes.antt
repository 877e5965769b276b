-- The terms of a checked function's forms have their types.
use Rattle.std.proofs.Common.{◌≡◌, refl, ap, sym, ◌∙◌, subst, ℕ, suc, ◌+◌, ◌*◌, ◌<◌, Bool, true, false, List, [], ◌∷◌, length, get_or, map, slice_get, Some, None, arith}
use Rattle.away_values.specs.declared.types.Ty.{Ty}
use Rattle.away_values.specs.declared.types.Ty.TheVariants as ty
use Rattle.away_trees.specs.declared.queries.Expr.{Expr}
use Rattle.away_trees.specs.declared.queries.Expr.TheVariants as expr
use Rattle.away_trees.specs.declared.schemas.Schema.{Schema}
use Rattle.away_trees.specs.declared.statements.Function.{Function}
use Rattle.away_types.specs.declared.slots.Slot.{Slot}
use Rattle.away_typing.specs.Wholes.{column_types}
use Rattle.elaboration.specs.Converting.{Around}
use Rattle.block_forms.specs.declared.forms.End.{End}
use Rattle.block_forms.specs.declared.forms.End.TheVariants as jump
use Rattle.block_forms.specs.declared.forms.Goto.{Goto}
use Rattle.block_forms.specs.declared.forms.Ssa.{Ssa}
use Rattle.block_forms.specs.declared.forms.SsaBlock.{SsaBlock}
use Rattle.block_forms.specs.declared.forms.Term.{Term}
use Rattle.block_forms.specs.Expressions.{sources, source_expressions, expressions}
use Rattle.block_forms.specs.FixedList.{fixed_list}
use Rattle.block_forms.specs.Forms.{Assignment, Pairs}
use Rattle.block_forms.specs.Intos.{intos}
use Rattle.block_forms.specs.Laid.{Setting, laid}
use Rattle.block_forms.specs.Lowered.{Lowered, TermBelow, SetBelow, EndBelow, setting, all_parts, param_parts, params_parts, body_place}
use Rattle.block_forms.specs.Named.{Named, TermRenamed, AssignmentRenamed, EndRenamed, exit_map}
use Rattle.block_forms.specs.Places.{Each}
use Rattle.block_forms.specs.Slots.{slot, variables, shown_types}
use Rattle.block_forms.proofs.Keys.{each_at_key}
use Rattle.call_forms.specs.declared.forms.Anf.{Anf}
use Rattle.call_forms.specs.declared.forms.CallEnd.{CallEnd}
use Rattle.call_forms.specs.declared.forms.CallEnd.TheVariants.{Go, Pick, Return, Fail}
use Rattle.call_forms.specs.Called.{Called, EndCalled}
use Rattle.call_forms.specs.Columned.{type_of_slot, type_at as type_of_option}
use Rattle.call_forms.specs.Templated.{types_of, type_or_bigint}
use Rattle.cte_types.specs.Linked.{HasLinkedItems}
use Rattle.cte_types.specs.Typed.{HasTypeBy, TermHasType, SetHasType, EndHasType, BlockHasTypes}
use Rattle.cte_types.proofs.CheckedFacts.{Facts, params_stand, variables_stand, for_slot, intos_stand}
use Rattle.cte_types.proofs.FixedTypes.{FixedHave, fixed_have}
use Rattle.cte_types.proofs.PartTypes.{around, Has, SetHas, EndHas, BlockHas, AllHave, have_both, has_at}
use Rattle.cte_types.proofs.ExitMaps.{inside, element_there, exit_owned}
use Rattle.cte_types.proofs.PieceTypes.{ForAt}
use Rattle.cte_types.proofs.Positions.{Stand}
use Rattle.cte_types.proofs.Standing.{Row, row_same, SlotAt, sources_stand, type_at}
use Rattle.cte_types.proofs.StatementTypes.{StatementHas, statement_has}

-- ---- the goto form

module _ (schema : Schema) (f : Function) (slots : List Slot) (known : Facts schema f slots)
    (linked : Each HasLinkedItems (intos f.body)) (g : Goto) (low : Lowered f slots g) where
  abbrev tables : List (List Ty)
  tables = column_types schema

  abbrev table : List Expr
  table = expressions f

  abbrev s : Setting
  s = setting f slots g

  abbrev FixedAt : ℕ → Type 0
  FixedAt = FixedHave tables table slots f.result

  abbrev w : Around
  w = around tables table slots f.result

  abbrev texts : List Expr
  texts = source_expressions f

  abbrev shown : List Ty
  shown = shown_types f

  abbrev fors : ℕ
  fors = (laid f.body).size.fors

  text_fixed : FixedAt (length texts)
  text_fixed = fixed_have tables texts slots f.result

  -- the counts of the body, found over numbers that are known before
  abbrev counting : Setting
  counting = record s { numbers = record { fixed = length texts; counters = 0; targets = 0 } }

  no_for : (k : ℕ) → k < 0 → ForAt counting k
  no_for k lt = absurd (omega (arith, lt))

  counted : StatementHas tables table f.result counting shown 0 text_fixed no_for (laid f.body) texts (variables f.body) (intos f.body)
  unfolding laid sources variables intos
  counted = statement_has tables table f.result counting shown 0 text_fixed no_for f.body known.types

  fixed : FixedAt s.numbers.fixed
  fixed = subst FixedAt (sym counted.count.exprs) text_fixed

  own_for : (i j : ℕ) → i ≡ s.numbers.counters + j → j < 3 * fors → type_at slots i ≡ ty.Integer
  own_for i j e lt = subst (λ xs. type_at xs i ≡ ty.Integer) (sym known.owned) (for_slot f counted.count.slots i j e lt)

  hidden : (k : ℕ) → k < fors → ForAt s k
  hidden k lt = record {
    counter = own_for (s.numbers.counters + 3 * k) (3 * k) refl (omega (arith, lt));
    last = own_for (s.numbers.counters + 3 * k + 1) (3 * k + 1) (omega arith) (omega (arith, lt));
    step = own_for (s.numbers.counters + 3 * k + 2) (3 * k + 2) (omega arith) (omega (arith, lt));
  }

  body_stand : Stand table s w shown fors (body_place f) (laid f.body).size texts (variables f.body) (intos f.body)
  body_stand = record {
    exprs = sources_stand texts fixed_list;
    slots = subst (λ xs. Row (SlotAt xs) (length f.params) (variables f.body)) (sym known.owned) (variables_stand f);
    room = omega arith;
    intos = intos_stand f counted.count.slots table s w known.owned refl known.sets linked known.marks;
  }

  body_have : AllHave tables table slots f.result ((laid f.body).parts s (body_place f) [] g.finish)
  unfolding laid sources variables intos
  body_have = (statement_has tables table f.result s shown fors fixed hidden f.body known.types).goes (body_place f) [] g.finish body_stand

  param_has : (strict : Bool) (i : ℕ) (t : Ty) → SlotAt slots i (slot t) → AllHave tables table slots f.result (param_parts s strict f.result i t)
  param_has false i t at = (tt, tt)
  param_has true i t at = (
    (tt, fixed.null_tests t i (ap (λ o. type_or_bigint (type_of_slot o)) at)),
    ((tt, fixed.nulls f.result), tt),
  )

  params_have : (strict : Bool) (ps : List (List ℕ × Ty)) (i : ℕ) → Row (SlotAt slots) i (map (λ (p : List ℕ × Ty). slot p.1) ps)
      → AllHave tables table slots f.result (params_parts s strict f.result i ps)
  params_have strict [] i at = tt
  params_have strict (p ∷ ps) i at =
      have_both tables table slots f.result (param_parts s strict f.result i p.1) (params_parts s strict f.result (i + 1) ps) (param_has strict i p.1 at.0)
      (params_have strict ps (i + 1) (row_same (SlotAt slots) (suc i) (i + 1) (map (λ (p : List ℕ × Ty). slot p.1) ps) (omega arith) at.1))

  all_have : AllHave tables table slots f.result (all_parts f slots g)
  all_have = (
    (tt, tt),
    (
      (tt, tt),
      have_both tables table slots f.result (params_parts s f.strict f.result 0 f.params) ((laid f.body).parts s (body_place f) [] g.finish)
          (params_have f.strict f.params 0
          (subst (λ xs. Row (SlotAt xs) 0 (map (λ (p : List ℕ × Ty). slot p.1) f.params)) (sym known.owned) (params_stand f))) body_have,
    ),
  )

  goto_has : Each (BlockHas tables table slots f.result) g.blocks
  goto_has i x at =
      has_at tables table slots f.result g.blocks i x at (all_parts f slots g) low.stand all_have (low.each_once.covered i (inside g.blocks i x at))

  -- ---- the SSA form

  module _ (count params : ℕ) (z : Ssa) (named : Named count params g z) where
    abbrev types : ℕ → Ty
    types = types_of slots z

    abbrev Typed : Ty → Term → Type 0
    Typed = TermHasType tables table types

    abbrev OfSlot : ℕ → ℕ → Type 0
    OfSlot x n = slice_get z.names n ≡ Some x

    abbrev Owned : Pairs → Type 0
    Owned m = Each (λ p. OfSlot p.0 p.1) m

    name_type : (x n : ℕ) → OfSlot x n → type_at slots x ≡ types n
    name_type x n h = ap (λ o. type_or_bigint (type_of_option slots o)) (sym h)

    renamed : (m : Pairs) (t : Ty) (u v : Term) → Owned m → TermRenamed m u v → TermBelow (length slots) u → Has tables table slots f.result t u → Typed t v
    renamed m t u v own h below has = subst (λ e. HasTypeBy tables types v.names t (get_or table e expr.Null)) h.expr (moved (has below))
      where
        moved : HasTypeBy tables (type_at slots) u.names t (get_or table u.expr expr.Null) → HasTypeBy tables types v.names t (get_or table u.expr expr.Null)
        moved r = record {
          slots = r.slots;
          beside = λ k i n at_i at_n.
              let of_u = element_there u.names k (subst (λ many. k < many) (sym h.names.as_many) (inside v.names k n at_n)) in
              let own_slot = each_at_key OfSlot m of_u.0 n own (h.names.each k of_u.0 n of_u.1 at_n) in
              r.beside k i of_u.0 at_i of_u.1 ∙ ap Some (name_type of_u.0 n own_slot);
          kind = r.kind;
          limited = r.limited;
          outside_list = r.outside_list;
        }

    set_renamed : (m : Pairs) (p q : Assignment) → Owned m → AssignmentRenamed z.names m p q → SetBelow (length slots) p
        → SetHas tables table slots f.result p
        → SetHasType tables table types q
    set_renamed m None None own h below has = tt
    set_renamed m None (Some q) own h below has = absurd h
    set_renamed m (Some p) None own h below has = absurd h
    set_renamed m (Some p) (Some q) own h below has =
        subst (λ t. Typed t q.1) (name_type p.0 q.0 h.0) (renamed m (type_at slots p.0) p.1 q.1 own h.1 below.1 has)

    abbrev EndTyped : End → Type 0
    EndTyped (jump.Jump c) = Unit {0}
    EndTyped (jump.Branch t c d) = Typed ty.Boolean t
    EndTyped (jump.Return t) = Typed f.result t
    EndTyped (jump.Fail c) = Unit {0}

    end_renamed : (m : Pairs) (d e : End) → Owned m → EndRenamed m d e → EndBelow (length slots) d → EndHas tables table slots f.result d → EndTyped e
    end_renamed m d (jump.Jump c) own h below has = tt
    end_renamed m (jump.Jump c) (jump.Branch u d d') own h below has = absurd h
    end_renamed m (jump.Branch t c c') (jump.Branch u d d') own h below has = renamed m ty.Boolean t u own h.0 below has
    end_renamed m (jump.Return t) (jump.Branch u d d') own h below has = absurd h
    end_renamed m (jump.Fail c) (jump.Branch u d d') own h below has = absurd h
    end_renamed m (jump.Jump c) (jump.Return u) own h below has = absurd h
    end_renamed m (jump.Branch t c c') (jump.Return u) own h below has = absurd h
    end_renamed m (jump.Return t) (jump.Return u) own h below has = renamed m f.result t u own h below has
    end_renamed m (jump.Fail c) (jump.Return u) own h below has = absurd h
    end_renamed m d (jump.Fail c) own h below has = tt

    record SsaTyped (y : SsaBlock) : Type 0 where
      set : SetHasType tables table types y.set
      end : EndTyped y.end

    ssa_typed : Each SsaTyped z.blocks
    ssa_typed i y at =
        let there = element_there g.blocks i (subst (λ n. i < n) named.as_many_blocks (inside z.blocks i y at)) in
        let has = goto_has i there.0 there.1 in
        let below = low.slots_below i there.0 there.1 in
        let own = (named.maps i y at).own_slots in
        let renames = named.blocks i there.0 y there.1 at in
        record {
          set = set_renamed y.map there.0.set y.set own renames.set below.set has.0;
          end = end_renamed (exit_map there.0 y) there.0.end y.end
              (exit_owned z.names y.map y.map there.0.set y.set renames.set own) renames.end below.end has.1;
        }

    -- ---- the normal form

    module _ (a : Anf) (called : Called g z a) where
      end_typed : (i : ℕ) (d : End) (e : CallEnd) → EndCalled z a i d e → EndTyped d → EndHasType tables table types f.result e
      end_typed i d (Go x) h typed = tt
      end_typed i (jump.Jump c) (Pick u x y) h typed = absurd h
      end_typed i (jump.Branch t c c') (Pick u x y) h typed = subst (Typed ty.Boolean) (sym h.0) typed
      end_typed i (jump.Return t) (Pick u x y) h typed = absurd h
      end_typed i (jump.Fail c) (Pick u x y) h typed = absurd h
      end_typed i (jump.Jump c) (Return u) h typed = absurd h
      end_typed i (jump.Branch t c c') (Return u) h typed = absurd h
      end_typed i (jump.Return t) (Return u) h typed = subst (Typed f.result) (sym h) typed
      end_typed i (jump.Fail c) (Return u) h typed = absurd h
      end_typed i d (Fail c) h typed = tt

      pub terms_typed : Each (BlockHasTypes tables table types f.result) a.blocks
      terms_typed i x at =
          let there = element_there z.blocks i (subst (λ n. i < n) called.as_many_blocks (inside a.blocks i x at)) in
          let typed = ssa_typed i there.0 there.1 in
          let h = called.blocks i there.0 x there.1 at in
          record { set = subst (SetHasType tables table types) (sym h.set) typed.set; end = end_typed i there.0.end x.end h.end typed.end }
