-- What the types of a checked function's terms follow from: its statements break no rule of types, and its slots are those of its text.
use Rattle.std.proofs.Common.{◌≡◌, refl, sym, ap, subst, ◌∙◌, ℕ, zero, suc, ◌+◌, ◌*◌, ◌<◌, List, [], ◌∷◌, ◌++◌, length, length-append, map, replicate, get_or, Option, Some, None, arith}
use Rattle.std.proofs.lemmas.List.{length-map, length-replicate}
use Rattle.std.specs.List.{flat_map}
use Rattle.away_values.specs.declared.types.Ty.{Ty}
use Rattle.away_values.specs.declared.types.Ty.TheVariants as ty
use Rattle.away_trees.specs.declared.queries.Expr.TheViews.{out-Select}
use Rattle.away_trees.specs.declared.queries.Expr.{Expr}
use Rattle.away_trees.specs.declared.schemas.Schema.{Schema}
use Rattle.away_trees.specs.declared.statements.Function.{Function}
use Rattle.away_types.specs.declared.slots.Slot.{Slot}
use Rattle.away_types.specs.CheckedFunctions.{IsChecked}
use Rattle.away_types.specs.FunctionChecks.{around_in, asked_in, function_note, head_note, types_note, body_of, resolved_function, slots_of}
use Rattle.away_types.specs.StatementTypes.{asking, asked_stmt}
use Rattle.away_trees.specs.StatementAlgebra.{stmt_of}
use Rattle.elaboration.specs.Converting.{Around, converted}
use Rattle.select_into.specs.Entries.{Target, type_of}
use Rattle.block_forms.specs.Intos.{Into, selecting, intos, into_targets}
use Rattle.block_forms.specs.Laid.{Setting, laid}
use Rattle.block_forms.specs.Lowered.{numbers_of}
use Rattle.block_forms.specs.OwnSlots.{named_slots}
use Rattle.block_forms.specs.Places.{Each}
use Rattle.block_forms.specs.Slots.{slot, variables, param_slots, shown_slots, shown_types, types_of, hidden_slot, own_slots}
use Rattle.block_forms.specs.Targets.{targets}
use Rattle.function_facts.proofs.SlotsOfParameters.{of_written}
use Rattle.away_types.proofs.ClearReports.{Clear, clear_bodies}
use Rattle.type_soundness.specs.Sorts.{Every}
use Rattle.cte_types.specs.Linked.{HasLinkedItems}
use Rattle.cte_types.proofs.IntoMarks.{IsMarked, stmt_marked}
use Rattle.cte_types.proofs.IntoTargets.{SlotBelow, IntoBelow, stmt_below}
use Rattle.cte_types.proofs.Positions.{ItemLinked, VariableAt, TargetAt, IntosAt}
use Rattle.cte_types.proofs.Standing.{Row, row_right, row_left, row_same, SlotAt, slots_stand, type_at}

pub record Facts (schema : Schema) (f : Function) (slots : List Slot) : Type 0 where
  pub types : Clear (stmt_of asking f.body (asked_in schema slots f.result))
  pub owned : slots ≡ own_slots f
  pub sets : Every (λ x. x < named_slots f) (targets f.body)
  pub marks : Every (IsMarked (around_in schema slots f.result)) (stmt_of selecting f.body)

written_facts : (s : Schema) (f : Function) → Clear (function_note s f) → Facts s (resolved_function s f) (slots_of s f)
unfolding asked_stmt converted
written_facts s f c =
    let body = clear_bodies _ (head_note f) (body_of s f).note (types_note s f) c in
    let own = of_written s f c in
    record {
      types = body.1;
      owned = own.slots_are;
      sets = own.sets;
      marks = stmt_marked (around_in s (slots_of s f) f.result) (body_of s f).it;
    }

pub facts : (schema : Schema) (written f : Function) (slots : List Slot) → IsChecked schema written f slots → Facts schema f slots
facts schema written f slots h =
    subst (λ f. Facts schema f slots) (sym h.function) (subst (Facts schema (resolved_function schema written)) (sym h.slots_are)
    (written_facts schema written h.unbroken))

-- ---- types by place

type_behind : (xs ys : List Slot) (i j : ℕ) → i ≡ length xs + j → type_at (xs ++ ys) i ≡ type_at ys j
type_behind [] ys i j e = let same : i ≡ j = omega (arith, e) in ap (type_at ys) same
type_behind (x ∷ xs) ys zero j e = absurd (omega (arith, e))
type_behind (x ∷ xs) ys (suc i) j e = type_behind xs ys i j (omega (arith, e))

type_before : (xs ys : List Slot) (x : ℕ) → x < length xs → type_at (xs ++ ys) x ≡ get_or (types_of xs) x ty.Bigint
type_before [] ys x lt = absurd (omega (arith, lt))
type_before (x ∷ xs) ys zero lt = refl
type_before (x ∷ xs) ys (suc i) lt = type_before xs ys i (omega (arith, lt))

integer_there : (many : ℕ) (ys : List Slot) (j : ℕ) → j < many → type_at (replicate many (slot ty.Integer) ++ ys) j ≡ ty.Integer
integer_there zero ys j lt = absurd (omega (arith, lt))
integer_there (suc many) ys zero lt = refl
integer_there (suc many) ys (suc j) lt = integer_there many ys j (omega (arith, lt))

-- ---- the slots of a function

abbrev of_fors : Function → List Slot
of_fors f = replicate (3 * (laid f.body).size.fors) (slot ty.Integer)

abbrev of_targets : Function → List Slot
of_targets f = map (hidden_slot (shown_types f)) (into_targets f.body)

abbrev behind_text : Function → List Slot
behind_text f = of_fors f ++ of_targets f

shown_stand : (f : Function) → Row (SlotAt (own_slots f)) 0 (shown_slots f)
shown_stand f = slots_stand (shown_slots f) (behind_text f)

pub params_stand : (f : Function) → Row (SlotAt (own_slots f)) 0 (param_slots f.params)
params_stand f = row_left (SlotAt (own_slots f)) 0 (param_slots f.params) (variables f.body) (shown_stand f)

params_many : (f : Function) → length f.params ≡ length (param_slots f.params)
params_many f = sym (length-map f.params (λ (p : List ℕ × Ty). slot p.1))

pub variables_stand : (f : Function) → Row (SlotAt (own_slots f)) (length f.params) (variables f.body)
variables_stand f =
    row_same (SlotAt (own_slots f)) (0 + length f.params) (length f.params) (variables f.body) (omega arith)
    (row_right (SlotAt (own_slots f)) 0 (length f.params) (param_slots f.params) (variables f.body) (params_many f) (shown_stand f))

module _ (f : Function) (vars : (laid f.body).size.slot ≡ length (variables f.body)) where
  abbrev fors : ℕ
  fors = (laid f.body).size.fors

  many : length (shown_slots f) ≡ (numbers_of f).counters
  many = omega (arith, vars, length-append (param_slots f.params) (variables f.body), params_many f)

  pub for_slot : (i j : ℕ) → i ≡ (numbers_of f).counters + j → j < 3 * fors → type_at (own_slots f) i ≡ ty.Integer
  for_slot i j e lt = type_behind (shown_slots f) (behind_text f) i j (omega (arith, e, many)) ∙ integer_there (3 * fors) (of_targets f) j lt

  target_slot : (i j : ℕ) → i ≡ (numbers_of f).targets + j → type_at (own_slots f) i ≡ type_at (of_targets f) j
  target_slot i j e =
      type_behind (shown_slots f) (behind_text f) i (3 * fors + j) (omega (arith, e, many))
      ∙ type_behind (of_fors f) (of_targets f) (3 * fors + j) j (omega (arith, length-replicate (3 * fors) (slot ty.Integer)))

  named_slot : (x : ℕ) → x < named_slots f → type_at (own_slots f) x ≡ type_of (shown_types f) (Some x)
  named_slot x lt = type_before (shown_slots f) (behind_text f) x (omega (arith, lt, many))

  -- ---- targets

  abbrev HiddenAt : ℕ → Target → Type 0
  HiddenAt k t = type_at (own_slots f) ((numbers_of f).targets + k) ≡ type_of (shown_types f) t.1

  hidden_row : (ts : List Target) (k : ℕ) → ((j : ℕ) → type_at (own_slots f) ((numbers_of f).targets + (k + j)) ≡ type_at (map (hidden_slot (shown_types f)) ts) j) → Row HiddenAt k ts
  hidden_row [] k alike = tt
  hidden_row (t ∷ ts) k alike = (
    ap (λ j. type_at (own_slots f) ((numbers_of f).targets + j)) (let z : k ≡ k + 0 = omega arith in z) ∙ alike 0,
    hidden_row ts (suc k) (λ j. ap (λ j. type_at (own_slots f) ((numbers_of f).targets + j)) (let z : suc k + j ≡ k + suc j = omega arith in z) ∙ alike (suc j)),
  )

  hidden_stand : Row HiddenAt 0 (into_targets f.body)
  hidden_stand = hidden_row (into_targets f.body) 0 (λ j. target_slot ((numbers_of f).targets + (0 + j)) j (omega arith))

  module _ (table : List Expr) (s : Setting) (w : Around) (slots_are : s.slots ≡ own_slots f) (targets_are : s.numbers.targets ≡ (numbers_of f).targets) where
    variable_at : (o : Option ℕ) → SlotBelow (named_slots f) o → VariableAt table s w (shown_types f) fors o (type_of (shown_types f) o)
    variable_at None b = tt
    variable_at (Some x) b = ap (λ xs. type_at xs x) slots_are ∙ named_slot x b

    targets_at : (k : ℕ) (ts : List Target) → Row HiddenAt k ts → Every (λ (t : Target). SlotBelow (named_slots f) t.1) ts → Row (TargetAt table s w (shown_types f) fors) k ts
    targets_at k [] h b = tt
    targets_at k (t ∷ ts) h b = (((λ i. type_at (slots_are i) (targets_are i + k)) ∙ h.0, variable_at t.1 b.0), targets_at (suc k) ts h.1 b.1)

    intos_at : (k : ℕ) (is : List Into) → Row HiddenAt k (flat_map (λ (i : Into). i.targets) is) → Every (IntoBelow (named_slots f)) is
        → Every (λ (i : Into). Every ItemLinked (out-Select i.query).list) is → Every (IsMarked w) is → IntosAt table s w (shown_types f) fors k is
    intos_at k [] h b l m = tt
    intos_at k (i ∷ is) h b l m = (
      (targets_at k i.targets (row_left HiddenAt k i.targets (flat_map (λ (i : Into). i.targets) is) h) b.0, (l.0, m.0)),
      intos_at (k + length i.targets) is (row_right HiddenAt k (length i.targets) i.targets (flat_map (λ (i : Into). i.targets) is) refl h) b.1 l.1 m.1,
    )

    every_of_each : {A : Type 0} (P : A → Type 0) (xs : List A) → Each P xs → Every P xs
    every_of_each P [] h = tt
    every_of_each P (x ∷ xs) h = (h 0 x refl, every_of_each P xs (λ i y e. h (suc i) y e))

    items_linked : (is : List Into) → Every HasLinkedItems is → Every (λ (i : Into). Every ItemLinked (out-Select i.query).list) is
    items_linked [] h = tt
    items_linked (i ∷ is) h = (every_of_each ItemLinked (out-Select i.query).list h.0, items_linked is h.1)

    pub intos_stand : Every (λ x. x < named_slots f) (targets f.body) → Each HasLinkedItems (intos f.body) → Every (IsMarked w) (stmt_of selecting f.body)
        → IntosAt table s w (shown_types f) fors 0 (intos f.body)
    unfolding targets intos
    intos_stand sets linked marks =
        intos_at 0 (intos f.body) hidden_stand (stmt_below (named_slots f) f.body sets) (items_linked (intos f.body) (every_of_each HasLinkedItems (intos f.body) linked)) marks
