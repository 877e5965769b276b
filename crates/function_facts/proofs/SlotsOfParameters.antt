-- A function begins with the slots of its parameters.
use Rattle.std.proofs.Common.{◌≡◌, refl, sym, ap, subst, ◌∙◌, ℕ, ◌<◌, arith, append_assoc, append-nil, length-append, false, List, [], ◌∷◌, ◌++◌, map, fold, length}
use Rattle.std.proofs.lemmas.List.{length-map}
use Rattle.away_values.specs.declared.types.Ty.{Ty}
use Rattle.away_trees.specs.declared.schemas.Schema.{Schema}
use Rattle.away_trees.specs.declared.statements.Function.{Function}
use Rattle.away_names.specs.Lookups.{Name}
use Rattle.away_types.specs.declared.parameters.Start.{Start}
use Rattle.away_types.specs.declared.slots.Slot.{Slot}
use Rattle.away_types.specs.Statements.{with_slot}
use Rattle.away_types.specs.FunctionChecks.{start, with_param, entry, around_in, body_of, converted_body, function_note, head_note, types_note, resolved_function, slots_of, asked_in}
use Rattle.away_types.specs.ResolvedBodies.{resolved_stmt}
use Rattle.block_forms.specs.declared.places.Position.{Position}
use Rattle.block_forms.specs.Slots.{slot, variables, hidden_slot, own_slots, shown_slots, shown_types}
use Rattle.block_forms.specs.Expressions.{sources, whole_select}
use Rattle.block_forms.specs.Intos.{Into, intos, into_targets}
use Rattle.block_forms.specs.Laid.{laid}
use Rattle.block_forms.specs.OwnSlots.{named_slots}
use Rattle.block_forms.specs.Targets.{targets}
use Rattle.type_soundness.specs.Sorts.{Every}
use Rattle.away_types.proofs.ClearReports.{Clear, clear_bodies}
use Rattle.elaboration.specs.Converting.{Around}
use Rattle.function_facts.proofs.ConvertedReads.{into_reads}
use Rattle.function_facts.proofs.ConvertedSlots.{intos_are, into_targets_same, of_intos, size_same, targets_same, variables_same}
use Rattle.function_facts.proofs.ConvertedSources.{ReadsSame, every_beside, sources_read}
use Rattle.function_facts.proofs.SlotLookups.{IsBelow, VariablesBelow}
use Rattle.function_facts.proofs.Found.{found}
use Rattle.function_facts.proofs.Taken.{Takes, SourceBelow, IntoBelow, hidden_slots, target_slots, variable_taken}
use Rattle.function_facts.proofs.SlotsOfStatements.{stmt_takes}
use Rattle.function_facts.proofs.SomeTargets.{HasTarget, asked_some}

abbrev slots_of_params : List (Name × Ty) → List Slot
slots_of_params ps = map (λ (p : Name × Ty). slot p.1) ps

-- so many slots are there, none of them hidden
pub record Started (shown : List Slot) (s : Start) : Type 0 where
  pub shown_is : s.slots.shown ≡ shown
  pub hidden_is : s.slots.hidden ≡ []
  pub picked_is : s.slots.picked ≡ []
  pub in_sight : VariablesBelow (length s.slots.shown) s.variables

pushed : (s : Start) (p : Name × Ty) → (with_slot p.1 false s.slots).shown ≡ s.slots.shown ++ slot p.1 ∷ []
unfolding with_slot
pushed s p = refl

kept : (s : Start) (p : Name × Ty) → (with_slot p.1 false s.slots).hidden ≡ s.slots.hidden
unfolding with_slot
kept s p = refl

kept_picked : (s : Start) (p : Name × Ty) → (with_slot p.1 false s.slots).picked ≡ s.slots.picked
unfolding with_slot
kept_picked s p = refl

one_started : (shown : List Slot) (s : Start) (p : Name × Ty) → Started shown s → Started (shown ++ slot p.1 ∷ []) (with_param s p)
one_started shown s p h = record {
  shown_is = pushed s p ∙ ap (λ xs. xs ++ slot p.1 ∷ []) h.shown_is;
  hidden_is = kept s p ∙ h.hidden_is;
  picked_is = kept_picked s p ∙ h.picked_is;
  in_sight = variable_taken p.0 false p.1 false s.slots s.variables h.in_sight;
}

all_started : (ps : List (Name × Ty)) (shown : List Slot) (s : Start) → Started shown s → Started (shown ++ slots_of_params ps) (fold with_param s ps)
all_started [] shown s h = record { shown_is = h.shown_is ∙ sym (append-nil shown); hidden_is = h.hidden_is; picked_is = h.picked_is; in_sight = h.in_sight }
all_started (p ∷ ps) shown s h =
    let rest = all_started ps (shown ++ slot p.1 ∷ []) (with_param s p) (one_started shown s p h) in
    record { shown_is = rest.shown_is ∙ append_assoc shown (slot p.1 ∷ []) (slots_of_params ps); hidden_is = rest.hidden_is; picked_is = rest.picked_is; in_sight = rest.in_sight }

started : (ps : List (Name × Ty)) → Started (slots_of_params ps) (start ps)
started ps = all_started ps [] (start []) (record { shown_is = refl; hidden_is = refl; picked_is = refl; in_sight = tt })

-- ---- a whole function

-- a SELECT INTO has a target, and its select reads slots below a number
abbrev pub OwnInto : ℕ → Into → Type 0
OwnInto slots i = HasTarget i × IntoBelow slots i

both_own : (slots : ℕ) (is : List Into) → Every HasTarget is → Every (IntoBelow slots) is → Every (OwnInto slots) is
both_own slots [] h k = tt
both_own slots (i ∷ is) h k = ((h.0, k.0), both_own slots is h.1 k.1)

-- each fact is a proposition
pub record Owns (f : Function) (slots : List Slot) : Type 0 where
  pub slots_are : slots ≡ own_slots f
  pub reads : Every (SourceBelow (named_slots f)) (sources whole_select f.body)
  pub sets : Every (λ t. t < named_slots f) (targets f.body)
  pub intos : Every (OwnInto (named_slots f)) (intos f.body)

-- a converted select reads what the select reads
intos_below : (slots : ℕ) (a : Around) (is : List Into) → Every (IntoBelow slots) is → Every (IntoBelow slots) (of_intos a is)
intos_below slots a [] h = tt
intos_below slots a (i ∷ is) h = (subst (Every (IsBelow slots)) (sym (into_reads a i.targets i.query)) h.0, intos_below slots a is h.1)

body_takes : (s : Schema) (f : Function) → Clear (body_of s f).note → Takes (found (body_of s f).it) (start f.params).slots (body_of s f).slots
unfolding resolved_stmt
body_takes s f c = stmt_takes f.body (entry s f.params) (start f.params).slots ((refl, (started f.params).in_sight), refl) c

body_some : (s : Schema) (f : Function) → Clear (types_note s f) → Every HasTarget (intos (converted_body s f))
unfolding intos
body_some s f c = asked_some (asked_in s (slots_of s f) f.result) (converted_body s f) c

pub of_written : (s : Schema) (f : Function) → Clear (function_note s f) → Owns (resolved_function s f) (slots_of s f)
unfolding variables laid sources targets intos
of_written s f c =
    let body = clear_bodies (length f.params) (head_note f) (body_of s f).note (types_note s f) c in
    let takes = body_takes s f body.0 in
    let first = started f.params in
    let named = (body_of s f).it in
    let x = found named in
    let there = around_in s (slots_of s f) f.result in
    let last = resolved_function s f in
    let declared : x.variables ≡ variables last.body = sym (variables_same there named) in
    let sized : (laid named).size ≡ (laid last.body).size = sym (size_same there named) in
    let shown_is : (body_of s f).slots.shown ≡ slots_of_params f.params ++ x.variables = takes.shown ∙ ap (λ xs. xs ++ x.variables) first.shown_is in
    let hidden_is : (body_of s f).slots.hidden ≡ hidden_slots x.fors = takes.hidden ∙ ap (λ xs. xs ++ hidden_slots x.fors) first.hidden_is in
    let shown : List Slot = (body_of s f).slots.shown in
    let picked_is : (body_of s f).slots.picked ≡ target_slots (slots_of_params f.params ++ x.variables) x.intos = takes.picked []
    ∙ (ap (λ xs. xs ++ target_slots (shown ++ []) x.intos) first.picked_is ∙ ap (λ xs. target_slots xs x.intos) (append-nil shown ∙ shown_is)) in
    let shown_own : (body_of s f).slots.shown ≡ shown_slots last = shown_is ∙ ap (λ xs. slots_of_params f.params ++ xs) declared in
    let hidden_own : (body_of s f).slots.hidden ≡ hidden_slots (laid last.body).size.fors = hidden_is ∙ ap (λ (p : Position). hidden_slots p.fors) sized in
    let picked_own : (body_of s f).slots.picked ≡ map (hidden_slot (shown_types last)) (into_targets last.body) = picked_is
    ∙ (ap (λ xs. target_slots (slots_of_params f.params ++ xs) x.intos) declared ∙ ap (map (hidden_slot (shown_types last))) (sym (into_targets_same there named))) in
    let many : length (body_of s f).slots.shown ≡ named_slots last = ap (λ (xs : List Slot). length xs) shown_is
    ∙ omega (arith, length-append (slots_of_params f.params) x.variables, length-map f.params (λ (p : Name × Ty). slot p.1), takes.many, ap (λ (p : Position). p.slot) sized) in
    record {
      slots_are = λ i. shown_own i ++ (hidden_own i ++ picked_own i);
      reads = every_beside ReadsSame (SourceBelow (named_slots last)) (SourceBelow (named_slots last)) (λ e y same h. subst (Every (IsBelow (named_slots last))) (sym same) h)
          x.sources (sources whole_select last.body) (sources_read there named) (subst (λ k. Every (SourceBelow k) x.sources) many takes.sources);
      sets = subst (Every (λ t. t < named_slots last)) (sym (targets_same there named)) (subst (λ k. Every (λ t. t < k) x.targets) many takes.targets);
      intos = both_own (named_slots last) (intos last.body) (body_some s f body.1)
          (subst (Every (IntoBelow (named_slots last))) (sym (intos_are there named)) (intos_below (named_slots last) there x.intos (subst (λ k. Every (IntoBelow k) x.intos) many takes.intos)));
    }
