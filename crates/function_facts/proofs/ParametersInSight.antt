-- A function's parameters have the first slots.
use Rattle.std.proofs.Common.{◌≡◌, refl, sym, ap, subst, ◌∙◌, ℕ, zero, suc, ◌+◌, arith, false, List, [], ◌∷◌, ◌++◌, fold, length}
use Rattle.std.specs.List.{range_with_len}
use Rattle.away_values.specs.declared.types.Ty.{Ty}
use Rattle.away_trees.specs.declared.schemas.Schema.{Schema}
use Rattle.away_trees.specs.declared.statements.Function.{Function}
use Rattle.away_names.specs.Lookups.{Name}
use Rattle.away_types.specs.declared.parameters.Start.{Start}
use Rattle.away_types.specs.declared.slots.Slot.{Slot}
use Rattle.away_types.specs.CheckedFunctions.{IsChecked, IsCheckedOfSome}
use Rattle.away_types.specs.FunctionChecks.{start, with_param, entry, around_in, body_of, converted_body, function_note, head_note, slots_of as all_slots, types_note}
use Rattle.away_types.specs.ResolvedBodies.{resolved_stmt}
use Rattle.away_trees.specs.StatementAlgebra.{stmt_of}
use Rattle.type_soundness.specs.Sorts.{Every}
use Rattle.away_types.proofs.ClearReports.{Clear, clear_bodies}
use Rattle.function_facts.specs.Sight.{walking}
use Rattle.function_facts.specs.InSight.{ReadsInSight, AllInSight}
use Rattle.function_facts.proofs.ConvertedSight.{converted_in_sight}
use Rattle.function_facts.proofs.Names.{slots_of}
use Rattle.function_facts.proofs.StatementsInSight.{stmt_good}
use Rattle.function_facts.proofs.Walks.{shown_push, slots_push}

range_push : (a k : ℕ) → range_with_len a (suc k) ≡ range_with_len a k ++ (a + k) ∷ []
range_push a zero = ap (λ x. x ∷ []) (omega arith)
range_push a (suc k) = ap (λ xs. a ∷ xs) (range_push (a + 1) k ∙ ap (λ x. range_with_len (a + 1) k ++ x ∷ []) (omega arith))

-- so many parameters are there
pub record Started (k : ℕ) (s : Start) : Type 0 where
  pub shown : length s.slots.shown ≡ k
  pub slots : slots_of s.variables ≡ range_with_len 0 k

one_started : (k : ℕ) (s : Start) (p : Name × Ty) → Started k s → Started (suc k) (with_param s p)
one_started k s p h = record {
  shown = shown_push p.1 false s.slots ∙ omega (arith, h.shown);
  slots = slots_push p.0 false s.slots s.variables ∙ ((λ i. h.slots i ++ h.shown i ∷ []) ∙ (ap (λ x. range_with_len 0 k ++ x ∷ []) (omega arith) ∙ sym (range_push 0 k)));
}

all_started : (ps : List (Name × Ty)) (k : ℕ) (s : Start) → Started k s → Started (k + length ps) (fold with_param s ps)
all_started [] k s h = subst (λ j. Started j s) (omega arith) h
all_started (p ∷ ps) k s h = subst (λ j. Started j (fold with_param (with_param s p) ps)) (omega arith) (all_started ps (suc k) (with_param s p) (one_started k s p h))

pub started : (ps : List (Name × Ty)) → Started (length ps) (start ps)
started ps = subst (λ j. Started j (start ps)) (omega arith) (all_started ps 0 (start []) (record { shown = refl; slots = refl }))

named_in_sight : (s : Schema) (f : Function) → Clear (function_note s f) → Every ReadsInSight (stmt_of walking (body_of s f).it (length f.params) (range_with_len 0 (length f.params))).exprs
unfolding resolved_stmt
named_in_sight s f c =
    let first = started f.params in
    let body = clear_bodies (length f.params) (head_note f) (body_of s f).note (types_note s f) c in
    let good = stmt_good f.body (entry s f.params) (start f.params).slots body.0 in
    subst (λ seen. Every ReadsInSight (stmt_of walking (body_of s f).it (length f.params) seen).exprs) first.slots
    (subst (λ k. Every ReadsInSight (stmt_of walking (body_of s f).it k (slots_of (start f.params).variables)).exprs) first.shown good.exprs)

of_written : (s : Schema) (f : Function) → Clear (function_note s f) → Every ReadsInSight (stmt_of walking (converted_body s f) (length f.params) (range_with_len 0 (length f.params))).exprs
of_written s f c =
    converted_in_sight (around_in s (all_slots s f) f.result) (body_of s f).it (length f.params) (range_with_len 0 (length f.params)) (named_in_sight s f c)

pub checked_in_sight : (s : Schema) (written checked : Function) (slots : List Slot) → IsChecked s written checked slots → AllInSight checked
checked_in_sight s written checked slots h = subst AllInSight (sym h.function) (of_written s written h.unbroken)

pub of_some : (checked : Function) (slots : List Slot) → IsCheckedOfSome checked slots → AllInSight checked
of_some checked slots h = checked_in_sight h.schema h.written checked slots h.checked_is
