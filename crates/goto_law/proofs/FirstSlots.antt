-- The parameters of a checked function have its first slots.
use Rattle.std.proofs.Common.{◌≡◌, ap, ◌≤◌, List, [], ◌++◌, length, arith, length-append}
use Rattle.away_trees.specs.declared.schemas.Schema.{Schema}
use Rattle.away_trees.specs.declared.statements.Function.{Function}
use Rattle.away_types.specs.declared.slots.Slot.{Slot}
use Rattle.away_types.specs.CheckedFunctions.{IsChecked, IsCheckedOfSome}
use Rattle.away_types.specs.FunctionChecks.{start, entry, body_of, slots_of, function_note, head_note, types_note}
use Rattle.away_types.specs.ResolvedBodies.{resolved_stmt}
use Rattle.away_types.proofs.ClearReports.{Clear, clear_bodies}
use Rattle.function_facts.proofs.Names as seen
use Rattle.function_facts.proofs.ParametersInSight.{started}
use Rattle.function_facts.proofs.StatementsInSight.{stmt_good}
use Rattle.block_forms.specs.Laid.{Setting, setting_of}
use Rattle.block_forms.specs.Lowered.{numbers_of}
use Rattle.goto_law.proofs.LiveStatements.{statement_safe}

-- How many slots a statement takes is no matter of the form, so it is counted over one without blocks.
no_form : Function → Setting
no_form f = setting_of (record { entry = 0; finish = 0; nodes = []; blocks = [] }) [] (numbers_of f)

of_written : (s : Schema) (f : Function) → Clear (function_note s f) → length f.params ≤ length (slots_of s f)
unfolding resolved_stmt
of_written s f c =
    let body = clear_bodies (length f.params) (head_note f) (body_of s f).note (types_note s f) c in
    let good = stmt_good f.body (entry s f.params) (start f.params).slots body.0 in
    let first = length (start f.params).slots.shown in
    let taken = (statement_safe (no_form f) (body_of s f).it).slots first (seen.slots_of (start f.params).variables) in
    omega (arith, good.next, taken, (started f.params).shown, length-append (body_of s f).slots.shown ((body_of s f).slots.hidden ++ (body_of s f).slots.picked))

of_checked : (s : Schema) (written checked : Function) (slots : List Slot) → IsChecked s written checked slots
    → length checked.params ≤ length slots
of_checked s written checked slots h =
    let same : length checked.params ≡ length written.params = ap (λ (f : Function). length f.params) h.function in
    omega (arith, same, ap (λ (xs : List Slot). length xs) h.slots_are, of_written s written h.unbroken)

pub parameters_first : (checked : Function) (slots : List Slot) → IsCheckedOfSome checked slots → length checked.params ≤ length slots
parameters_first checked slots h = of_checked h.schema h.written checked slots h.checked_is
