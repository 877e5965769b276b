-- A function with what its names stand for, its numbers converted to the types of their places, its
-- slots, and the least rule that it breaks. A rule above the least may be judged wrongly, which
-- shows nowhere.
use Rattle.std.specs.Prelude.{true, false, List, [], ◌++◌, map, fold, length}
use Rattle.away_values.specs.declared.types.Ty.{Ty}
use Rattle.away_values.specs.declared.types.Ty.TheVariants.{Integer}
use Rattle.away_trees.specs.declared.schemas.Schema.{Schema}
use Rattle.away_trees.specs.declared.statements.Function.{Function}
use Rattle.away_trees.specs.declared.statements.Stmt.{Stmt}
use Rattle.away_names.specs.declared.rule.Rule.TheVariants as rule
use Rattle.away_names.specs.declared.note.Note.{Note}
use Rattle.away_names.specs.Notes.{joined, breaks, all_notes}
use Rattle.away_names.specs.Lookups.{Name}
use Rattle.away_names.specs.Schemas.{kept}
use Rattle.away_names.specs.Tables.{outermost}
use Rattle.away_typing.specs.Wholes.{column_types}
use Rattle.elaboration.specs.Converting.{Around, converted}
use Rattle.away_types.specs.declared.finding.Report.{Report}
use Rattle.away_types.specs.declared.slots.Slot.{Slot}
use Rattle.away_types.specs.declared.slots.Slots.{Slots}
use Rattle.away_types.specs.declared.resolved.Resolved.{Resolved}
use Rattle.away_types.specs.declared.parameters.Start.{Start}
use Rattle.away_types.specs.Findings.{own, followed, both}
use Rattle.away_types.specs.StatementRules.{takes_twice}
use Rattle.away_types.specs.Statements.{Spot, with_slot, with_variable}
use Rattle.away_types.specs.ResolvedBodies.{resolved_stmt}
use Rattle.away_types.specs.StatementTypes.{Asked, asked_stmt}

-- ---- names

abbrev pub with_param : Start → Name × Ty → Start
with_param s p = record { slots = with_slot p.1 false s.slots; variables = with_variable p.0 false s.slots s.variables }

-- the parameters have the first slots
abbrev pub start : List (Name × Ty) → Start
start params = fold with_param
    (record { slots = record { shown = []; hidden = []; picked = [] }; variables = [] }) params

-- what a function's statements see: its parameters and the tables
abbrev pub entry : Schema → List (Name × Ty) → Spot
entry s params = record { scope = record (outermost s) { in_function = true; variables = (start params).variables }; around = [] }

abbrev pub body_of : Schema → Function → Resolved Stmt
body_of s f = resolved_stmt (entry s f.params) (start f.params).slots f.body

abbrev pub in_order : Slots → List Slot
in_order slots = slots.shown ++ (slots.hidden ++ slots.picked)

-- parameters, declarations and FOR variables, and behind them what is hidden
abbrev pub slots_of : Schema → Function → List Slot
slots_of s f = in_order (body_of s f).slots

-- ---- types

abbrev pub slot_types : List Slot → List Ty
slot_types = map (λ (x : Slot). x.ty)

-- the types of slots and tables, and the type of the result
abbrev pub asked_in : Schema → List Slot → Ty → Asked
asked_in s slots result = record { places = record { slots = slot_types slots; frames = []; tables = column_types s }; result = result }

-- ---- numbers

-- what the expressions see, the type of the result, and that of the counters of FOR
abbrev pub around_in : Schema → List Slot → Ty → Around
around_in s slots result =
    record { places = (asked_in s slots result).places; result = result; counter = Integer }

-- the operations marked, and each number converted to the type of its place
abbrev pub converted_over : Schema → List Slot → Ty → Stmt → Stmt
converted_over s slots result body = converted (around_in s slots result) body

abbrev pub converted_body : Schema → Function → Stmt
converted_body s f = converted_over s (slots_of s f) f.result (body_of s f).it

abbrev pub resolved_function : Schema → Function → Function
resolved_function s f = record f { body = converted_body s f }

-- ---- rules

abbrev pub params_note : List (Name × Ty) → Note
params_note params = joined (breaks rule.Duplicates (takes_twice params)) (all_notes (λ p. kept p.0) params)

abbrev pub head_note : Function → Note
head_note f = joined (kept f.name) (params_note f.params)

-- of a converted body over its slots
abbrev pub body_note : Schema → List Slot → Ty → Stmt → Report
body_note s slots result body = asked_stmt (asked_in s slots result) body

abbrev pub types_note : Schema → Function → Report
types_note s f = body_note s (slots_of s f) f.result (converted_body s f)

-- the head is told by the number of the first node, and the nodes of the body come behind the
-- parameters
abbrev pub function_note : Schema → Function → Report
function_note s f = followed (own (length f.params) (head_note f)) (both (body_of s f).note (types_note s f))
