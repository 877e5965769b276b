-- The expressions of a checked function are over the tables of its schema.
use Rattle.std.proofs.Common.{◌≡◌, ℕ, zero, suc, ◌<◌, ◌^◌, Bool, true, ◌&&◌, List, [], ◌∷◌, ◌++◌, length, refl, sym, ap, ◌∙◌, subst, lt-ltb}
use Rattle.std.specs.List.{list_all}
use Rattle.std.proofs.lemmas.Option.{same_Some}
use Rattle.away_values.specs.declared.types.Ty.{Ty}
use Rattle.away_trees.specs.declared.queries.Expr.{Expr}
use Rattle.away_trees.specs.declared.queries.Select.{Select}
use Rattle.away_trees.specs.declared.schemas.Schema.{Schema}
use Rattle.away_trees.specs.declared.statements.Function.{Function}
use Rattle.away_types.specs.declared.slots.Slot.{Slot}
use Rattle.away_types.specs.CheckedFunctions.{IsChecked}
use Rattle.away_types.specs.FunctionChecks.{start, entry, around_in, body_of, converted_body, function_note, head_note, types_note, resolved_function, slots_of, asked_in}
use Rattle.away_types.specs.ResolvedBodies.{resolved_stmt}
use Rattle.sql_meaning.specs.Reads as read
use Rattle.sql_meaning.specs.Reads.{Read, allows, reads, fits}
use Rattle.select_into.specs.Entries.{Target, into_entries}
use Rattle.plsql_meaning.specs.Sight.{query_of}
use Rattle.block_forms.specs.Expressions.{Sources, sources, source_expressions, expressions, whole_select}
use Rattle.block_forms.specs.FixedList.{fixed_list}
use Rattle.block_forms.specs.OwnSlots.{named_slots}
use Rattle.block_forms.specs.Slots.{shown_types}
use Rattle.block_forms.specs.Places.{Each}
use Rattle.type_soundness.specs.Sorts.{Every}
use Rattle.away_types.proofs.ClearReports.{Clear, clear_bodies}
use Rattle.function_facts.proofs.SlotLookups as slot
use Rattle.function_facts.proofs.SlotsOfParameters.{of_written}
use Rattle.function_facts.proofs.Taken as taken
use Rattle.function_facts.specs.OverTables.{IsOverTables}
use Rattle.elaboration.specs.Converting.{converted}
use Rattle.function_facts.proofs.ConvertedSources.{ReadsSame, every_beside, sources_read}
use Rattle.function_facts.proofs.Asked.{AreSingle, asked_single}
use Rattle.function_facts.proofs.FixedList.{AreOver, fixed_over}
use Rattle.function_facts.proofs.TableLookups.{IsBelow, tables_below}
use Rattle.function_facts.proofs.TablesOfStatements.{AllBelow, SourceBelow, stmt_fine}
use Rattle.function_facts.proofs.Entries.{IsEntry, entries_are, stmt_entries}

-- ---- an expression

all_allowed : (slots tables : ℕ) (rs : List Read) → Every (slot.IsBelow slots) rs → Every (IsBelow tables) rs
    → list_all (allows (λ i. true) 0 tables) rs ≡ true
all_allowed slots tables [] h k = refl
all_allowed slots tables (read.Slot i ∷ rs) h k = all_allowed slots tables rs h.1 k.1
all_allowed slots tables (read.Param i ∷ rs) h k = absurd h.0
all_allowed slots tables (read.Table i ∷ rs) h k = λ j. lt-ltb i tables k.0 j && all_allowed slots tables rs h.1 k.1 j
all_allowed slots tables (read.Outer c ∷ rs) h k = absurd h.0

all_over : (slots tables : ℕ) (es : List Expr) → Every (taken.SourceBelow slots) es → AllBelow tables es → AreSingle es → AreOver tables es
all_over slots tables [] h k l = tt
all_over slots tables (e ∷ es) h k l =
    (record { reads_own = all_allowed slots tables (reads e) h.0 k.0; single = l.0 }, all_over slots tables es h.1 k.1 l.1)

both_over : (tables : ℕ) (xs ys : Sources) → AreOver tables xs → AreOver tables ys → AreOver tables (xs ++ ys)
both_over tables [] ys h k = k
both_over tables (x ∷ xs) ys h k = (h.0, both_over tables xs ys h.1 k)

each_over : (tables : ℕ) (es : Sources) → AreOver tables es → Each (IsOverTables tables) es
each_over tables [] h i x at = cc
each_over tables (e ∷ es) h zero x at = subst (IsOverTables tables) (same_Some e x at) h.0
each_over tables (e ∷ es) h (suc i) x at = each_over tables es h.1 i x at

-- ---- a function

named_below : (s : Schema) (f : Function) → length s.tables < 2 ^ 64 → Clear (body_of s f).note → AllBelow (length s.tables) (sources whole_select (body_of s f).it)
unfolding resolved_stmt sources
named_below s f small c = stmt_fine (length s.tables) f.body (entry s f.params) (start f.params).slots ((λ x. tables_below s small x), refl) c

body_below : (s : Schema) (f : Function) → length s.tables < 2 ^ 64 → Clear (body_of s f).note → AllBelow (length s.tables) (sources whole_select (converted_body s f))
unfolding sources
body_below s f small c =
    let tables = length s.tables in
    let x = (body_of s f).it in
    let there = around_in s (slots_of s f) f.result in
    every_beside ReadsSame (SourceBelow tables) (SourceBelow tables) (λ e y same h. subst (Every (IsBelow tables)) (sym same) h)
    (sources whole_select x) (sources whole_select (converted there x)) (sources_read there x) (named_below s f small c)

body_single : (s : Schema) (f : Function) → Clear (types_note s f) → AreSingle (sources whole_select (converted_body s f))
unfolding sources
body_single s f c = asked_single (asked_in s (slots_of s f) f.result) (converted_body s f) c

written_over : (s : Schema) (f : Function) → length s.tables < 2 ^ 64 → Clear (function_note s f)
    → AreOver (length s.tables) (sources whole_select (converted_body s f))
written_over s f small c =
    let body = clear_bodies (length f.params) (head_note f) (body_of s f).note (types_note s f) c in
    all_over (named_slots (resolved_function s f)) (length s.tables) (sources whole_select (converted_body s f)) (of_written s f c).reads
    (body_below s f small body.0) (body_single s f body.1)

-- each expression, where a SELECT INTO has its whole select
pub selects_over : (s : Schema) (written f : Function) (slots : List Slot) → IsChecked s written f slots → length s.tables < 2 ^ 64
    → AreOver (length s.tables) (sources whole_select f.body)
selects_over s written f slots checked small =
    subst (λ (g : Function). AreOver (length s.tables) (sources whole_select g.body)) (sym checked.function) (written_over s written small checked.unbroken)

entries_over : (tables : ℕ) (types : List Ty) (strict : Bool) (ts : List Target) (q : Select) → IsOverTables tables (query_of q)
    → AreOver tables (into_entries types strict ts q)
entries_over tables types strict ts q h =
    taken.every_more (IsEntry q) (IsOverTables tables)
    (λ e k. record { reads_own = ap (λ rs. list_all (allows (λ i. true) 0 tables) rs) k.reads_same ∙ h.reads_own; single = k.single })
    (into_entries types strict ts q)
    (entries_are types (λ i. true) tables q (record { alone = h.reads_own }) strict ts)

pub over_their_tables : (s : Schema) (written f : Function) (slots : List Slot) → IsChecked s written f slots → length s.tables < 2 ^ 64
    → Each (IsOverTables (length s.tables)) (expressions f)
unfolding sources
over_their_tables s written f slots checked small =
    let tables = length s.tables in
    let here = stmt_entries (IsOverTables tables) (into_entries (shown_types f)) (entries_over tables (shown_types f)) f.body
    (selects_over s written f slots checked small) in
    each_over tables (expressions f) (both_over tables (source_expressions f) fixed_list here (fixed_over tables))
