-- What is read and judged is what the specs say of its file.
use Rattle.std.proofs.Common.{◌≡◌, ℕ, List}
use Rattle.away_values.specs.declared.types.Ty.{Ty}
use Rattle.away_trees.specs.declared.queries.Query.{Query}
use Rattle.away_trees.specs.declared.schemas.Schema.{Schema}
use Rattle.away_trees.specs.declared.statements.Function.{Function}
use Rattle.away_types.specs.declared.checked_function.CheckedFunction.{CheckedFunction}
use Rattle.away_types.specs.declared.checked_query.CheckedQuery.{CheckedQuery}
use Rattle.away_types.specs.declared.checked_rows.CheckedRows.{CheckedRows}
use Rattle.away_types.specs.declared.slots.Slot.{Slot}
use Rattle.away_types.specs.CheckedFunctions.{IsChecked}
use Rattle.away_types.specs.CheckedQueries.{IsCheckedQuery, judged_query, resolved_query}
use Rattle.away_types.specs.CheckedRows.{IsCheckedRows, rows_judged}
use Rattle.away_types.specs.FunctionChecks.{resolved_function, slots_of}
use Rattle.away_top.specs.Files.{Asked, Callable, as_asked, as_callable, as_row_query, asked_of, callable_of, row_query_of}

same_asked : (q r : Query) (params others : List (ℕ × Ty)) → q ≡ r → params ≡ others → ◌≡◌ {A = Asked} (record { query = q; params = params }) (record { query = r; params = others })
same_asked q r params others same_query same_params = cc

pub asked_is : (s : Schema) (written : Query) (c : CheckedQuery) → IsCheckedQuery s written c.query c.params c.result → as_asked c ≡ asked_of s written
asked_is s written c is = same_asked c.query (resolved_query s written) c.params (judged_query s written).params is.query is.params_are

pub row_query_is : (s : Schema) (written : Query) (c : CheckedRows) → IsCheckedRows s written c.query c.params c.columns → as_row_query c ≡ row_query_of s written
row_query_is s written c is = same_asked c.query (resolved_query s written) c.params (rows_judged s written).params is.query is.params_are

same_callable : (f g : Function) (slots others : List Slot) → f ≡ g → slots ≡ others → ◌≡◌ {A = Callable} (record { function = f; slots = slots }) (record { function = g; slots = others })
same_callable f g slots others same_function same_slots = cc

pub callable_is : (s : Schema) (written : Function) (c : CheckedFunction) → IsChecked s written c.function c.slots → as_callable c ≡ callable_of s written
callable_is s written c is = same_callable c.function (resolved_function s written) c.slots (slots_of s written) is.function is.slots_are
