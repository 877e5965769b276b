-- What holds of a function's expressions as a query has them.
use Rattle.std.specs.Prelude.{◌≤◌, ℕ, List, get_or}
use Rattle.away_values.specs.declared.types.Ty.{Ty}
use Rattle.away_grammar.specs.declared.grammar.Level.{Level}
use Rattle.away_grammar.specs.declared.grammar.Level.TheVariants as l
use Rattle.away_trees.specs.declared.queries.Col.{Col}
use Rattle.away_trees.specs.declared.queries.Expr.{Expr}
use Rattle.away_trees.specs.declared.queries.Expr.TheVariants as expr
use Rattle.away_trees.specs.declared.schemas.Schema.{Schema}
use Rattle.away_trees.specs.declared.statements.Function.{Function}
use Rattle.away_trees.specs.Count.{nodes}
use Rattle.away_trees.specs.Limits.{most_nodes}
use Rattle.away_grammar.specs.FunctionGrammar.{ReadsFunction}
use Rattle.away_grammar.specs.Terminals.{Terminal}
use Rattle.away_grammar.specs.Grammar.{at, Reads}
use Rattle.away_names.specs.Lookups.{Scope}
use Rattle.away_types.specs.declared.slots.Slot.{Slot}
use Rattle.away_types.specs.CheckedFunctions.{IsChecked}
use Rattle.sql_meaning.specs.Placed.{placed_at}
use Rattle.sql_meaning.specs.Reads.{slots_of}
use Rattle.block_forms.specs.Expressions.{sources, whole_select, expressions}
use Rattle.block_forms.specs.Places.{Each}
use Rattle.qualified_names.specs.Trees.{qualified_expr}
use Rattle.plsql_parse.specs.Refusals.{MayBeRead, most_nesting}
use Rattle.cte_names.specs.Own.{SeesTables, IsOwn}
use Rattle.sql_printer.specs.Writable.{AllWritable}
use Rattle.cte_prints.specs.Derivable.{Derivable}
use Rattle.cte_prints.specs.Like.{value}
use Rattle.cte_prints.specs.Derivation.{IsReadWithin}
use Rattle.cte_prints.specs.InSight.{SightIsWritable}
use Rattle.cte_prints.specs.WritableNames.{NamesAreWritable}

-- The names of an expression that is read from writable terminals can be written.
abbrev pub ReadNamesAreWritable : Type 0
ReadNamesAreWritable = (level : Level) (ts : List Terminal) (x : Expr) (rest : List Terminal) → Reads (at level) ts x rest → AllWritable ts
    → NamesAreWritable value x

-- Each entry of the table of a checked function within the limits can be derived where a query has
-- it, in no more than 196 brackets one inside another: with the literals' casts, and CAST for each
-- `::`, three times the 64 of the function's text and three, and one more for the cast to the type
-- that its place asks for.
abbrev pub EntriesAreDerivable : (Function → Function → List Slot → Type 0) → Type 0
EntriesAreDerivable IsRead =
    (schema : Schema) (written f : Function) (slots : List Slot) → IsChecked schema written f slots
    → nodes f ≤ most_nodes → IsRead written f slots → (i : ℕ) (t : Ty) (s : Scope)
    (ref : ℕ → Col)
    → SeesTables schema s → SightIsWritable s.levels → Each (λ k. IsOwn s.levels (ref k)) (slots_of (get_or (expressions f) i expr.Null))
    → Derivable 196 (at l.Or)
    (qualified_expr (placed_at t ref (get_or (expressions f) i expr.Null)) s.levels)

-- of a function whose source expressions are read from writable terminals, the select of a SELECT
-- INTO as one in brackets
abbrev pub ExpressionsAreDerivable : Type 0
ExpressionsAreDerivable =
    EntriesAreDerivable
    (λ (written f : Function) slots.
    Each (IsReadWithin most_nesting) (sources whole_select written.body))

-- of a function that a file reads as
abbrev pub FileExpressionsAreDerivable : Type 0
FileExpressionsAreDerivable = (bytes : List ℕ) → MayBeRead bytes
    → EntriesAreDerivable (λ (written f : Function) slots. ReadsFunction bytes written)
