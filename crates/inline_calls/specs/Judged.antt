-- The rules of a query in whose list calls of a function stand. It is judged with a NULL of the
-- result's type in the place of each call, and with the arguments as further items of its list, each
-- beside a NULL of its parameter's type: their common type is to be the parameter's. A call has as
-- many arguments as the function has parameters.
use Rattle.std.specs.Prelude.{
  ℕ,
  Bool,
  true,
  false,
  not,
  ◌&&◌,
  ◌==◌,
  List,
  [],
  ◌∷◌,
  ◌++◌,
  codes,
  drop,
  flat_map,
  length,
  map,
  None,
}
use Rattle.std.specs.List.{list_all}
use Rattle.away_values.specs.declared.types.Ty.{Ty}
use Rattle.away_trees.specs.declared.queries.Expr.{Expr}
use Rattle.away_trees.specs.declared.queries.Expr.TheVariants as expr
use Rattle.away_trees.specs.declared.queries.Expr.TheViews.{out-Select, roll-Query}
use Rattle.away_trees.specs.declared.queries.Item.{Item}
use Rattle.away_trees.specs.declared.queries.Query.{Query}
use Rattle.away_trees.specs.declared.schemas.Schema.{Schema}
use Rattle.away_trees.specs.declared.statements.Function.{Function}
use Rattle.away_names.specs.declared.note.Note.{Note}
use Rattle.away_names.specs.declared.rule.Rule.TheVariants as rule
use Rattle.away_names.specs.Notes.{breaks, joined}
use Rattle.away_typing.specs.Kinds.{same}
use Rattle.away_typing.specs.declared.row_queries.RowsVerdict.{RowsVerdict}
use Rattle.away_types.specs.CheckedRows.{rows_judged}
use Rattle.sql_meaning.specs.Trees.{item, null_of}
use Rattle.plsql_meaning.specs.Equivalent.{types_of}
use Rattle.inline_law.specs.Filled.{CallingSelect}
use Rattle.inline_law.specs.Moved.{item_filled}
use Rattle.inline_calls.specs.Forms.{with_list}

-- an expression beside a NULL of a type
abbrev pub beside_null : Ty → Expr → Expr
beside_null t e = expr.Call (codes "coalesce") (e ∷ null_of t ∷ [])

-- an argument that no parameter takes stands alone
abbrev pub asked : List Ty → List Expr → List Expr
asked ts [] = []
asked [] (e ∷ es) = e ∷ asked [] es
asked (t ∷ ts) (e ∷ es) = beside_null t e ∷ asked ts es

abbrev pub asked_items : List Ty → List (List Expr) → List Item
asked_items ts calls = flat_map (λ es. map item (asked ts es)) calls

-- the list with a NULL of the type in the place of each call
abbrev pub without_calls : Ty → CallingSelect → List Item
without_calls t c = map (item_filled (λ d i. null_of t)) (out-Select c.select).list

abbrev pub judged_list : Function → CallingSelect → List Item
judged_list f c = without_calls f.result c ++ asked_items (types_of f) c.calls

-- the query that is judged
abbrev pub judged_query : Function → CallingSelect → Query
judged_query f c = roll-Query (record {
  recursive = None;
  selects = with_list c.select (judged_list f c) ∷ [];
})

abbrev pub has_many : ℕ → List Expr → Bool
has_many n es = length es == n

-- each call has as many arguments as there are parameters
abbrev pub are_as_many : Function → CallingSelect → Bool
are_as_many f c = list_all (has_many (length f.params)) c.calls

-- the types are these
abbrev pub are_types : List Ty → List Ty → Bool
are_types [] [] = true
are_types (t ∷ ts) (u ∷ us) = same t u && are_types ts us
are_types _ _ = false

-- the arguments' items have the parameters' types
abbrev pub have_these : List Ty → CallingSelect → List Ty → Bool
have_these types c columns =
    are_types (drop (length (out-Select c.select).list) columns)
    (flat_map (λ (es : List Expr). types) c.calls)

abbrev pub have_types : Function → CallingSelect → List Ty → Bool
have_types f = have_these (types_of f)

abbrev pub fits : Function → CallingSelect → List Ty → Bool
fits f c columns = are_as_many f c && have_types f c columns

abbrev pub note_by : Function → CallingSelect → RowsVerdict → Note
note_by f c v = joined v.note (breaks rule.Types (not (fits f c v.columns)))

-- the least rule that is broken
abbrev pub calls_note : Schema → Function → CallingSelect → Note
calls_note s f c = note_by f c (rows_judged s (judged_query f c))
