-- The types, aggregates and parameters of a whole query whose names are resolved.
use Rattle.std.specs.Prelude.{
  Bool,
  true,
  false,
  not,
  ◌&&◌,
  ◌||◌,
  if◌then◌else◌,
  ◌==◌,
  List,
  [],
  ◌∷◌,
  ◌++◌,
  map,
  length,
  Option,
  Some,
  None,
  is_some,
  bytes_eq,
}
use Rattle.std.specs.List.{list_any}
use Rattle.away_values.specs.declared.types.Ty.{Ty}
use Rattle.away_values.specs.declared.types.Ty.TheVariants.{Bigint, Text}
use Rattle.away_trees.specs.declared.schemas.Schema.{Schema}
use Rattle.away_trees.specs.declared.schemas.TableSchema.{TableSchema}
use Rattle.away_trees.specs.declared.schemas.ColumnSchema.{ColumnSchema}
use Rattle.away_trees.specs.declared.queries.Source.{Source}
use Rattle.away_trees.specs.declared.queries.Expr.TheBlock as b
use Rattle.away_trees.specs.declared.queries.Select.{Select}
use Rattle.away_trees.specs.declared.queries.Recursive.{Recursive}
use Rattle.away_trees.specs.declared.queries.Query.{Query}
use Rattle.away_trees.specs.declared.queries.Expr.TheViews.{
  out-Query,
  out-Recursive,
  out-Select,
  out-FromItem,
}
use Rattle.away_names.specs.declared.rule.Rule.TheVariants as rule
use Rattle.away_names.specs.declared.note.File.{File}
use Rattle.away_names.specs.declared.note.Note.{Note}
use Rattle.away_names.specs.declared.note.Times.{Times}
use Rattle.away_names.specs.declared.note.Times.TheVariants.{Never, Once, Often}
use Rattle.away_names.specs.Lookups.{Name}
use Rattle.away_names.specs.Notes.{clean, joined, breaks}
use Rattle.away_typing.specs.declared.kind.Kind.{Kind}
use Rattle.away_typing.specs.declared.wholes.QueryVerdict.{QueryVerdict}
use Rattle.away_typing.specs.declared.wholes.Recursion.{Recursion}
use Rattle.away_typing.specs.Aggregates.{is_some_of}
use Rattle.away_typing.specs.Kinds.{same, fits}
use Rattle.away_typing.specs.ParameterLists.{params_of}
use Rattle.away_typing.specs.Trees.{uses_of_select, uses_of_query, kinds_of_select}
use Rattle.away_typing.specs.Typing.{Places, Shape, shape_of}
use Rattle.away_typing.specs.TypingLists.{union_in}

-- ---- tables

abbrev pub types_in : TableSchema → List Ty
types_in t = map (λ (c : ColumnSchema). c.ty) t.columns

abbrev pub column_types : Schema → List (List Ty)
column_types s = map types_in s.tables

-- the recursive table comes behind the tables of the schema
abbrev pub with_table : Schema → List Ty → List (List Ty)
with_table s ts = column_types s ++ ts ∷ []

abbrev pub over_tables : List (List Ty) → Places
over_tables tables = record { slots = []; frames = []; tables = tables }

-- a type for each name of the list, bigint where there is none
abbrev pub padded : List Name → List Ty → List Ty
padded [] ts = []
padded (c ∷ cs) [] = Bigint ∷ padded cs []
padded (c ∷ cs) (t ∷ ts) = t ∷ padded cs ts

unfoldable pub types_or_none : Shape → List Ty
types_or_none None = []
types_or_none (Some ts) = ts

-- the types of the first term's columns, where the recursive table, if that names it, has bigints
abbrev pub first_shape : Schema → Recursive → Shape
first_shape s r = shape_of (union_in (over_tables (with_table s (padded (out-Recursive r).columns []))) (out-Recursive r).first)

unfoldable pub is_never : Times → Bool
is_never Never = true
is_never _ = false

unfoldable pub is_once : Times → Bool
is_once Once = true
is_once _ = false

-- A column of the recursive table has the type of the first term's column at its place. Where the
-- first term names the table or has no such column, it is bigint.
unfoldable pub recursive_types : Times → List Name → Shape → List Ty
recursive_types first columns shape = padded columns (if is_never first then types_or_none shape else [])

-- ---- Recursion (X17)

unfoldable pub is_table : Name → Source → Bool
is_table name (b.Table n) = bytes_eq n name
is_table name _ = false

abbrev pub in_own_from : Name → Select → Bool
in_own_from name s = list_any (λ f. is_table name (out-FromItem f).source) (out-Select s).from

-- no aggregates in its list, no ORDER BY and no LIMIT
abbrev pub is_plain : Select → Bool
is_plain s = not (uses_of_select s).aggregate && (not (is_some_of (out-Select s).order) && not (is_some (out-Select s).limit))

-- literal NULLs fit every type
abbrev pub all_fit : List Ty → List Kind → Bool
all_fit [] [] = true
all_fit (t ∷ ts) (k ∷ ks) = fits t k && all_fit ts ks
all_fit _ _ = false

unfoldable pub fits_shape : List Ty → Option (List Kind) → Bool
fits_shape ts None = false
fits_shape ts (Some ks) = all_fit ts ks

-- the first term doesn't name the recursive table; the second names it once, as an item of its own
-- FROM, and is plain; both have the columns of the list
abbrev pub is_recursion : Times → Times → Recursive → Shape → Option (List Kind) → Bool
is_recursion first second r shape kinds =
    is_never first
    && (is_once second
    && (in_own_from (out-Recursive r).name (out-Recursive r).second
    && (is_plain (out-Recursive r).second
    && (length (out-Recursive r).columns == length (types_or_none shape) && fits_shape (types_or_none shape) kinds))))

-- what is found in the terms, and the tables for all that stands behind them
abbrev pub recursion_by : Schema → Times → Times → Recursive → Shape → Recursion
recursion_by s first second r shape =
    let tables = with_table s (recursive_types first (out-Recursive r).columns shape) in
    let kinds = kinds_of_select (out-Recursive r).second (over_tables tables) in
    record {
      tables = tables;
      note = joined (breaks rule.Types (not (is_some shape && is_some kinds)))
          (breaks rule.Recursion (not (is_recursion first second r shape kinds)));
    }

abbrev pub recursion : Schema → Times → Times → Option Recursive → Recursion
recursion s first second None = record { tables = column_types s; note = clean }
recursion s first second (Some r) = recursion_by s first second r (first_shape s r)

-- ---- the whole

-- Answer (X18): two columns, and the second is text
unfoldable pub is_answer : Shape → Bool
is_answer (Some (t ∷ u ∷ [])) = same u Text
is_answer _ = false

unfoldable pub first_type : Shape → Ty
first_type (Some (t ∷ ts)) = t
first_type _ = Text

abbrev pub answer_note : Shape → Note
answer_note shape = joined (breaks rule.Types (not (is_some shape))) (breaks rule.Answer (not (is_answer shape)))

abbrev pub uses_note : Query → Note
uses_note q = joined (breaks rule.Types (uses_of_query q).limited) (breaks rule.Aggregates (uses_of_query q).misused)

abbrev pub final_shape : Query → Recursion → Shape
final_shape q r = shape_of (union_in (over_tables r.tables) (out-Query q).selects)

abbrev pub judged_by : File → Recursion → QueryVerdict
judged_by f r =
    let shape = final_shape f.query r in
    let params = params_of f.query in
    record {
      note = joined (joined f.note (uses_note f.query)) (joined (breaks rule.Types params.clash) (joined r.note (answer_note shape)));
      params = params.list;
      result = first_type shape;
    }

-- the least rule that a query breaks, its parameters, and the type of its first column
unfoldable pub judged : Schema → File → QueryVerdict
judged s f = judged_by f (recursion s f.first.refers f.second.refers (out-Query f.query).recursive)
