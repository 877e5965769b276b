-- A whole query whose names are resolved by all of its columns, whatever rows it gives: what it
-- breaks of every rule but the one on answers.
use Rattle.std.specs.Prelude.{not, List, is_some}
use Rattle.away_trees.specs.declared.schemas.Schema.{Schema}
use Rattle.away_trees.specs.declared.queries.Expr.TheViews.{out-Query}
use Rattle.away_names.specs.declared.rule.Rule.TheVariants as rule
use Rattle.away_names.specs.declared.note.File.{File}
use Rattle.away_names.specs.declared.note.Note.{Note}
use Rattle.away_names.specs.Notes.{joined, breaks}
use Rattle.away_typing.specs.declared.row_queries.RowsVerdict.{RowsVerdict}
use Rattle.away_typing.specs.declared.wholes.Recursion.{Recursion}
use Rattle.away_typing.specs.ParameterLists.{params_of}
use Rattle.away_typing.specs.Typing.{Shape}
use Rattle.away_typing.specs.Wholes.{final_shape, recursion, types_or_none, uses_note}

-- the columns have types
abbrev pub shape_note : Shape → Note
shape_note shape = breaks rule.Types (not (is_some shape))

abbrev pub rows_by : File → Recursion → RowsVerdict
rows_by f r =
    let shape = final_shape f.query r in
    let params = params_of f.query in
    record {
      note = joined (joined f.note (uses_note f.query)) (joined (breaks rule.Types params.clash) (joined r.note (shape_note shape)));
      params = params.list;
      columns = types_or_none shape;
    }

-- the least rule but the one on answers that a query breaks, its parameters, and the types of its
-- columns
unfoldable pub judged_rows : Schema → File → RowsVerdict
judged_rows s f = rows_by f (recursion s f.first.refers f.second.refers (out-Query f.query).recursive)
