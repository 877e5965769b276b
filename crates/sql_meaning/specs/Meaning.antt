-- What trees mean: the value of an expression, the rows of a FROM item, of a select and of a
-- query's selects.
use Rattle.std.specs.Prelude.{Bool, [], None, Ok}
use Rattle.away_values.specs.declared.values.Value.{Value}
use Rattle.away_values.specs.declared.values.Value.TheVariants as val
use Rattle.away_trees.specs.declared.queries.Expr.{Expr}
use Rattle.away_trees.specs.declared.queries.FromItem.{FromItem}
use Rattle.away_trees.specs.declared.queries.Select.{Select}
use Rattle.away_trees.specs.declared.queries.Query.{Query}
use Rattle.away_values.specs.Results.{Or}
use Rattle.away_trees.specs.Algebra.{Algebra, expr_of, from_of, select_of, query_of}
use Rattle.sql_meaning.specs.Context.{Rows, Frame, Context}
use Rattle.sql_meaning.specs.Expressions.{
  ExprMeaning,
  SourceMeaning,
  FromMeaning,
  SelectMeaning,
  KeyMeaning,
  RecursiveMeaning,
  QueryMeaning,
  constant,
  expr_meaning,
}
use Rattle.sql_meaning.specs.Selects.{
  source_meaning,
  from_meaning,
  item_meaning,
  key_meaning,
  select_meaning,
  recursive_meaning,
  query_meaning,
}

-- the recursion over the trees, with one step for each kind of node
abbrev pub meaning : Algebra
meaning =
    record {
      AnExpr = ExprMeaning;
      ASource = SourceMeaning;
      AFrom = FromMeaning;
      AnItem = ExprMeaning;
      AKey = KeyMeaning;
      AQuery = QueryMeaning;
      ARecursive = RecursiveMeaning;
      ASelect = SelectMeaning;
      no_expr = constant val.Null;
      no_query = record { recursive = None; rows = λ cx. Ok [] };
      expr = expr_meaning;
      source = source_meaning;
      from = from_meaning;
      item = item_meaning;
      key = key_meaning;
      query = query_meaning;
      recursive = recursive_meaning;
      select = select_meaning;
    }

-- the value of an expression, or the class of its fault
abbrev pub value : Expr → Context → Or Value
value e = (expr_of meaning e).value

-- whether an aggregate stands in it, outside its subqueries
abbrev pub has_aggregate : Expr → Bool
has_aggregate e = (expr_of meaning e).aggregates

-- the rows of a FROM item beside a row of the items before it
abbrev pub rows_of_item : FromItem → Context → Frame → Or Rows
rows_of_item f = from_of meaning f

-- the rows of a select
abbrev pub rows_of_select : Select → Context → Or Rows
rows_of_select s = select_of meaning s

-- the rows of a query's selects, where the recursive table, if it has one, stands among the tables
abbrev pub rows_of_query : Query → Context → Or Rows
rows_of_query q = (query_of meaning q).rows
