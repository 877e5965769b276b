-- A query whose columns stand by their places, with names again: each column is the alias of its
-- item, a point and its own name, and a table stands by its name alone. A tree is a function of the
-- items in sight.
use Rattle.std.specs.Prelude.{List, [], ◌∷◌, ◌++◌, map, fold, drop, Option, None, option_map}
use Rattle.away_trees.specs.declared.queries.Expr.{Expr}
use Rattle.away_trees.specs.declared.queries.Expr.TheVariants as expr
use Rattle.away_trees.specs.declared.queries.Source.TheVariants as source
use Rattle.away_trees.specs.declared.queries.FromItem.{FromItem}
use Rattle.away_trees.specs.declared.queries.Item.{Item}
use Rattle.away_trees.specs.declared.queries.Key.{Key}
use Rattle.away_trees.specs.declared.queries.Select.{Select}
use Rattle.away_trees.specs.declared.queries.Recursive.{Recursive}
use Rattle.away_trees.specs.declared.queries.Query.{Query}
use Rattle.away_trees.specs.declared.queries.Expr.TheOpen.{
  Expr-F,
  Source-F,
  FromItem-F,
  Item-F,
  Key-F,
  Select-F,
  Recursive-F,
  Query-F,
}
use Rattle.away_trees.specs.declared.queries.Expr.TheOpen as ex
use Rattle.away_trees.specs.declared.queries.Expr.TheViews.{
  roll-Item,
  roll-Key,
  roll-Select,
  roll-Recursive,
  roll-Query,
}
use Rattle.away_trees.specs.Algebra.{Algebra}
use Rattle.away_names.specs.declared.note.Shown.{Shown}
use Rattle.away_names.specs.declared.note.Column.{Column}
use Rattle.away_names.specs.declared.note.Framed.{Framed}
use Rattle.away_names.specs.declared.note.Part.{Part}
use Rattle.away_names.specs.declared.note.Origin.{Origin}
use Rattle.away_names.specs.Lookups.{Name, Level}
use Rattle.away_names.specs.Naming.{plain_names, before, shaped, of_query}
use Rattle.elaboration.specs.Marks.{plain_op}
use Rattle.qualified_names.specs.Sight.{Sight, reference, column_name}

-- ---- what stands for a tree

abbrev pub Term : Type 0
Term = Sight → Expr

-- by the list of columns and the items before it in FROM
abbrev pub Rows : Type 0
Rows = List Name → Sight → Level → Origin

-- by the items before it in FROM
abbrev pub Piece : Type 0
Piece = Sight → Level → Part

-- an item of a list, with the name of its column
abbrev pub Entry : Type 0
Entry = Sight → Column

abbrev pub Sort : Type 0
Sort = Sight → Key

-- a select or a query, with the names of its columns
abbrev pub Listing : Type 0
Listing = Sight → Shown Select

abbrev pub Whole : Type 0
Whole = Sight → Shown Query

abbrev pub Terms : Type 0
Terms = Sight → Recursive

abbrev pub Layer : (Type 0 → Type 0 → Type 0 → Type 0 → Type 0 → Type 0 → Type 0 → Type 0 → Type 0) → Type 0
Layer F = F Term Rows Piece Entry Sort Whole Terms Listing

-- ---- expressions

-- As a text has them: operations have no marks.
abbrev pub term : Layer Expr-F → Sight → Expr
term (ex.Int n) s = expr.Int n
term (ex.Str t) s = expr.Str t
term (ex.Bool v) s = expr.Bool v
term ex.Null s = expr.Null
term (ex.Named name) s = expr.Named name
term (ex.Dotted alias name) s = expr.Dotted alias name
term (ex.Slot i) s = expr.Slot i
term (ex.Column c) s = reference s c
term (ex.Param i t) s = expr.Param i t
term (ex.Neg e) s = expr.Neg (e s)
term (ex.NegSmall e) s = expr.Neg (e s)
term (ex.Not e) s = expr.Not (e s)
term (ex.Is e test negative) s = expr.Is (e s) test negative
term (ex.Chain e links) s = expr.Chain (e s) (map (λ l. (plain_op l.0, l.1 s)) links)
term (ex.Compare op x y) s = expr.Compare op (x s) (y s)
term (ex.Between negative x y z) s = expr.Between negative (x s) (y s) (z s)
term (ex.OneOf negative e choices) s = expr.OneOf negative (e s) (map (λ c. c s) choices)
term (ex.Cast e t) s = expr.Cast (e s) t
term (ex.Cases arms other) s = expr.Cases (map (λ a. (a.0 s, a.1 s)) arms) (option_map (λ e. e s) other)
term (ex.Call name es) s = expr.Call name (map (λ e. e s) es)
term ex.CountRows s = expr.CountRows
term (ex.Scalar q) s = expr.Scalar (q s).it
term (ex.Exists q) s = expr.Exists (q s).it

-- ---- FROM

-- A table has no list of columns: behind the digits of its place the list holds their names. The
-- columns of a subquery have the names of the list, or else the query's own.
abbrev pub rows : Layer Source-F → Rows
rows (ex.Table name) columns s level = record { source = source.Table name; columns = []; names = plain_names (drop 1 columns) }
rows (ex.Sub q lateral) columns s level = of_query lateral columns (q (before lateral level ∷ s))

abbrev pub piece : Layer FromItem-F → Piece
piece f s level = shaped f.alias (f.source f.columns s level)

abbrev pub with_part : Framed → Part → Framed
with_part a x = record { items = a.items ++ x.item ∷ []; seen = a.seen ++ x.seen ∷ [] }

abbrev pub no_part : Framed
no_part = record { items = []; seen = [] }

-- each item sees those before it
abbrev pub framed : Sight → List Piece → Framed
framed s = fold (λ a f. with_part a (f s a.seen)) no_part

-- ---- selects

abbrev pub entry_of : Option Name → Expr → Column
entry_of alias e = record { it = roll-Item (record { expr = e; alias = alias }); name = column_name alias e }

abbrev pub entry : Layer Item-F → Entry
entry i s = entry_of i.alias (i.expr s)

abbrev pub listed : List Column → Shown (List Item)
listed columns = record { it = map (λ c. c.it) columns; names = map (λ c. c.name) columns }

abbrev pub sort : Layer Key-F → Sort
sort k s = roll-Key (record { expr = k.expr s; descending = k.descending })

abbrev pub select_of : List FromItem → Shown (List Item) → Option Expr → List Key → Option Expr → Shown Select
select_of from list filter order limit =
    record { it = roll-Select (record { list = list.it; from = from; filter = filter; order = order; limit = limit }); names = list.names }

-- the list, the condition, the keys and LIMIT see the items of FROM
abbrev pub over : Layer Select-F → Sight → List FromItem → Shown Select
over x s from = select_of from (listed (map (λ i. i s) x.list)) (option_map (λ e. e s) x.filter)
    (map (λ k. k s) x.order) (option_map (λ e. e s) x.limit)

abbrev pub listing : Layer Select-F → Listing
listing x s = let from = framed s x.from in over x (from.seen ∷ s) from.items

-- ---- queries

-- the names of the columns are those of the first select
abbrev pub first_of : List (Shown Select) → List (Option Name)
first_of [] = []
first_of (x ∷ xs) = x.names

abbrev pub united : List (Shown Select) → Shown (List Select)
united xs = record { it = map (λ x. x.it) xs; names = first_of xs }

abbrev pub query_of : Option Recursive → Shown (List Select) → Shown Query
query_of r xs = record { it = roll-Query (record { recursive = r; selects = xs.it }); names = xs.names }

abbrev pub whole : Layer Query-F → Whole
whole q s = query_of (option_map (λ r. r s) q.recursive) (united (map (λ x. x s) q.selects))

abbrev pub terms : Layer Recursive-F → Terms
terms r s = roll-Recursive (record { name = r.name; columns = r.columns; first = map (λ x. (x s).it) r.first; second = (r.second s).it })

abbrev pub qualifying : Algebra
qualifying =
    record {
      AnExpr = Term;
      ASource = Rows;
      AFrom = Piece;
      AnItem = Entry;
      AKey = Sort;
      AQuery = Whole;
      ARecursive = Terms;
      ASelect = Listing;
      no_expr = λ s. expr.Null;
      no_query = λ s. record { it = roll-Query (record { recursive = None; selects = [] }); names = [] };
      expr = term;
      source = rows;
      from = piece;
      item = entry;
      key = sort;
      query = whole;
      recursive = terms;
      select = listing;
    }
