-- A tree with what its names stand for, and the rules that its names break. A rule above the least
-- one that is broken may be noted wrongly: it is judged only where the lower ones hold.
use Rattle.std.specs.Prelude.{
  Bool,
  true,
  false,
  not,
  ◌&&◌,
  ◌||◌,
  if◌then◌else◌,
  List,
  [],
  ◌∷◌,
  ◌++◌,
  map,
  fold,
  drop,
  Option,
  Some,
  None,
  is_some,
}
use Rattle.std.specs.List.{list_any}
use Rattle.away_values.specs.declared.operators.ChainOp.{ChainOp}
use Rattle.away_trees.specs.declared.queries.Expr.{Expr}
use Rattle.away_trees.specs.declared.queries.Expr.TheVariants as expr
use Rattle.away_trees.specs.declared.queries.Source.TheVariants as source
use Rattle.away_trees.specs.declared.queries.FromItem.{FromItem}
use Rattle.away_trees.specs.declared.queries.Item.{Item}
use Rattle.away_trees.specs.declared.queries.Key.{Key}
use Rattle.away_trees.specs.declared.queries.Select.{Select}
use Rattle.away_trees.specs.declared.queries.Query.{Query}
use Rattle.away_trees.specs.declared.queries.Expr.TheOpen.{
  Expr-F,
  Source-F,
  FromItem-F,
  Item-F,
  Key-F,
  Select-F,
  Recursive-F,
  Query-F,
}
use Rattle.away_trees.specs.declared.queries.Expr.TheOpen as ex
use Rattle.away_trees.specs.declared.queries.Expr.TheViews.{
  roll-Item,
  roll-FromItem,
  roll-Key,
  roll-Select,
  roll-Query,
}
use Rattle.away_trees.specs.Algebra.{Algebra}
use Rattle.away_trees.specs.AlgebraEquations.{algebra}
use Rattle.away_names.specs.declared.rule.Rule.TheVariants as rule
use Rattle.away_names.specs.declared.note.Note.{Note}
use Rattle.away_names.specs.declared.note.Noted.{Noted}
use Rattle.away_names.specs.declared.note.Shown.{Shown}
use Rattle.away_names.specs.declared.note.Column.{Column}
use Rattle.away_names.specs.declared.note.Framed.{Framed}
use Rattle.away_names.specs.declared.note.Part.{Part}
use Rattle.away_names.specs.declared.note.Origin.{Origin}
use Rattle.away_names.specs.declared.note.Times.TheVariants.{Never, Once}
use Rattle.away_names.specs.declared.scope.Variable.{Variable}
use Rattle.away_names.specs.declared.scope.Listed.{Listed}
use Rattle.away_names.specs.declared.scope.Hit.{Hit}
use Rattle.away_names.specs.Functions.{function}
use Rattle.away_names.specs.Notes.{
  clean,
  joined,
  breaks,
  pure,
  noted,
  mapped,
  also,
  paired,
  each,
  held,
  all_notes,
}
use Rattle.away_names.specs.Lookups.{
  Name,
  Level,
  Scope,
  inside,
  or_else,
  is_named,
  column_named,
  column_qualified,
  variable_named,
  has_double,
  is_kept,
}

-- ---- what stands for a tree

-- `alone` is the name where that is the whole expression, and `last` the name of a column written
-- with or without its item
pub record Term : Type 0 where
  pub judge : Scope → Noted Expr
  pub alone : Option Name
  pub last : Option Name

-- an item of a list, and its column's name
pub record Entry : Type 0 where
  pub alias : Option Name
  pub judge : Scope → Noted Column

-- a select or a query with the names of its columns
abbrev pub Listing : Type 0
Listing = Scope → Noted (Shown Select)

abbrev pub Whole : Type 0
Whole = Scope → Noted (Shown Query)

-- by the written list of columns and the items before it: the source, the list of columns, and the
-- columns as names see them
abbrev pub Rows : Type 0
Rows = List Name → Scope → Level → Noted Origin

pub record Piece : Type 0 where
  pub alias : Name
  pub judge : Scope → Level → Noted Part

-- by the aliases of the list
abbrev pub Sort : Type 0
Sort = List (Option Name) → Scope → Noted Key

-- a recursive table stands before a whole query alone, and nothing is asked of it here
abbrev pub Terms : Type 0
Terms = Unit {0}

-- ---- names as they are written

-- a name of the query's own may not be written in a function
unfoldable pub written : Scope → Name → Note
written s n = breaks rule.Reserved (s.in_function && is_kept n)

abbrev pub all_written : Scope → List Name → Note
all_written s = all_notes (written s)

unfoldable pub maybe_written : Scope → Option Name → Note
maybe_written s None = clean
maybe_written s (Some n) = written s n

-- ---- an expression

unfoldable pub slot_or : Name → Option Variable → Noted Expr
slot_or n (Some v) = pure (expr.Slot v.slot)
slot_or n None = noted (breaks rule.Names true) (expr.Named n)

unfoldable pub named_by : Name → Option Hit → Option Variable → Noted Expr
named_by n (Some hit) v = noted (breaks rule.Ambiguity (hit.many || is_some v)) (expr.Column hit.column)
named_by n None v = slot_or n v

unfoldable pub named : Name → Scope → Noted Expr
named n s = also (written s n) (named_by n (column_named n s.levels) (variable_named n s.variables))

unfoldable pub qualified_by : Name → Name → Option Hit → Noted Expr
qualified_by a n (Some hit) = pure (expr.Column hit.column)
qualified_by a n None = noted (breaks rule.Names true) (expr.Dotted a n)

unfoldable pub qualified : Name → Name → Scope → Noted Expr
qualified a n s = also (joined (written s a) (written s n)) (qualified_by a n (column_qualified a n s.levels))

-- slots and columns stand for names, and no reader writes one; where one is written, it's no name
-- that is known
unfoldable pub unwritten : Expr → Noted Expr
unwritten e = noted (breaks rule.Names true) e

-- a function is known by its name
unfoldable pub called : Scope → Name → Note
called s name = joined (written s name) (breaks rule.Names (not (is_some (function name))))

abbrev pub linked : Scope → ChainOp × Term → Noted (ChainOp × Expr)
linked s l = mapped (λ e. (l.0, e)) (l.1.judge s)

abbrev pub armed : Scope → Term × Term → Noted (Expr × Expr)
armed s a = paired (λ x y. (x, y)) (a.0.judge s) (a.1.judge s)

abbrev pub Layer : Type 0
Layer = Expr-F Term Rows Piece Entry Sort Whole Terms Listing

abbrev pub judge : Layer → Scope → Noted Expr
judge (ex.Int n) s = pure (expr.Int n)
judge (ex.Str t) s = pure (expr.Str t)
judge (ex.Bool b) s = pure (expr.Bool b)
judge ex.Null s = pure expr.Null
judge (ex.Named n) s = named n s
judge (ex.Dotted a n) s = qualified a n s
judge (ex.Slot i) s = unwritten (expr.Slot i)
judge (ex.Column c) s = unwritten (expr.Column c)
judge (ex.Param i ty) s = noted (breaks rule.Names s.in_function) (expr.Param i ty)
judge (ex.Neg e) s = mapped (λ e. expr.Neg e) (e.judge s)
judge (ex.NegSmall e) s = mapped (λ e. expr.NegSmall e) (e.judge s)
judge (ex.Not e) s = mapped (λ e. expr.Not e) (e.judge s)
judge (ex.Is e test negative) s = mapped (λ e. expr.Is e test negative) (e.judge s)
judge (ex.Chain e links) s = paired (λ e links. expr.Chain e links) (e.judge s) (each (linked s) links)
judge (ex.Compare op a b) s = paired (λ a b. expr.Compare op a b) (a.judge s) (b.judge s)
judge (ex.Between negative e low high) s =
    paired (λ e (range : Expr × Expr). expr.Between negative e range.0 range.1) (e.judge s)
    (paired (λ low high. (low, high)) (low.judge s) (high.judge s))
judge (ex.OneOf negative e choices) s = paired (λ e choices. expr.OneOf negative e choices) (e.judge s) (each (λ t. t.judge s) choices)
judge (ex.Cast e ty) s = mapped (λ e. expr.Cast e ty) (e.judge s)
judge (ex.Cases arms other) s = paired (λ arms other. expr.Cases arms other) (each (armed s) arms) (held (λ t. t.judge s) other)
judge (ex.Call name es) s = also (called s name) (mapped (λ es. expr.Call name es) (each (λ t. t.judge s) es))
judge ex.CountRows s = pure expr.CountRows
judge (ex.Scalar q) s = mapped (λ q. expr.Scalar q.it) (q s)
judge (ex.Exists q) s = mapped (λ q. expr.Exists q.it) (q s)

abbrev pub alone : Layer → Option Name
alone (ex.Named n) = Some n
alone _ = None

abbrev pub last : Layer → Option Name
last (ex.Named n) = Some n
last (ex.Dotted a n) = Some n
last _ = None

abbrev pub term : Layer → Term
term l = record { judge = judge l; alone = alone l; last = last l }

-- ---- FROM

unfoldable pub once_where : Bool → Note
once_where recursive = record { least = None; refers = if recursive then Once else Never }

abbrev pub plain_names : List Name → List (Option Name)
plain_names = map Some

-- a table that isn't known has no columns
unfoldable pub of_table : Name → Option Listed → Noted Origin
of_table n None = noted (breaks rule.Tables true) (record { source = source.Table n; columns = []; names = [] })
of_table n (Some t) = noted (once_where t.recursive) (record { source = source.Table n; columns = t.written; names = plain_names (drop 1 t.written) })

-- the names of columns as they are written, or else the query's own
unfoldable pub names_or : List Name → List (Option Name) → List (Option Name)
names_or [] own = own
names_or (n ∷ ns) own = plain_names (n ∷ ns)

abbrev pub of_query : Bool → List Name → Shown Query → Origin
of_query lateral columns q = record { source = source.Sub q.it lateral; columns = columns; names = names_or columns q.names }

-- a LATERAL subquery sees the items before it, and any other no item of this FROM
abbrev pub before : Bool → Level → Level
before lateral level = if lateral then level else []

abbrev pub origin : Source-F Term Rows Piece Entry Sort Whole Terms Listing → Rows
origin (ex.Table n) columns s level = also (written s n) (of_table n (s.table n))
origin (ex.Sub q lateral) columns s level = mapped (of_query lateral columns) (q (inside (before lateral level) s))

abbrev pub shaped : Name → Origin → Part
shaped alias x = record {
  item = roll-FromItem (record { source = x.source; alias = alias; columns = x.columns });
  seen = record { alias = alias; columns = x.names };
}

-- the alias and the list of columns as they are written
unfoldable pub part_note : Scope → Name → List Name → Note
part_note s alias columns = joined (written s alias) (joined (all_written s columns) (breaks rule.Duplicates (has_double columns)))

abbrev pub part : FromItem-F Term Rows Piece Entry Sort Whole Terms Listing → Piece
part f = record { alias = f.alias; judge = λ s level. also (part_note s f.alias f.columns) (mapped (shaped f.alias) (f.source f.columns s level)) }

abbrev pub with_part : Noted Framed → Noted Part → Noted Framed
with_part a x = record { it = record { items = a.it.items ++ x.it.item ∷ []; seen = a.it.seen ++ x.it.seen ∷ [] }; note = joined a.note x.note }

abbrev pub no_part : Noted Framed
no_part = pure (record { items = []; seen = [] })

-- each item sees those before it
abbrev pub framed : Scope → List Piece → Noted Framed
framed s = fold (λ a f. with_part a (f.judge s a.it.seen)) no_part

-- ---- a select

-- a column without alias has its name where it is a plain column, which a variable isn't
unfoldable pub shown : Expr → Option Name → Option Name
shown (expr.Column c) last = last
shown _ last = None

unfoldable pub named_as : Option Name → Expr → Option Name → Option Name
named_as alias e last = or_else alias (shown e last)

abbrev pub item_of : Option Name → Option Name → Expr → Column
item_of alias last e = record { it = roll-Item (record { expr = e; alias = alias }); name = named_as alias e last }

abbrev pub item : Item-F Term Rows Piece Entry Sort Whole Terms Listing → Entry
item i = record { alias = i.alias; judge = λ s. also (maybe_written s i.alias) (mapped (item_of i.alias i.expr.last) (i.expr.judge s)) }

abbrev pub with_item : Noted (Shown (List Item)) → Noted Column → Noted (Shown (List Item))
with_item a x = record { it = record { it = a.it.it ++ x.it.it ∷ []; names = a.it.names ++ x.it.name ∷ [] }; note = joined a.note x.note }

abbrev pub no_item : Noted (Shown (List Item))
no_item = pure (record { it = []; names = [] })

abbrev pub items : Scope → List Entry → Noted (Shown (List Item))
items s = fold (λ a i. with_item a (i.judge s)) no_item

-- a key that is a name alone may not be written as an alias in the list
unfoldable pub is_alias : List (Option Name) → Option Name → Bool
is_alias aliases None = false
is_alias aliases (Some n) = list_any (is_named n) aliases

abbrev pub sort : Key-F Term Rows Piece Entry Sort Whole Terms Listing → Sort
sort k aliases s =
    also (breaks rule.Ambiguity (is_alias aliases k.expr.alone))
    (mapped (λ e. roll-Key (record { expr = e; descending = k.descending }))
    (k.expr.judge s))

-- the list, the condition, the keys and LIMIT, which see the columns of FROM
abbrev pub select_of : List FromItem → Noted (Shown (List Item)) → Noted (Option Expr) → Noted (List Key) → Noted (Option Expr) → Noted (Shown Select)
select_of from list filter order limit =
    noted (joined (joined list.note filter.note) (joined order.note limit.note))
    (record {
      it = roll-Select
          (record {
            list = list.it.it;
            from = from;
            filter = filter.it;
            order = order.it;
            limit = limit.it;
          });
      names = list.it.names;
    })

abbrev pub over : Select-F Term Rows Piece Entry Sort Whole Terms Listing → Scope → List FromItem → Noted (Shown Select)
over s inner from =
    select_of from (items inner s.list) (held (λ t. t.judge inner) s.filter) (each (λ k. k (map (λ i. i.alias) s.list) inner) s.order)
    (held (λ t. t.judge inner) s.limit)

abbrev pub listing : Select-F Term Rows Piece Entry Sort Whole Terms Listing → Listing
listing s outer =
    let from = framed outer s.from in
    also (joined (breaks rule.Duplicates (has_double (map (λ f. f.alias) s.from))) from.note) (over s (inside from.it.seen outer) from.it.items)

-- ---- a query

-- the names of the columns are those of the first select
unfoldable pub first_names : List Select → List (Option Name) → List (Option Name) → List (Option Name)
first_names [] names more = more
first_names (s ∷ ss) names more = names

abbrev pub with_select : Noted (Shown (List Select)) → Noted (Shown Select) → Noted (Shown (List Select))
with_select a x =
    record { it = record { it = a.it.it ++ x.it.it ∷ []; names = first_names a.it.it a.it.names x.it.names }; note = joined a.note x.note }

abbrev pub no_select : Noted (Shown (List Select))
no_select = pure (record { it = []; names = [] })

abbrev pub united : List Listing → Scope → Noted (Shown (List Select))
united selects s = fold (λ a l. with_select a (l s)) no_select selects

abbrev pub query_with : Shown (List Select) → Shown Query
query_with x = record { it = roll-Query (record { recursive = None; selects = x.it }); names = x.names }

-- WITH stands before a whole file alone; elsewhere, where no reader puts it, it has no type and is
-- left out
abbrev pub whole : Query-F Term Rows Piece Entry Sort Whole Terms Listing → Whole
whole q s = also (breaks rule.Types (is_some q.recursive)) (mapped query_with (united q.selects s))

abbrev pub naming : Algebra
naming = algebra (record {
  no_expr = term ex.Null;
  no_query = λ s. pure (query_with (record { it = []; names = [] }));
  expr = term;
  source = origin;
  from = part;
  item = item;
  key = sort;
  query = whole;
  recursive = λ r. tt;
  select = listing;
})
