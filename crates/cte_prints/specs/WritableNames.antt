-- Trees whose names can be written: each is in lower case and isn't reserved. No slot, no column by
-- its place and no WITH stands in them, and their operations have no marks.
use Rattle.std.specs.Prelude.{◌≡◌, ℕ, ℤ, Bool, List, [], ◌∷◌, Option, Some, None}
use Rattle.away_values.specs.declared.types.Ty.{Ty}
use Rattle.away_values.specs.declared.operators.ChainOp.{ChainOp}
use Rattle.away_values.specs.declared.operators.CmpOp.{CmpOp}
use Rattle.away_values.specs.declared.operators.IsTest.{IsTest}
use Rattle.away_trees.specs.declared.queries.Expr.{Expr}
use Rattle.away_trees.specs.declared.queries.Expr.TheVariants as expr
use Rattle.away_trees.specs.declared.queries.Source.TheVariants as source
use Rattle.away_trees.specs.declared.queries.FromItem.{FromItem}
use Rattle.away_trees.specs.declared.queries.Item.{Item}
use Rattle.away_trees.specs.declared.queries.Key.{Key}
use Rattle.away_trees.specs.declared.queries.Select.{Select}
use Rattle.away_trees.specs.declared.queries.Expr.TheViews.{
  roll-Item,
  roll-FromItem,
  roll-Key,
  roll-Select,
  roll-Query,
}
use Rattle.away_grammar.specs.Terminals.{name}
use Rattle.elaboration.specs.Marks.{plain_op}
use Rattle.sql_printer.specs.Writable.{Writable}
use Rattle.cte_prints.specs.Like.{
  Kind,
  Tree,
  value,
  values,
  links,
  arms,
  maybe,
  item,
  items,
  key,
  keys,
  from_item,
  from_items,
  select,
  selects,
  query,
}

-- a name that can be written
abbrev pub IsWritableName : List ℕ → Type 0
IsWritableName n = Writable (name n)

abbrev pub MaybeWritable : Option (List ℕ) → Type 0
MaybeWritable None = Unit {0}
MaybeWritable (Some n) = IsWritableName n

pub data NamesAreWritable : (n : Kind) → Tree n → Type 0 where
  int : (n : ℤ) → NamesAreWritable value (expr.Int n)
  str : (t : List ℕ) → NamesAreWritable value (expr.Str t)
  bool : (v : Bool) → NamesAreWritable value (expr.Bool v)
  null : NamesAreWritable value expr.Null
  named : (n : List ℕ) → IsWritableName n → NamesAreWritable value (expr.Named n)
  qualified : (a n : List ℕ) → IsWritableName a → IsWritableName n → NamesAreWritable value (expr.Dotted a n)
  param : (i : ℕ) (t : Ty) → NamesAreWritable value (expr.Param i t)
  neg : {x : Expr} → NamesAreWritable value x → NamesAreWritable value (expr.Neg x)
  not : {x : Expr} → NamesAreWritable value x → NamesAreWritable value (expr.Not x)
  is : {x : Expr} (t : IsTest) (v : Bool) → NamesAreWritable value x → NamesAreWritable value (expr.Is x t v)
  chain : {x : Expr} {xs : List (ChainOp × Expr)} → NamesAreWritable value x → NamesAreWritable links xs → NamesAreWritable value (expr.Chain x xs)
  compare : {x y : Expr} (o : CmpOp) → NamesAreWritable value x → NamesAreWritable value y → NamesAreWritable value (expr.Compare o x y)
  between : {x y z : Expr} (v : Bool) → NamesAreWritable value x → NamesAreWritable value y → NamesAreWritable value z
      → NamesAreWritable value (expr.Between v x y z)
  one_of : {x : Expr} {xs : List Expr} (v : Bool) → NamesAreWritable value x → NamesAreWritable values xs → NamesAreWritable value (expr.OneOf v x xs)
  cast : {x : Expr} (t : Ty) → NamesAreWritable value x → NamesAreWritable value (expr.Cast x t)
  cases : {xs : List (Expr × Expr)} {o : Option Expr} → NamesAreWritable arms xs → NamesAreWritable maybe o → NamesAreWritable value (expr.Cases xs o)
  -- a function's name stays as it is
  call : {xs : List Expr} (n : List ℕ) → NamesAreWritable values xs → NamesAreWritable value (expr.Call n xs)
  count_rows : NamesAreWritable value expr.CountRows
  scalar : {q : Tree query} → NamesAreWritable query q → NamesAreWritable value (expr.Scalar q)
  exists : {q : Tree query} → NamesAreWritable query q → NamesAreWritable value (expr.Exists q)
  no_value : NamesAreWritable values []
  one_value : {x : Expr} {xs : List Expr} → NamesAreWritable value x → NamesAreWritable values xs → NamesAreWritable values (x ∷ xs)
  no_link : NamesAreWritable links []
  one_link : {x : Expr} {xs : List (ChainOp × Expr)} (o : ChainOp) → plain_op o ≡ o
      → NamesAreWritable value x → NamesAreWritable links xs → NamesAreWritable links ((o, x) ∷ xs)
  no_arm : NamesAreWritable arms []
  one_arm : {x y : Expr} {xs : List (Expr × Expr)} → NamesAreWritable value x → NamesAreWritable value y → NamesAreWritable arms xs
      → NamesAreWritable arms ((x, y) ∷ xs)
  nothing : NamesAreWritable maybe None
  something : {x : Expr} → NamesAreWritable value x → NamesAreWritable maybe (Some x)
  an_item : {x : Expr} (alias : Option (List ℕ)) → MaybeWritable alias → NamesAreWritable value x
      → NamesAreWritable item (roll-Item (record { expr = x; alias = alias }))
  no_item : NamesAreWritable items []
  one_item : {x : Item} {xs : List Item} → NamesAreWritable item x → NamesAreWritable items xs → NamesAreWritable items (x ∷ xs)
  a_key : {x : Expr} (descending : Bool) → NamesAreWritable value x → NamesAreWritable key (roll-Key (record { expr = x; descending = descending }))
  no_key : NamesAreWritable keys []
  one_key : {x : Key} {xs : List Key} → NamesAreWritable key x → NamesAreWritable keys xs → NamesAreWritable keys (x ∷ xs)
  -- a table as it is written has no list of columns
  table : (n alias : List ℕ) → IsWritableName n → IsWritableName alias
      → NamesAreWritable from_item (roll-FromItem (record { source = source.Table n; alias = alias; columns = [] }))
  subquery : {q : Tree query} (alias : List ℕ) (columns : List (List ℕ)) (lateral : Bool) → IsWritableName alias → NamesAreWritable query q
      → NamesAreWritable from_item (roll-FromItem (record { source = source.Sub q lateral; alias = alias; columns = columns }))
  no_from : NamesAreWritable from_items []
  one_from : {x : FromItem} {xs : List FromItem} → NamesAreWritable from_item x
      → NamesAreWritable from_items xs → NamesAreWritable from_items (x ∷ xs)
  whole : {list : List Item} {from : List FromItem} {filter limit : Option Expr} {order : List Key}
      → NamesAreWritable items list → NamesAreWritable from_items from → NamesAreWritable maybe filter → NamesAreWritable keys order
      → NamesAreWritable maybe limit
      → NamesAreWritable select (roll-Select (record { list = list; from = from; filter = filter; order = order; limit = limit }))
  no_select : NamesAreWritable selects []
  one_select : {x : Select} {xs : List Select} → NamesAreWritable select x → NamesAreWritable selects xs → NamesAreWritable selects (x ∷ xs)
  union : {xs : List Select} → NamesAreWritable selects xs → NamesAreWritable query (roll-Query (record { recursive = None; selects = xs }))
