-- Trees that are one another's like: the second tree is the first one with columns called by an
-- alias and a name, and with casts round literals. Neither has marks of operations.
use Rattle.std.specs.Prelude.{ℕ, ℤ, Bool, List, [], ◌∷◌, Option, Some, None}
use Rattle.away_values.specs.declared.types.Ty.{Ty}
use Rattle.away_values.specs.declared.types.Ty.TheVariants as ty
use Rattle.away_values.specs.Operators.{literal_type}
use Rattle.away_values.specs.declared.operators.ChainOp.{ChainOp}
use Rattle.away_values.specs.declared.operators.CmpOp.{CmpOp}
use Rattle.away_values.specs.declared.operators.IsTest.{IsTest}
use Rattle.away_trees.specs.declared.queries.Expr.{Expr}
use Rattle.away_trees.specs.declared.queries.Expr.TheVariants as expr
use Rattle.away_trees.specs.declared.queries.Source.TheVariants as source
use Rattle.away_trees.specs.declared.queries.FromItem.{FromItem}
use Rattle.away_trees.specs.declared.queries.Item.{Item}
use Rattle.away_trees.specs.declared.queries.Key.{Key}
use Rattle.away_trees.specs.declared.queries.Select.{Select}
use Rattle.away_trees.specs.declared.queries.Query.{Query}
use Rattle.away_trees.specs.declared.queries.Expr.TheViews.{
  roll-Item,
  roll-FromItem,
  roll-Key,
  roll-Select,
  roll-Query,
}
use Rattle.away_grammar.specs.Terminals.{name}
use Rattle.sql_printer.specs.Writable.{Writable}

-- what may be alike
pub data Kind : Type 0 where
  value : Kind
  values : Kind
  links : Kind
  arms : Kind
  maybe : Kind
  item : Kind
  items : Kind
  key : Kind
  keys : Kind
  from_item : Kind
  from_items : Kind
  select : Kind
  selects : Kind
  query : Kind

abbrev pub Tree : Kind → Type 0
Tree value = Expr
Tree values = List Expr
Tree links = List (ChainOp × Expr)
Tree arms = List (Expr × Expr)
Tree maybe = Option Expr
Tree item = Item
Tree items = List Item
Tree key = Key
Tree keys = List Key
Tree from_item = FromItem
Tree from_items = List FromItem
Tree select = Select
Tree selects = List Select
Tree query = Query

pub data IsLike : (n : Kind) → Tree n → Tree n → Type 0 where
  int : (n : ℤ) → IsLike value (expr.Int n) (expr.Cast (expr.Int n) (literal_type n))
  str : (t : List ℕ) → IsLike value (expr.Str t) (expr.Cast (expr.Str t) ty.Text)
  bool : (v : Bool) → IsLike value (expr.Bool v) (expr.Cast (expr.Bool v) ty.Boolean)
  null : IsLike value expr.Null expr.Null
  null_as : (t : Ty) → IsLike value expr.Null (expr.Cast expr.Null t)
  -- a name of the first tree is a column of the second one
  named : (n a c : List ℕ) → Writable (name a) → Writable (name c) → IsLike value (expr.Named n) (expr.Dotted a c)
  qualified : (b n a c : List ℕ) → Writable (name a) → Writable (name c) → IsLike value (expr.Dotted b n) (expr.Dotted a c)
  neg : {x u : Expr} → IsLike value x u → IsLike value (expr.Neg x) (expr.Neg u)
  not : {x u : Expr} → IsLike value x u → IsLike value (expr.Not x) (expr.Not u)
  is : {x u : Expr} (t : IsTest) (v : Bool) → IsLike value x u → IsLike value (expr.Is x t v) (expr.Is u t v)
  chain : {x u : Expr} {xs us : List (ChainOp × Expr)} → IsLike value x u → IsLike links xs us → IsLike value (expr.Chain x xs) (expr.Chain u us)
  compare : {x y u v : Expr} (o : CmpOp) → IsLike value x u → IsLike value y v → IsLike value (expr.Compare o x y) (expr.Compare o u v)
  between : {x y z u v w : Expr} (n : Bool) → IsLike value x u → IsLike value y v → IsLike value z w
      → IsLike value (expr.Between n x y z) (expr.Between n u v w)
  one_of : {x u : Expr} {xs us : List Expr} (n : Bool) → IsLike value x u → IsLike values xs us → IsLike value (expr.OneOf n x xs) (expr.OneOf n u us)
  cast : {x u : Expr} (t : Ty) → IsLike value x u → IsLike value (expr.Cast x t) (expr.Cast u t)
  cases : {xs us : List (Expr × Expr)} {x u : Option Expr} → IsLike arms xs us → IsLike maybe x u → IsLike value (expr.Cases xs x) (expr.Cases us u)
  call : {xs us : List Expr} (n : List ℕ) → IsLike values xs us → IsLike value (expr.Call n xs) (expr.Call n us)
  count_rows : IsLike value expr.CountRows expr.CountRows
  scalar : {q p : Query} → IsLike query q p → IsLike value (expr.Scalar q) (expr.Scalar p)
  exists : {q p : Query} → IsLike query q p → IsLike value (expr.Exists q) (expr.Exists p)
  no_value : IsLike values [] []
  one_value : {x u : Expr} {xs us : List Expr} → IsLike value x u → IsLike values xs us → IsLike values (x ∷ xs) (u ∷ us)
  no_link : IsLike links [] []
  one_link : {x u : Expr} {xs us : List (ChainOp × Expr)} (o : ChainOp) → IsLike value x u
      → IsLike links xs us → IsLike links ((o, x) ∷ xs) ((o, u) ∷ us)
  no_arm : IsLike arms [] []
  one_arm : {x y u v : Expr} {xs us : List (Expr × Expr)} → IsLike value x u → IsLike value y v → IsLike arms xs us
      → IsLike arms ((x, y) ∷ xs) ((u, v) ∷ us)
  nothing : IsLike maybe None None
  something : {x u : Expr} → IsLike value x u → IsLike maybe (Some x) (Some u)
  -- the alias stays
  an_item : {x u : Expr} (alias : Option (List ℕ)) → IsLike value x u
      → IsLike item (roll-Item (record { expr = x; alias = alias })) (roll-Item (record { expr = u; alias = alias }))
  -- or goes, in the select of a SELECT INTO
  a_bare_item : {x u : Expr} (alias : Option (List ℕ)) → IsLike value x u
      → IsLike item (roll-Item (record { expr = x; alias = alias }))
      (roll-Item (record { expr = u; alias = None }))
  no_item : IsLike items [] []
  one_item : {x u : Item} {xs us : List Item} → IsLike item x u → IsLike items xs us → IsLike items (x ∷ xs) (u ∷ us)
  -- the direction stays
  a_key : {x u : Expr} (descending : Bool) → IsLike value x u
      → IsLike key (roll-Key (record { expr = x; descending = descending })) (roll-Key (record { expr = u; descending = descending }))
  no_key : IsLike keys [] []
  one_key : {x u : Key} {xs us : List Key} → IsLike key x u → IsLike keys xs us → IsLike keys (x ∷ xs) (u ∷ us)
  -- a table has no list of columns
  table : (n alias : List ℕ) → IsLike from_item (roll-FromItem (record { source = source.Table n; alias = alias; columns = [] }))
      (roll-FromItem (record { source = source.Table n; alias = alias; columns = [] }))
  subquery : {q p : Query} (alias : List ℕ) (columns : List (List ℕ)) (lateral : Bool) → IsLike query q p
      → IsLike from_item (roll-FromItem (record { source = source.Sub q lateral; alias = alias; columns = columns }))
      (roll-FromItem (record { source = source.Sub p lateral; alias = alias; columns = columns }))
  no_from : IsLike from_items [] []
  one_from : {x u : FromItem} {xs us : List FromItem} → IsLike from_item x u → IsLike from_items xs us → IsLike from_items (x ∷ xs) (u ∷ us)
  whole : {list lists : List Item} {from froms : List FromItem} {filter filters limit limits : Option Expr} {order orders : List Key}
      → IsLike items list lists → IsLike from_items from froms → IsLike maybe filter filters → IsLike keys order orders → IsLike maybe limit limits
      → IsLike select (roll-Select (record { list = list; from = from; filter = filter; order = order; limit = limit }))
      (roll-Select (record { list = lists; from = froms; filter = filters; order = orders; limit = limits }))
  no_select : IsLike selects [] []
  one_select : {x u : Select} {xs us : List Select} → IsLike select x u → IsLike selects xs us → IsLike selects (x ∷ xs) (u ∷ us)
  union : {xs us : List Select} → IsLike selects xs us
      → IsLike query (roll-Query (record { recursive = None; selects = xs })) (roll-Query (record { recursive = None; selects = us }))
