-- A resolved query in which names are unambiguous: each column is read back at its place by the
-- alias of its item and its own name, the aliases of a select differ, and each table's name stands
-- for the columns that its item lists.
use Rattle.std.specs.Prelude.{
  ◌≡◌,
  ℕ,
  ℤ,
  Bool,
  true,
  false,
  List,
  [],
  ◌∷◌,
  ◌++◌,
  map,
  Option,
  Some,
  None,
  is_some,
}
use Rattle.away_values.specs.declared.types.Ty.{Ty}
use Rattle.away_values.specs.declared.operators.ChainOp.{ChainOp}
use Rattle.away_values.specs.declared.operators.CmpOp.{CmpOp}
use Rattle.away_values.specs.declared.operators.IsTest.{IsTest}
use Rattle.away_trees.specs.declared.queries.Col.{Col}
use Rattle.away_trees.specs.declared.queries.Expr.{Expr}
use Rattle.away_trees.specs.declared.queries.Expr.TheVariants as expr
use Rattle.away_trees.specs.declared.queries.Source.TheVariants as source
use Rattle.away_trees.specs.declared.queries.FromItem.{FromItem}
use Rattle.away_trees.specs.declared.queries.Item.{Item}
use Rattle.away_trees.specs.declared.queries.Key.{Key}
use Rattle.away_trees.specs.declared.queries.Select.{Select}
use Rattle.away_trees.specs.declared.queries.Recursive.{Recursive}
use Rattle.away_trees.specs.declared.queries.Query.{Query}
use Rattle.away_trees.specs.declared.schemas.Schema.{Schema}
use Rattle.away_trees.specs.declared.queries.Expr.TheViews.{
  out-FromItem,
  out-Recursive,
  out-Query,
  roll-Item,
  roll-FromItem,
  roll-Key,
  roll-Select,
  roll-Query,
}
use Rattle.away_names.specs.Functions.{function}
use Rattle.away_names.specs.Lookups.{Name, Level, Scope, inside, column_qualified, has_double}
use Rattle.away_names.specs.Naming.{before}
use Rattle.away_names.specs.Tables.{outermost}
use Rattle.away_names.specs.Files.{with_working}
use Rattle.elaboration.specs.Marks.{plain_op}
use Rattle.qualified_names.specs.Sight.{reference}
use Rattle.qualified_names.specs.Trees.{qualified_part, qualified_from}

-- what may be unambiguous
pub data Sort : Type 0 where
  value : Sort
  values : Sort
  links : Sort
  arms : Sort
  maybe : Sort
  items : Sort
  keys : Sort
  -- an item of FROM, and the rest of FROM, behind items that are seen so
  from_item : Level → Sort
  from_items : Level → Sort
  select : Sort
  selects : Sort
  query : Sort

abbrev pub Tree : Sort → Type 0
Tree value = Expr
Tree values = List Expr
Tree links = List (ChainOp × Expr)
Tree arms = List (Expr × Expr)
Tree maybe = Option Expr
Tree items = List Item
Tree keys = List Key
Tree (from_item level) = FromItem
Tree (from_items level) = List FromItem
Tree select = Select
Tree selects = List Select
Tree query = Query

-- At a place that sees this, the names of the tree are unambiguous. Its operations have no marks.
pub data IsClear : (n : Sort) → Scope → Tree n → Type 0 where
  int : {s : Scope} (n : ℤ) → IsClear value s (expr.Int n)
  str : {s : Scope} (t : List ℕ) → IsClear value s (expr.Str t)
  bool : {s : Scope} (v : Bool) → IsClear value s (expr.Bool v)
  null : {s : Scope} → IsClear value s expr.Null
  -- the first item of the alias that has such a column, in the nearest select that has one
  column : {s : Scope} (c : Col) (alias name : Name) → reference s.levels c ≡ expr.Dotted alias name
      → column_qualified alias name s.levels ≡ Some (record { column = c; many = false }) → IsClear value s (expr.Column c)
  param : {s : Scope} (i : ℕ) (t : Ty) → IsClear value s (expr.Param i t)
  neg : {s : Scope} {x : Expr} → IsClear value s x → IsClear value s (expr.Neg x)
  not : {s : Scope} {x : Expr} → IsClear value s x → IsClear value s (expr.Not x)
  is : {s : Scope} {x : Expr} (t : IsTest) (v : Bool) → IsClear value s x → IsClear value s (expr.Is x t v)
  chain : {s : Scope} {x : Expr} {ls : List (ChainOp × Expr)} → IsClear value s x → IsClear links s ls → IsClear value s (expr.Chain x ls)
  compare : {s : Scope} {x y : Expr} (op : CmpOp) → IsClear value s x → IsClear value s y → IsClear value s (expr.Compare op x y)
  between : {s : Scope} {x y z : Expr} (v : Bool) → IsClear value s x → IsClear value s y → IsClear value s z
      → IsClear value s (expr.Between v x y z)
  one_of : {s : Scope} {x : Expr} {es : List Expr} (v : Bool) → IsClear value s x → IsClear values s es → IsClear value s (expr.OneOf v x es)
  cast : {s : Scope} {x : Expr} (t : Ty) → IsClear value s x → IsClear value s (expr.Cast x t)
  cases : {s : Scope} {as_ : List (Expr × Expr)} {o : Option Expr} → IsClear arms s as_ → IsClear maybe s o → IsClear value s (expr.Cases as_ o)
  call : {s : Scope} {es : List Expr} (name : Name) → is_some (function name) ≡ true → IsClear values s es → IsClear value s (expr.Call name es)
  count_rows : {s : Scope} → IsClear value s expr.CountRows
  scalar : {s : Scope} {q : Query} → IsClear query s q → IsClear value s (expr.Scalar q)
  exists : {s : Scope} {q : Query} → IsClear query s q → IsClear value s (expr.Exists q)
  no_value : {s : Scope} → IsClear values s []
  one_value : {s : Scope} {x : Expr} {es : List Expr} → IsClear value s x → IsClear values s es → IsClear values s (x ∷ es)
  no_link : {s : Scope} → IsClear links s []
  one_link : {s : Scope} {x : Expr} {ls : List (ChainOp × Expr)} (op : ChainOp) → plain_op op ≡ op
      → IsClear value s x → IsClear links s ls → IsClear links s ((op, x) ∷ ls)
  no_arm : {s : Scope} → IsClear arms s []
  one_arm : {s : Scope} {x y : Expr} {as_ : List (Expr × Expr)}
      → IsClear value s x → IsClear value s y → IsClear arms s as_ → IsClear arms s ((x, y) ∷ as_)
  nothing : {s : Scope} → IsClear maybe s None
  something : {s : Scope} {x : Expr} → IsClear value s x → IsClear maybe s (Some x)
  no_item : {s : Scope} → IsClear items s []
  one_item : {s : Scope} {x : Expr} {list : List Item} (alias : Option Name) → IsClear value s x → IsClear items s list
      → IsClear items s (roll-Item (record { expr = x; alias = alias }) ∷ list)
  no_key : {s : Scope} → IsClear keys s []
  one_key : {s : Scope} {x : Expr} {ks : List Key} (descending : Bool) → IsClear value s x → IsClear keys s ks
      → IsClear keys s (roll-Key (record { expr = x; descending = descending }) ∷ ks)
  -- a table's item lists the digits of its place and its columns
  table : {s : Scope} {level : Level} (name alias : Name) (columns : List Name) (recursive : Bool)
      → s.table name ≡ Some (record { written = columns; recursive = recursive })
      → IsClear (from_item level) s (roll-FromItem (record { source = source.Table name; alias = alias; columns = columns }))
  -- a subquery sees the items before it where it's LATERAL
  subquery : {s : Scope} {level : Level} {q : Query} (alias : Name) (columns : List Name) (lateral : Bool) → has_double columns ≡ false
      → IsClear query (inside (before lateral level) s) q
      → IsClear (from_item level) s (roll-FromItem (record { source = source.Sub q lateral; alias = alias; columns = columns }))
  no_from : {s : Scope} {level : Level} → IsClear (from_items level) s []
  one_from : {s : Scope} {level : Level} {f : FromItem} {fs : List FromItem} → IsClear (from_item level) s f
      → IsClear (from_items (level ++ (qualified_part f s.levels level).seen ∷ [])) s fs → IsClear (from_items level) s (f ∷ fs)
  -- the parts of a select see the items of its FROM
  whole : {s : Scope} {list : List Item} {from : List FromItem} {filter limit : Option Expr} {order : List Key}
      → has_double (map (λ f. (out-FromItem f).alias) from) ≡ false
      → IsClear (from_items []) s from
      → IsClear items (inside (qualified_from s.levels from).seen s) list
      → IsClear maybe (inside (qualified_from s.levels from).seen s) filter
      → IsClear keys (inside (qualified_from s.levels from).seen s) order
      → IsClear maybe (inside (qualified_from s.levels from).seen s) limit
      → IsClear select s (roll-Select (record { list = list; from = from; filter = filter; order = order; limit = limit }))
  no_select : {s : Scope} → IsClear selects s []
  one_select : {s : Scope} {x : Select} {xs : List Select} → IsClear select s x → IsClear selects s xs → IsClear selects s (x ∷ xs)
  union : {s : Scope} {xs : List Select} → IsClear selects s xs → IsClear query s (roll-Query (record { recursive = None; selects = xs }))

-- a whole query under a schema: its terms and it see the recursive table
abbrev pub AreClear : Schema → Option Recursive → List Select → Type 0
AreClear schema None xs = IsClear selects (outermost schema) xs
AreClear schema (Some r) xs =
    let s : Scope = with_working schema r in
    (has_double (out-Recursive r).columns ≡ false) × IsClear selects s (out-Recursive r).first
    × IsClear select s (out-Recursive r).second × IsClear selects s xs

abbrev pub IsClearFile : Schema → Query → Type 0
IsClearFile schema q = AreClear schema (out-Query q).recursive (out-Query q).selects
