-- The grammar of expressions, queries and schemas: which terminals read as which tree. A
-- constructor is a production.
--
-- The productions are those of PostgreSQL's manual (Value Expressions; SELECT; WITH Queries; CREATE
-- TABLE), cut down to this profile. A repeated NOT or unary minus, and a third `::` in a row, need
-- parentheses; that is our own choice.
use Rattle.std.specs.Prelude.{
  ◌≡◌,
  ℕ,
  ◌<◌,
  ◌^◌,
  ◌-◌,
  pos,
  negsuc,
  Bool,
  true,
  false,
  ◌&&◌,
  ◌||◌,
  if◌then◌else◌,
  List,
  [],
  ◌∷◌,
  ◌++◌,
  Option,
  Some,
  None,
  codes,
  bytes_eq,
}
use Rattle.std.specs.List.{list_all}
use Rattle.away_grammar.specs.declared.grammar.Mark.{Mark}
use Rattle.away_grammar.specs.declared.grammar.Mark.TheVariants as m
use Rattle.away_grammar.specs.declared.grammar.Level.{Level}
use Rattle.away_grammar.specs.declared.grammar.Level.TheVariants as l
use Rattle.away_values.specs.declared.types.Ty.{Ty}
use Rattle.away_values.specs.declared.types.Ty.TheVariants as types
use Rattle.away_values.specs.declared.operators.IntOp.TheVariants as int
use Rattle.away_values.specs.declared.operators.ChainOp.{ChainOp}
use Rattle.away_values.specs.declared.operators.ChainOp.TheVariants as op
use Rattle.away_values.specs.declared.operators.CmpOp.{CmpOp}
use Rattle.away_values.specs.declared.operators.CmpOp.TheVariants as cmp
use Rattle.away_values.specs.declared.operators.IsTest.{IsTest}
use Rattle.away_values.specs.declared.operators.IsTest.TheVariants as tests
use Rattle.away_trees.specs.declared.queries.Expr.{Expr}
use Rattle.away_trees.specs.declared.queries.Expr.TheVariants as e
use Rattle.away_trees.specs.declared.queries.Expr.TheBlock as b
use Rattle.away_trees.specs.declared.queries.Source.TheVariants as source
use Rattle.away_trees.specs.declared.queries.Item.{Item}
use Rattle.away_trees.specs.declared.queries.FromItem.{FromItem}
use Rattle.away_trees.specs.declared.queries.Key.{Key}
use Rattle.away_trees.specs.declared.queries.Select.{Select}
use Rattle.away_trees.specs.declared.queries.Recursive.{Recursive}
use Rattle.away_trees.specs.declared.queries.Query.{Query}
use Rattle.away_trees.specs.declared.queries.Expr.TheViews.{
  roll-Item,
  roll-FromItem,
  roll-Key,
  roll-Select,
  roll-Recursive,
  roll-Query,
  out-Select,
}
use Rattle.away_trees.specs.declared.schemas.ColumnSchema.{ColumnSchema}
use Rattle.away_trees.specs.declared.schemas.TableSchema.{TableSchema}
use Rattle.away_grammar.specs.Terminals.{Terminal, mark, name, integer, string, parameter}

-- ---- words and terminals

abbrev or_of : Mark → Option ChainOp
or_of m.Or = Some op.Or
or_of _ = None

abbrev and_of : Mark → Option ChainOp
and_of m.And = Some op.And
and_of _ = None

abbrev bars_of : Mark → Option ChainOp
bars_of m.Bars = Some op.Concat
bars_of _ = None

abbrev sum_of : Mark → Option ChainOp
sum_of m.Plus = Some (op.Int int.Add)
sum_of m.Minus = Some (op.Int int.Sub)
sum_of _ = None

abbrev product_of : Mark → Option ChainOp
product_of m.Star = Some (op.Int int.Mul)
product_of m.Slash = Some (op.Int int.Div)
product_of m.Percent = Some (op.Int int.Rem)
product_of _ = None

-- the operators that link the operands of a level
abbrev pub operator_of : Level → Mark → Option ChainOp
operator_of l.Or terminal = or_of terminal
operator_of l.And terminal = and_of terminal
operator_of l.Concat terminal = bars_of terminal
operator_of l.Sum terminal = sum_of terminal
operator_of l.Product terminal = product_of terminal
operator_of _ terminal = None

abbrev pub comparison_of : Mark → Option CmpOp
comparison_of m.Equal = Some cmp.Eq
comparison_of m.Differ = Some cmp.Ne
comparison_of m.Less = Some cmp.Lt
comparison_of m.LessEqual = Some cmp.Le
comparison_of m.Greater = Some cmp.Gt
comparison_of m.GreaterEqual = Some cmp.Ge
comparison_of _ = None

abbrev pub test_of : Mark → Option IsTest
test_of m.Null = Some tests.Null
test_of m.True = Some tests.True
test_of m.False = Some tests.False
test_of _ = None

-- the literals that are words
abbrev pub literal_of : Mark → Option Expr
literal_of m.True = Some (e.Bool true)
literal_of m.False = Some (e.Bool false)
literal_of m.Null = Some e.Null
literal_of _ = None

-- the reserved words that are called as functions
abbrev pub called : Mark → Option (List ℕ)
called m.Coalesce = Some (codes "coalesce")
called m.Greatest = Some (codes "greatest")
called m.Least = Some (codes "least")
called _ = None

unfoldable pub type_named : List ℕ → Option Ty
type_named n =
    if bytes_eq n (codes "bigint") || bytes_eq n (codes "int8") then Some types.Bigint
    else (if bytes_eq n (codes "boolean") || bytes_eq n (codes "bool") then Some types.Boolean
    else (if bytes_eq n (codes "text") then Some types.Text
    else (if (bytes_eq n (codes "integer") || bytes_eq n (codes "int")) || bytes_eq n (codes "int4")
    then Some types.Integer else None)))

-- the level of the operands of a level, where it isn't the last one
abbrev pub operands : Level → Level
operands l.Or = l.And
operands l.And = l.Not
operands l.Not = l.Is
operands l.Is = l.Compare
operands l.Compare = l.Range
operands l.Range = l.Concat
operands l.Concat = l.Sum
operands l.Sum = l.Product
operands l.Product = l.Sign
operands l.Sign = l.Cast
operands _ = l.Primary

-- the levels whose operands form a chain
abbrev pub IsChain : Level → Type 0
IsChain l.Or = Unit {0}
IsChain l.And = Unit {0}
IsChain l.Concat = Unit {0}
IsChain l.Sum = Unit {0}
IsChain l.Product = Unit {0}
IsChain _ = ⊥

-- one operand alone is no chain
abbrev pub chained : Expr → List (ChainOp × Expr) → Expr
chained first [] = first
chained first (x ∷ xs) = e.Chain first (x ∷ xs)

-- ---- what may be written

-- the minus, where it is written
abbrev pub perhaps : Bool → Terminal → List Terminal → List Terminal
perhaps true s ts = s ∷ ts
perhaps false s ts = ts

-- `public.`, where it is written
abbrev pub schema_qualified : Bool → List Terminal → List Terminal
schema_qualified true ts = name (codes "public") ∷ mark m.Dot ∷ ts
schema_qualified false ts = ts

abbrev pub not_null : Bool → List Terminal → List Terminal
not_null true ts = mark m.Not ∷ mark m.Null ∷ ts
not_null false ts = ts

-- ---- conditions on trees

-- an integer literal alone, which is no key
abbrev pub is_number : Expr → Bool
is_number (b.Int n) = true
is_number _ = false

abbrev pub is_empty : {A : Type 0} → List A → Bool
is_empty [] = true
is_empty (x ∷ xs) = false

abbrev pub is_none : {A : Type 0} → Option A → Bool
is_none None = true
is_none (Some x) = false

-- without ORDER BY and LIMIT
abbrev pub is_plain : Select → Bool
is_plain s = is_empty (out-Select s).order && is_none (out-Select s).limit

-- ORDER BY and LIMIT don't stand in a query of several selects.
abbrev pub may_join : List Select → Bool
may_join [] = false
may_join (s ∷ []) = true
may_join (s ∷ t ∷ ss) = list_all is_plain (s ∷ t ∷ ss)

-- ---- the grammar

-- what is read
pub data Sort : Type 0 where
  at : Level → Sort
  -- the operators behind the first operand of a chain, each with its operand
  links : Level → Sort
  -- expressions with commas between them
  list : Sort
  -- WHEN and THEN
  arms : Sort
  item : Sort
  items : Sort
  from_item : Sort
  from_items : Sort
  from_clause : Sort
  where_clause : Sort
  key : Sort
  keys : Sort
  order_clause : Sort
  limit_clause : Sort
  select : Sort
  -- selects with UNION ALL between them
  selects : Sort
  -- a query inside a query
  query : Sort
  names : Sort
  -- WITH RECURSIVE
  recursive : Sort
  -- a whole query file
  file : Sort
  column : Sort
  columns : Sort
  -- the tables of a schema
  tables : Sort

abbrev pub Tree : Sort → Type 0
Tree (at level) = Expr
Tree (links level) = List (ChainOp × Expr)
Tree list = List Expr
Tree arms = List (Expr × Expr)
Tree item = Item
Tree items = List Item
Tree from_item = FromItem
Tree from_items = List FromItem
Tree from_clause = List FromItem
Tree where_clause = Option Expr
Tree key = Key
Tree keys = List Key
Tree order_clause = List Key
Tree limit_clause = Option Expr
Tree select = Select
Tree selects = List Select
Tree query = Query
Tree names = List (List ℕ)
Tree recursive = Recursive
Tree file = Query
Tree column = ColumnSchema
Tree columns = List ColumnSchema
Tree tables = List TableSchema

-- As this sort, the terminals of the first list up to the second list read as the tree.
pub data Reads : (n : Sort) → List Terminal → Tree n → List Terminal → Type 0 where
  -- and {OR and}, and likewise for AND, `||`, `+ -` and `* / %`
  chain : {level : Level} {ts middle rest : List Terminal} {first : Expr} {more : List (ChainOp × Expr)}
      → IsChain level → Reads (at (operands level)) ts first middle
      → Reads (links level) middle more rest → Reads (at level) ts (chained first more) rest
  no_link : {level : Level} {ts : List Terminal} → Reads (links level) ts [] ts
  link : {level : Level} {ts middle rest : List Terminal} {o : ChainOp} {x : Expr} {more : List (ChainOp × Expr)} (terminal : Mark)
      → operator_of level terminal ≡ Some o → Reads (at (operands level)) ts x middle → Reads (links level) middle more rest
      → Reads (links level) (mark terminal ∷ ts) ((o, x) ∷ more) rest
  -- [NOT] is
  affirmed : {ts rest : List Terminal} {x : Expr} → Reads (at l.Is) ts x rest → Reads (at l.Not) ts x rest
  negated : {ts rest : List Terminal} {x : Expr} → Reads (at l.Is) ts x rest → Reads (at l.Not) (mark m.Not ∷ ts) (e.Not x) rest
  -- cmp [IS [NOT] (NULL | TRUE | FALSE)]
  untested : {ts rest : List Terminal} {x : Expr} → Reads (at l.Compare) ts x rest → Reads (at l.Is) ts x rest
  tested : {ts rest : List Terminal} {x : Expr} {n : Bool} {test : IsTest} (terminal : Mark)
      → test_of terminal ≡ Some test → Reads (at l.Compare) ts x (mark m.Is ∷ perhaps n (mark m.Not) (mark terminal ∷ rest))
      → Reads (at l.Is) ts (e.Is x test n) rest
  -- range [(= | <> | < | <= | > | >=) range]
  uncompared : {ts rest : List Terminal} {x : Expr} → Reads (at l.Range) ts x rest → Reads (at l.Compare) ts x rest
  compared : {ts after rest : List Terminal} {x y : Expr} {o : CmpOp} (terminal : Mark)
      → comparison_of terminal ≡ Some o → Reads (at l.Range) ts x (mark terminal ∷ after) → Reads (at l.Range) after y rest
      → Reads (at l.Compare) ts (e.Compare o x y) rest
  -- cat [[NOT] BETWEEN cat AND cat | [NOT] IN (list)]
  unranged : {ts rest : List Terminal} {x : Expr} → Reads (at l.Concat) ts x rest → Reads (at l.Range) ts x rest
  between : {ts after middle rest : List Terminal} {x low high : Expr} {n : Bool}
      → Reads (at l.Concat) ts x (perhaps n (mark m.Not) (mark m.Between ∷ after)) → Reads (at l.Concat) after low (mark m.And ∷ middle)
      → Reads (at l.Concat) middle high rest
      → Reads (at l.Range) ts (e.Between n x low high) rest
  one_of : {ts after rest : List Terminal} {x : Expr} {xs : List Expr} {n : Bool}
      → Reads (at l.Concat) ts x (perhaps n (mark m.Not) (mark m.In ∷ mark m.Open ∷ after))
      → Reads list after xs (mark m.Close ∷ rest) → Reads (at l.Range) ts (e.OneOf n x xs) rest
  -- - 9223372036854775808 | [-] post
  unsigned : {ts rest : List Terminal} {x : Expr} → Reads (at l.Cast) ts x rest → Reads (at l.Sign) ts x rest
  signed : {ts rest : List Terminal} {x : Expr} → Reads (at l.Cast) ts x rest → Reads (at l.Sign) (mark m.Minus ∷ ts) (e.Neg x) rest
  least : {rest : List Terminal} → Reads (at l.Sign) (mark m.Minus ∷ integer (2 ^ 63) ∷ rest) (e.Int (negsuc (2 ^ 63 - 1))) rest
  -- prim [:: type [:: type]]
  uncast : {ts rest : List Terminal} {x : Expr} → Reads (at l.Primary) ts x rest → Reads (at l.Cast) ts x rest
  cast_once : {ts rest : List Terminal} {x : Expr} {ty : Ty} (t : List ℕ) → type_named t ≡ Some ty
      → Reads (at l.Primary) ts x (mark m.Colons ∷ name t ∷ rest)
      → Reads (at l.Cast) ts (e.Cast x ty) rest
  cast_twice : {ts rest : List Terminal} {x : Expr} {first second : Ty} (t u : List ℕ)
      → type_named t ≡ Some first → type_named u ≡ Some second → Reads (at l.Primary) ts x (mark m.Colons ∷ name t ∷ mark m.Colons ∷ name u ∷ rest)
      → Reads (at l.Cast) ts (e.Cast (e.Cast x first) second) rest
  -- what stands alone
  number : {rest : List Terminal} {n : ℕ} → n < 2 ^ 63 → Reads (at l.Primary) (integer n ∷ rest) (e.Int (pos n)) rest
  text : {rest : List Terminal} {t : List ℕ} → Reads (at l.Primary) (string t ∷ rest) (e.Str t) rest
  literal : {rest : List Terminal} {x : Expr} (terminal : Mark) → literal_of terminal ≡ Some x → Reads (at l.Primary) (mark terminal ∷ rest) x rest
  named : {rest : List Terminal} {n : List ℕ} → Reads (at l.Primary) (name n ∷ rest) (e.Named n) rest
  qualified : {rest : List Terminal} {n c : List ℕ} → Reads (at l.Primary) (name n ∷ mark m.Dot ∷ name c ∷ rest) (e.Dotted n c) rest
  typed_parameter : {rest : List Terminal} {i : ℕ} {ty : Ty} (t : List ℕ) → type_named t ≡ Some ty
      → Reads (at l.Primary) (mark m.Cast ∷ mark m.Open ∷ parameter i ∷ mark m.As ∷ name t ∷ mark m.Close ∷ rest) (e.Param i ty) rest
  short_parameter : {rest : List Terminal} {i : ℕ} {ty : Ty} (t : List ℕ) → type_named t ≡ Some ty
      → Reads (at l.Primary) (parameter i ∷ mark m.Colons ∷ name t ∷ rest) (e.Param i ty) rest
  parentheses : {ts rest : List Terminal} {x : Expr} → Reads (at l.Or) ts x (mark m.Close ∷ rest) → Reads (at l.Primary) (mark m.Open ∷ ts) x rest
  scalar : {ts rest : List Terminal} {q : Query} → Reads query ts q (mark m.Close ∷ rest) → Reads (at l.Primary) (mark m.Open ∷ ts) (e.Scalar q) rest
  cast : {ts rest : List Terminal} {x : Expr} {ty : Ty} (t : List ℕ) → type_named t ≡ Some ty
      → Reads (at l.Or) ts x (mark m.As ∷ name t ∷ mark m.Close ∷ rest)
      → Reads (at l.Primary) (mark m.Cast ∷ mark m.Open ∷ ts) (e.Cast x ty) rest
  exists : {ts rest : List Terminal} {q : Query} → Reads query ts q (mark m.Close ∷ rest)
      → Reads (at l.Primary) (mark m.Exists ∷ mark m.Open ∷ ts) (e.Exists q) rest
  cases : {ts rest : List Terminal} {a : Expr × Expr} {more : List (Expr × Expr)} → Reads arms ts (a ∷ more) (mark m.End ∷ rest)
      → Reads (at l.Primary) (mark m.Case ∷ ts) (e.Cases (a ∷ more) None) rest
  cases_else : {ts middle rest : List Terminal} {a : Expr × Expr} {more : List (Expr × Expr)} {x : Expr}
      → Reads arms ts (a ∷ more) (mark m.Else ∷ middle) → Reads (at l.Or) middle x (mark m.End ∷ rest)
      → Reads (at l.Primary) (mark m.Case ∷ ts) (e.Cases (a ∷ more) (Some x)) rest
  call_word : {ts rest : List Terminal} {n : List ℕ} {xs : List Expr} (terminal : Mark)
      → called terminal ≡ Some n → Reads list ts xs (mark m.Close ∷ rest)
      → Reads (at l.Primary) (mark terminal ∷ mark m.Open ∷ ts) (e.Call n xs) rest
  count_rows : {rest : List Terminal} → Reads (at l.Primary) (name (codes "count") ∷ mark m.Open ∷ mark m.Star ∷ mark m.Close ∷ rest) e.CountRows rest
  call_empty : {rest : List Terminal} {n : List ℕ} → Reads (at l.Primary) (name n ∷ mark m.Open ∷ mark m.Close ∷ rest) (e.Call n []) rest
  call : {ts rest : List Terminal} {n : List ℕ} {xs : List Expr} → Reads list ts xs (mark m.Close ∷ rest)
      → Reads (at l.Primary) (name n ∷ mark m.Open ∷ ts) (e.Call n xs) rest
  -- expr {, expr}
  last : {ts rest : List Terminal} {x : Expr} → Reads (at l.Or) ts x rest → Reads list ts (x ∷ []) rest
  another : {ts middle rest : List Terminal} {x : Expr} {xs : List Expr} → Reads (at l.Or) ts x (mark m.Comma ∷ middle) → Reads list middle xs rest
      → Reads list ts (x ∷ xs) rest
  -- {WHEN expr THEN expr}
  no_arm : {ts : List Terminal} → Reads arms ts [] ts
  arm : {ts middle after rest : List Terminal} {test value : Expr} {more : List (Expr × Expr)}
      → Reads (at l.Or) ts test (mark m.Then ∷ middle) → Reads (at l.Or) middle value after → Reads arms after more rest
      → Reads arms (mark m.When ∷ ts) ((test, value) ∷ more) rest
  -- expr [AS name]
  item_alone : {ts rest : List Terminal} {x : Expr} → Reads (at l.Or) ts x rest → Reads item ts (roll-Item (record { expr = x; alias = None })) rest
  item_as : {ts rest : List Terminal} {x : Expr} {n : List ℕ} → Reads (at l.Or) ts x (mark m.As ∷ name n ∷ rest)
      → Reads item ts (roll-Item (record { expr = x; alias = Some n })) rest
  last_item : {ts rest : List Terminal} {x : Item} → Reads item ts x rest → Reads items ts (x ∷ []) rest
  another_item : {ts middle rest : List Terminal} {x : Item} {xs : List Item} → Reads item ts x (mark m.Comma ∷ middle) → Reads items middle xs rest
      → Reads items ts (x ∷ xs) rest
  -- [public .] name [[AS] name] | [LATERAL] ( query ) [AS] name [( name {, name} )]
  table_alone : {rest : List Terminal} {n : List ℕ} (q : Bool)
      → Reads from_item (schema_qualified q (name n ∷ rest)) (roll-FromItem (record { source = source.Table n; alias = n; columns = [] })) rest
  table_as : {rest : List Terminal} {n a : List ℕ} (q w : Bool)
      → Reads from_item (schema_qualified q (name n ∷ perhaps w (mark m.As) (name a ∷ rest)))
      (roll-FromItem (record { source = source.Table n; alias = a; columns = [] })) rest
  sub_alone : {ts rest : List Terminal} {q : Query} {a : List ℕ} {v : Bool} (w : Bool)
      → Reads query ts q (mark m.Close ∷ perhaps w (mark m.As) (name a ∷ rest))
      → Reads from_item (perhaps v (mark m.Lateral) (mark m.Open ∷ ts))
      (roll-FromItem (record { source = source.Sub q v; alias = a; columns = [] })) rest
  sub_columns : {ts after rest : List Terminal} {q : Query} {a : List ℕ} {ns : List (List ℕ)} {v : Bool} (w : Bool)
      → Reads query ts q (mark m.Close ∷ perhaps w (mark m.As) (name a ∷ mark m.Open ∷ after)) → Reads names after ns (mark m.Close ∷ rest)
      → Reads from_item (perhaps v (mark m.Lateral) (mark m.Open ∷ ts))
      (roll-FromItem (record { source = source.Sub q v; alias = a; columns = ns })) rest
  last_from : {ts rest : List Terminal} {x : FromItem} → Reads from_item ts x rest → Reads from_items ts (x ∷ []) rest
  another_from : {ts middle rest : List Terminal} {x : FromItem} {xs : List FromItem} → Reads from_item ts x (mark m.Comma ∷ middle)
      → Reads from_items middle xs rest → Reads from_items ts (x ∷ xs) rest
  -- name {, name}
  last_name : {rest : List Terminal} {n : List ℕ} → Reads names (name n ∷ rest) (n ∷ []) rest
  another_name : {middle rest : List Terminal} {n : List ℕ} {ns : List (List ℕ)} → Reads names middle ns rest
      → Reads names (name n ∷ mark m.Comma ∷ middle) (n ∷ ns) rest
  -- expr [ASC | DESC]
  key_alone : {ts rest : List Terminal} {x : Expr} → is_number x ≡ false → Reads (at l.Or) ts x rest
      → Reads key ts (roll-Key (record { expr = x; descending = false })) rest
  ascending : {ts rest : List Terminal} {x : Expr} → is_number x ≡ false → Reads (at l.Or) ts x (mark m.Asc ∷ rest)
      → Reads key ts (roll-Key (record { expr = x; descending = false })) rest
  descending : {ts rest : List Terminal} {x : Expr} → is_number x ≡ false → Reads (at l.Or) ts x (mark m.Desc ∷ rest)
      → Reads key ts (roll-Key (record { expr = x; descending = true })) rest
  last_key : {ts rest : List Terminal} {x : Key} → Reads key ts x rest → Reads keys ts (x ∷ []) rest
  another_key : {ts middle rest : List Terminal} {x : Key} {xs : List Key} → Reads key ts x (mark m.Comma ∷ middle) → Reads keys middle xs rest
      → Reads keys ts (x ∷ xs) rest
  -- SELECT item {, item} [FROM from {, from}] [WHERE expr] [ORDER BY key {, key}] [LIMIT expr]
  no_from : {ts : List Terminal} → Reads from_clause ts [] ts
  from : {ts rest : List Terminal} {xs : List FromItem} → Reads from_items ts xs rest → Reads from_clause (mark m.From ∷ ts) xs rest
  no_where : {ts : List Terminal} → Reads where_clause ts None ts
  where_of : {ts rest : List Terminal} {x : Expr} → Reads (at l.Or) ts x rest → Reads where_clause (mark m.Where ∷ ts) (Some x) rest
  no_order : {ts : List Terminal} → Reads order_clause ts [] ts
  order_by : {ts rest : List Terminal} {xs : List Key} → Reads keys ts xs rest → Reads order_clause (mark m.Order ∷ mark m.By ∷ ts) xs rest
  no_limit : {ts : List Terminal} → Reads limit_clause ts None ts
  limit_of : {ts rest : List Terminal} {x : Expr} → Reads (at l.Or) ts x rest → Reads limit_clause (mark m.Limit ∷ ts) (Some x) rest
  select_of : {ts a b c d rest : List Terminal} {xs : List Item} {fs : List FromItem} {w : Option Expr} {ks : List Key} {n : Option Expr}
      → Reads items ts xs a → Reads from_clause a fs b → Reads where_clause b w c → Reads order_clause c ks d → Reads limit_clause d n rest
      → Reads select (mark m.Select ∷ ts) (roll-Select (record { list = xs; from = fs; filter = w; order = ks; limit = n })) rest
  -- select {UNION ALL select}
  last_select : {ts rest : List Terminal} {s : Select} → Reads select ts s rest → Reads selects ts (s ∷ []) rest
  another_select : {ts middle rest : List Terminal} {s : Select} {ss : List Select} → Reads select ts s (mark m.Union ∷ mark m.All ∷ middle)
      → Reads selects middle ss rest → Reads selects ts (s ∷ ss) rest
  query_of : {ts rest : List Terminal} {ss : List Select} → may_join ss ≡ true → Reads selects ts ss rest
      → Reads query ts (roll-Query (record { recursive = None; selects = ss })) rest
  -- WITH RECURSIVE name ( name {, name} ) AS ( select {UNION ALL select} UNION ALL select ): the
  -- last one is the second term
  recursive_of : {ts after rest : List Terminal} {n : List ℕ} {ns : List (List ℕ)} {s : Select} (ss : List Select) (second : Select)
      → Reads names ts ns (mark m.Close ∷ mark m.As ∷ mark m.Open ∷ after) → Reads selects after (s ∷ (ss ++ second ∷ [])) (mark m.Close ∷ rest)
      → Reads recursive (mark m.With ∷ mark m.Recursive ∷ name n ∷ mark m.Open ∷ ts)
      (roll-Recursive (record { name = n; columns = ns; first = s ∷ ss; second = second })) rest
  -- [WITH ..] query [;]
  plain_file : {ts rest : List Terminal} {q : Query} (w : Bool) → Reads query ts q (perhaps w (mark m.Semicolon) rest) → Reads file ts q rest
  with_file : {ts middle rest : List Terminal} {r : Recursive} {ss : List Select} (w : Bool) → may_join ss ≡ true → Reads recursive ts r middle
      → Reads selects middle ss (perhaps w (mark m.Semicolon) rest)
      → Reads file ts (roll-Query (record { recursive = Some r; selects = ss })) rest
  -- name type [NOT NULL]
  column_of : {rest : List Terminal} {n : List ℕ} {ty : Ty} {v : Bool} (t : List ℕ) → type_named t ≡ Some ty
      → Reads column (name n ∷ name t ∷ not_null v rest) (record { name = n; ty = ty; not_null = v }) rest
  last_column : {ts rest : List Terminal} {c : ColumnSchema} → Reads column ts c rest → Reads columns ts (c ∷ []) rest
  another_column : {ts middle rest : List Terminal} {c : ColumnSchema} {cs : List ColumnSchema} → Reads column ts c (mark m.Comma ∷ middle)
      → Reads columns middle cs rest → Reads columns ts (c ∷ cs) rest
  -- {CREATE TABLE [public .] name ( column {, column} ) ;}
  no_table : {ts : List Terminal} → Reads tables ts [] ts
  table : {ts middle rest : List Terminal} {n : List ℕ} {cs : List ColumnSchema} {more : List TableSchema} (q : Bool)
      → Reads columns ts cs (mark m.Close ∷ mark m.Semicolon ∷ middle) → Reads tables middle more rest
      → Reads tables (mark m.Create ∷ mark m.Table ∷ schema_qualified q (name n ∷ mark m.Open ∷ ts)) (record { name = n; columns = cs } ∷ more) rest

-- ---- what can't continue a sort

-- How tight the levels are.
abbrev pub rank : Level → ℕ
rank l.Or = 21
rank l.And = 22
rank l.Not = 23
rank l.Is = 24
rank l.Compare = 25
rank l.Range = 26
rank l.Concat = 27
rank l.Sum = 28
rank l.Product = 29
rank l.Sign = 30
rank l.Cast = 31
rank l.Primary = 32

abbrev pub rank_of : Sort → ℕ
rank_of (at level) = rank level
rank_of (links level) = rank level
rank_of item = 15
rank_of from_item = 15
rank_of key = 15
rank_of column = 15
rank_of list = 10
rank_of arms = 10
rank_of items = 10
rank_of from_items = 10
rank_of keys = 10
rank_of names = 10
rank_of columns = 10
rank_of from_clause = 9
rank_of where_clause = 8
rank_of order_clause = 7
rank_of limit_clause = 6
rank_of select = 6
rank_of selects = 5
rank_of query = 5
rank_of recursive = 5
rank_of file = 4
rank_of tables = 3

-- The tightest sort that the mark can continue, and 0 where there is none. From `Or` on these are
-- the tokens that continue an expression.
abbrev pub mark_binds : Mark → ℕ
mark_binds m.Dot = 32
mark_binds m.Open = 32
mark_binds m.Colons = 31
mark_binds m.Star = 29
mark_binds m.Slash = 29
mark_binds m.Percent = 29
mark_binds m.Plus = 28
mark_binds m.Minus = 28
mark_binds m.Bars = 27
mark_binds m.Between = 26
mark_binds m.In = 26
mark_binds m.Not = 26
mark_binds m.Equal = 25
mark_binds m.Differ = 25
mark_binds m.Less = 25
mark_binds m.LessEqual = 25
mark_binds m.Greater = 25
mark_binds m.GreaterEqual = 25
mark_binds m.Is = 24
mark_binds m.And = 22
mark_binds m.Or = 21
mark_binds m.As = 15
mark_binds m.Asc = 15
mark_binds m.Desc = 15
mark_binds m.Comma = 10
mark_binds m.When = 10
mark_binds m.From = 9
mark_binds m.Where = 8
mark_binds m.Order = 7
mark_binds m.Limit = 6
mark_binds m.Union = 5
mark_binds m.Semicolon = 4
mark_binds m.Create = 3
mark_binds _ = 0

abbrev pub binds : Terminal → ℕ
binds (mark m) = mark_binds m
-- a name stands as an alias
binds (name n) = 15
binds _ = 0

abbrev pub StopsAt : ℕ → List Terminal → Type 0
StopsAt r [] = Unit {0}
StopsAt r (s ∷ ts) = binds s < r

-- what stands next can't continue the sort
abbrev pub Stops : Sort → List Terminal → Type 0
Stops n = StopsAt (rank_of n)
