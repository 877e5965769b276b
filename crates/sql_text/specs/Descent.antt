-- How the reader of expressions, queries and schemas descends: by what stands next, and never back.
use Rattle.std.specs.Prelude.{
  ℕ,
  ◌^◌,
  ◌-◌,
  pos,
  negsuc,
  nat_lt,
  Bool,
  true,
  false,
  if◌then◌else◌,
  List,
  [],
  ◌∷◌,
  Option,
  Some,
  None,
  codes,
  bytes_eq,
}
use Rattle.away_grammar.specs.declared.grammar.Mark.{Mark}
use Rattle.away_grammar.specs.declared.grammar.Mark.TheVariants as m
use Rattle.away_grammar.specs.declared.grammar.Level.{Level}
use Rattle.away_grammar.specs.declared.grammar.Level.TheVariants as l
use Rattle.away_values.specs.declared.types.Ty.{Ty}
use Rattle.away_trees.specs.declared.queries.Expr.{Expr}
use Rattle.away_trees.specs.declared.queries.Expr.TheVariants as e
use Rattle.away_trees.specs.declared.queries.Source.{Source}
use Rattle.away_trees.specs.declared.queries.Source.TheVariants as source
use Rattle.away_trees.specs.declared.queries.Item.{Item}
use Rattle.away_trees.specs.declared.queries.FromItem.{FromItem}
use Rattle.away_trees.specs.declared.queries.Key.{Key}
use Rattle.away_trees.specs.declared.queries.Select.{Select}
use Rattle.away_trees.specs.declared.queries.Recursive.{Recursive}
use Rattle.away_trees.specs.declared.queries.Query.{Query}
use Rattle.away_trees.specs.declared.queries.Expr.TheViews.{
  roll-Item,
  roll-FromItem,
  roll-Key,
  roll-Select,
  roll-Recursive,
  roll-Query,
}
use Rattle.away_grammar.specs.Terminals.{Terminal, mark, name, integer, string, parameter}
use Rattle.away_grammar.specs.Grammar.{
  Sort,
  at,
  links,
  list,
  arms,
  item,
  items,
  from_item,
  from_items,
  from_clause,
  where_clause,
}
use Rattle.away_grammar.specs.Grammar.{
  key,
  keys,
  order_clause,
  limit_clause,
  select,
  selects,
  query,
  names,
  recursive,
  file,
}
use Rattle.away_grammar.specs.Grammar.{
  column,
  columns,
  tables,
  Tree,
  literal_of,
  called,
  operands,
  chained,
  is_number,
  may_join,
}
use Rattle.sql_text.specs.Plans.{
  Plan,
  done,
  fail,
  take,
  eat,
  look,
  read,
  with,
  want,
  perhaps_a,
  expect,
}
use Rattle.sql_text.specs.TerminalKinds.{
  operator_in,
  comparison_in,
  test_in,
  name_in,
  type_in,
  parameter_in,
  is_least,
  is_select,
  is_with,
  is_typed_parameter,
}

-- a name, and then by it
abbrev pub a_name : {S : Type 0} {T : S → Type 0} {n : S} → (List ℕ → Plan T n) → Plan T n
a_name = want name_in

abbrev pub a_type : {S : Type 0} {T : S → Type 0} {n : S} → (Ty → Plan T n) → Plan T n
a_type = want type_in

-- ---- expressions

abbrev pub chain_plan : (level : Level) → Plan Tree (at level)
chain_plan level = read (at (operands level)) (λ x. read (links level) (λ xs. done (chained x xs)))

abbrev pub links_plan : (level : Level) → Plan Tree (links level)
links_plan level = perhaps_a (operator_in level) (λ o. read (at (operands level)) (λ x. read (links level) (λ xs. done ((o, x) ∷ xs)))) (done [])

abbrev pub not_plan : Plan Tree (at l.Not)
not_plan = eat m.Not (read (at l.Is) (λ x. done (e.Not x))) (read (at l.Is) (λ x. done x))

abbrev pub test_plan : Expr → Bool → Plan Tree (at l.Is)
test_plan x n = want test_in (λ t. done (e.Is x t n))

-- behind IS
abbrev pub tested_plan : Expr → Plan Tree (at l.Is)
tested_plan x = eat m.Not (test_plan x true) (test_plan x false)

abbrev pub is_plan : Plan Tree (at l.Is)
is_plan = read (at l.Compare) (λ x. eat m.Is (tested_plan x) (done x))

abbrev pub compare_plan : Plan Tree (at l.Compare)
compare_plan = read (at l.Range) (λ x. perhaps_a comparison_in (λ o. read (at l.Range) (λ y. done (e.Compare o x y))) (done x))

-- one or more expressions in parentheses
abbrev pub listed : {n : Sort} → (List Expr → Plan Tree n) → Plan Tree n
listed f = expect m.Open (read list (λ xs. expect m.Close (f xs)))

-- where neither BETWEEN nor IN stands behind an operand, or behind the NOT after it
abbrev pub unranged_plan : Expr → Bool → Plan Tree (at l.Range)
unranged_plan x true = fail
unranged_plan x false = done x

abbrev pub between_plan : Expr → Bool → Plan Tree (at l.Range)
between_plan x n = read (at l.Concat) (λ low. expect m.And (read (at l.Concat) (λ high. done (e.Between n x low high))))

abbrev pub within_plan : Expr → Bool → Plan Tree (at l.Range)
within_plan x n = eat m.Between (between_plan x n) (eat m.In (listed (λ xs. done (e.OneOf n x xs))) (unranged_plan x n))

abbrev pub range_plan : Plan Tree (at l.Range)
range_plan = read (at l.Concat) (λ x. eat m.Not (within_plan x true) (within_plan x false))

abbrev pub sign_plan : Plan Tree (at l.Sign)
sign_plan =
    eat m.Minus
    (look is_least (take (λ s. done (e.Int (negsuc (2 ^ 63 - 1))))) (read (at l.Cast) (λ x. done (e.Neg x))))
    (read (at l.Cast) (λ x. done x))

-- behind `::`
abbrev pub types_plan : Expr → Plan Tree (at l.Cast)
types_plan x = a_type (λ t. eat m.Colons (a_type (λ u. done (e.Cast (e.Cast x t) u))) (done (e.Cast x t)))

abbrev pub cast_plan : Plan Tree (at l.Cast)
cast_plan = read (at l.Primary) (λ x. eat m.Colons (types_plan x) (done x))

-- behind a name, `(` and `*`
abbrev pub rows_plan : List ℕ → Plan Tree (at l.Primary)
rows_plan n = if bytes_eq n (codes "count") then expect m.Close (done e.CountRows) else fail

-- behind a name
abbrev pub named_plan : List ℕ → Plan Tree (at l.Primary)
named_plan n =
    eat m.Dot (a_name (λ c. done (e.Dotted n c)))
    (eat m.Open
    (eat m.Star (rows_plan n)
    (eat m.Close (done (e.Call n [])) (read list (λ xs. expect m.Close (done (e.Call n xs))))))
    (done (e.Named n)))

-- behind COALESCE, GREATEST and LEAST
abbrev pub arguments_plan : List ℕ → Plan Tree (at l.Primary)
arguments_plan n = listed (λ xs. done (e.Call n xs))

-- behind `(`
abbrev pub inside_plan : Plan Tree (at l.Primary)
inside_plan =
    look is_select (read query (λ q. expect m.Close (done (e.Scalar q)))) (read (at l.Or) (λ x. expect m.Close (done x)))

-- a parameter, AS, a type and `)`
abbrev pub typed_parameter_plan : Plan Tree (at l.Primary)
typed_parameter_plan = want parameter_in (λ i. expect m.As (a_type (λ t. expect m.Close (done (e.Param i t)))))

-- behind CAST
abbrev pub cast_call_plan : Plan Tree (at l.Primary)
cast_call_plan =
    expect m.Open
    (look is_typed_parameter typed_parameter_plan
    (read (at l.Or) (λ x. expect m.As (a_type (λ t. expect m.Close (done (e.Cast x t)))))))

abbrev pub exists_plan : Plan Tree (at l.Primary)
exists_plan = expect m.Open (read query (λ q. expect m.Close (done (e.Exists q))))

-- behind the arms of CASE
abbrev pub cases_with : List (Expr × Expr) → Plan Tree (at l.Primary)
cases_with [] = fail
cases_with (a ∷ more) = eat m.Else
    (read (at l.Or) (λ x. expect m.End (done (e.Cases (a ∷ more) (Some x)))))
    (expect m.End (done (e.Cases (a ∷ more) None)))

-- behind CASE
abbrev pub case_plan : Plan Tree (at l.Primary)
case_plan = read arms cases_with

abbrev pub parameter_plan : ℕ → Plan Tree (at l.Primary)
parameter_plan i = expect m.Colons (a_type (λ t. done (e.Param i t)))

abbrev pub primary_with : Option Expr → Option (List ℕ) → Plan Tree (at l.Primary)
primary_with (Some x) n = done x
primary_with None n = with arguments_plan n

-- behind a reserved word that is a literal or is called
abbrev pub word_plan : Mark → Plan Tree (at l.Primary)
word_plan terminal = primary_with (literal_of terminal) (called terminal)

-- behind a mark
abbrev pub marked_plan : Mark → Plan Tree (at l.Primary)
marked_plan m.Open = inside_plan
marked_plan m.Cast = cast_call_plan
marked_plan m.Exists = exists_plan
marked_plan m.Case = case_plan
marked_plan terminal = word_plan terminal

abbrev pub primary_by : Option Terminal → Plan Tree (at l.Primary)
primary_by None = fail
primary_by (Some (integer n)) = if nat_lt n (2 ^ 63) then done (e.Int (pos n)) else fail
primary_by (Some (string t)) = done (e.Str t)
primary_by (Some (name n)) = named_plan n
primary_by (Some (parameter i)) = parameter_plan i
primary_by (Some (mark terminal)) = marked_plan terminal
primary_by _ = fail

abbrev pub primary_plan : Plan Tree (at l.Primary)
primary_plan = take primary_by

abbrev pub list_plan : Plan Tree list
list_plan = read (at l.Or) (λ x. eat m.Comma (read list (λ xs. done (x ∷ xs))) (done (x ∷ [])))

abbrev pub arms_plan : Plan Tree arms
arms_plan = eat m.When (read (at l.Or) (λ test. expect m.Then (read (at l.Or) (λ value. read arms (λ more. done ((test, value) ∷ more)))))) (done [])

-- ---- queries

abbrev pub item_with : Expr → Option (List ℕ) → Item
item_with x n = roll-Item (record { expr = x; alias = n })

abbrev pub item_plan : Plan Tree item
item_plan = read (at l.Or) (λ x. eat m.As (a_name (λ n. done (item_with x (Some n)))) (done (item_with x None)))

abbrev pub items_plan : Plan Tree items
items_plan = read item (λ x. eat m.Comma (read items (λ xs. done (x ∷ xs))) (done (x ∷ [])))

abbrev pub from_with : Source → List ℕ → List (List ℕ) → FromItem
from_with s a ns = roll-FromItem (record { source = s; alias = a; columns = ns })

-- behind a table's name
abbrev pub table_plan : List ℕ → Plan Tree from_item
table_plan n =
    eat m.As (a_name (λ a. done (from_with (source.Table n) a [])))
    (perhaps_a name_in (λ a. done (from_with (source.Table n) a [])) (done (from_with (source.Table n) n [])))

-- behind the alias of a subquery
abbrev pub columns_plan : Source → List ℕ → Plan Tree from_item
columns_plan s a = eat m.Open (read names (λ ns. expect m.Close (done (from_with s a ns)))) (done (from_with s a []))

-- behind a subquery
abbrev pub alias_plan : Query → Bool → Plan Tree from_item
alias_plan q lateral = eat m.As (a_name (λ a. columns_plan (source.Sub q lateral) a)) (a_name (λ a. columns_plan (source.Sub q lateral) a))

-- behind `(`
abbrev pub sub_plan : Bool → Plan Tree from_item
sub_plan lateral = read query (λ q. expect m.Close (alias_plan q lateral))

-- a name, perhaps behind `public.`
abbrev pub schema_qualified_name : {S : Type 0} {T : S → Type 0} {n : S} → (List ℕ → Plan T n) → Plan T n
schema_qualified_name f = a_name (λ n. if bytes_eq n (codes "public") then eat m.Dot (a_name f) (f n) else f n)

abbrev pub from_item_plan : Plan Tree from_item
from_item_plan = eat m.Lateral (expect m.Open (sub_plan true)) (eat m.Open (sub_plan false) (schema_qualified_name table_plan))

abbrev pub from_items_plan : Plan Tree from_items
from_items_plan = read from_item (λ x. eat m.Comma (read from_items (λ xs. done (x ∷ xs))) (done (x ∷ [])))

abbrev pub from_clause_plan : Plan Tree from_clause
from_clause_plan = eat m.From (read from_items (λ xs. done xs)) (done [])

abbrev pub where_plan : Plan Tree where_clause
where_plan = eat m.Where (read (at l.Or) (λ x. done (Some x))) (done None)

abbrev pub key_with : Expr → Bool → Key
key_with x descending = roll-Key (record { expr = x; descending = descending })

abbrev pub key_plan : Plan Tree key
key_plan =
    read (at l.Or) (λ x. if is_number x then fail else eat m.Desc (done (key_with x true))
    (eat m.Asc (done (key_with x false)) (done (key_with x false))))

abbrev pub keys_plan : Plan Tree keys
keys_plan = read key (λ x. eat m.Comma (read keys (λ xs. done (x ∷ xs))) (done (x ∷ [])))

abbrev pub order_plan : Plan Tree order_clause
order_plan = eat m.Order (expect m.By (read keys (λ xs. done xs))) (done [])

abbrev pub limit_plan : Plan Tree limit_clause
limit_plan = eat m.Limit (read (at l.Or) (λ x. done (Some x))) (done None)

abbrev pub select_with : List Item → List FromItem → Option Expr → List Key → Option Expr → Select
select_with xs fs w ks n = roll-Select (record { list = xs; from = fs; filter = w; order = ks; limit = n })

abbrev pub select_plan : Plan Tree select
select_plan =
    expect m.Select
    (read items (λ xs. read from_clause
    (λ fs. read where_clause (λ w. read order_clause
    (λ ks. read limit_clause (λ n. done (select_with xs fs w ks n)))))))

abbrev pub selects_plan : Plan Tree selects
selects_plan = read select (λ s. eat m.Union (expect m.All (read selects (λ ss. done (s ∷ ss)))) (done (s ∷ [])))

abbrev pub query_with : Option Recursive → List Select → Query
query_with r ss = roll-Query (record { recursive = r; selects = ss })

abbrev pub query_plan : Plan Tree query
query_plan = read selects (λ ss. if may_join ss then done (query_with None ss) else fail)

abbrev pub names_plan : Plan Tree names
names_plan = a_name (λ n. eat m.Comma (read names (λ ns. done (n ∷ ns))) (done (n ∷ [])))

-- The first selects and the last one, where there are two.
abbrev pub put_first : Select → Option (List Select × Select) → Select → Option (List Select × Select)
put_first s None second = Some (s ∷ [], second)
put_first s (Some p) second = Some (s ∷ p.0, p.1)

abbrev pub parted : List Select → Option (List Select × Select)
parted [] = None
parted (s ∷ []) = None
parted (s ∷ t ∷ ss) = put_first s (parted (t ∷ ss)) t

abbrev pub recursive_with : List ℕ → List (List ℕ) → List Select × Select → Recursive
recursive_with n ns p = roll-Recursive (record { name = n; columns = ns; first = p.0; second = p.1 })

abbrev pub recursive_plan : Plan Tree recursive
recursive_plan =
    expect m.With (expect m.Recursive (a_name (λ n. expect m.Open (read names (λ ns. expect m.Close (expect m.As (expect m.Open
    (read selects (λ ss. expect m.Close (with (λ p. done (recursive_with n ns p)) (parted ss)))))))))))

-- a `;` may stand at the end
abbrev pub file_with : Query → Plan Tree file
file_with q = eat m.Semicolon (done q) (done q)

-- a query behind WITH RECURSIVE
abbrev pub recursive_file_plan : Plan Tree file
recursive_file_plan = read recursive (λ r. read selects (λ ss. if may_join ss then file_with (query_with (Some r) ss) else fail))

abbrev pub file_plan : Plan Tree file
file_plan = look is_with recursive_file_plan (read query file_with)

-- ---- schemas

abbrev pub column_plan : Plan Tree column
column_plan =
    a_name (λ n. a_type (λ t.
    eat m.Not (expect m.Null (done (record { name = n; ty = t; not_null = true }))) (done (record { name = n; ty = t; not_null = false }))))

abbrev pub table_columns_plan : Plan Tree columns
table_columns_plan = read column (λ c. eat m.Comma (read columns (λ cs. done (c ∷ cs))) (done (c ∷ [])))

abbrev pub tables_plan : Plan Tree tables
tables_plan =
    eat m.Create
    (expect m.Table (schema_qualified_name (λ n. expect m.Open (read columns (λ cs. expect m.Close (expect m.Semicolon
    (read tables (λ more. done (record { name = n; columns = cs } ∷ more)))))))))
    (done [])

-- ---- all sorts

abbrev pub plan : (n : Sort) → Plan Tree n
plan (at l.Or) = chain_plan l.Or
plan (at l.And) = chain_plan l.And
plan (at l.Not) = not_plan
plan (at l.Is) = is_plan
plan (at l.Compare) = compare_plan
plan (at l.Range) = range_plan
plan (at l.Concat) = chain_plan l.Concat
plan (at l.Sum) = chain_plan l.Sum
plan (at l.Product) = chain_plan l.Product
plan (at l.Sign) = sign_plan
plan (at l.Cast) = cast_plan
plan (at l.Primary) = primary_plan
plan (links level) = links_plan level
plan list = list_plan
plan arms = arms_plan
plan item = item_plan
plan items = items_plan
plan from_item = from_item_plan
plan from_items = from_items_plan
plan from_clause = from_clause_plan
plan where_clause = where_plan
plan key = key_plan
plan keys = keys_plan
plan order_clause = order_plan
plan limit_clause = limit_plan
plan select = select_plan
plan selects = selects_plan
plan query = query_plan
plan names = names_plan
plan recursive = recursive_plan
plan file = file_plan
plan column = column_plan
plan columns = table_columns_plan
plan tables = tables_plan
