-- The one text that a query prints as. First its terminals: each tree prints as the terminals that
-- read as it, with parentheses only where they are needed. Then the text: each terminal is spelled,
-- and the tokens stand with the spacing of printed text.
--
-- Some trees are read from no text: slots, columns, operations of 32 bits, negative integers but
-- the least bigint, chains without links, CASE without arms, lists without an element, a table's
-- columns. What these print as says nothing.
use Rattle.std.specs.Prelude.{
  ℕ,
  suc,
  ℤ,
  pos,
  negsuc,
  nat_lt,
  Bool,
  true,
  false,
  if◌then◌else◌,
  List,
  [],
  ◌∷◌,
  ◌++◌,
  map,
  Option,
  Some,
  None,
  codes,
  bytes_eq,
  encode_utf8_all,
  decimal,
}
use Rattle.away_grammar.specs.declared.grammar.Mark.{Mark}
use Rattle.away_grammar.specs.declared.grammar.Mark.TheVariants as m
use Rattle.away_grammar.specs.declared.grammar.Level.{Level}
use Rattle.away_grammar.specs.declared.grammar.Level.TheVariants as l
use Rattle.away_values.specs.declared.types.Ty.{Ty}
use Rattle.away_values.specs.declared.types.Ty.TheVariants as types
use Rattle.away_values.specs.declared.operators.IntOp.{IntOp}
use Rattle.away_values.specs.declared.operators.IntOp.TheVariants as int
use Rattle.away_values.specs.declared.operators.ChainOp.{ChainOp}
use Rattle.away_values.specs.declared.operators.ChainOp.TheVariants as op
use Rattle.away_values.specs.declared.operators.CmpOp.{CmpOp}
use Rattle.away_values.specs.declared.operators.CmpOp.TheVariants as cmp
use Rattle.away_values.specs.declared.operators.IsTest.{IsTest}
use Rattle.away_values.specs.declared.operators.IsTest.TheVariants as tests
use Rattle.away_trees.specs.declared.queries.Expr.{Expr}
use Rattle.away_trees.specs.declared.queries.Query.{Query}
use Rattle.away_trees.specs.declared.queries.Expr.TheOpen.{
  Expr-F,
  Source-F,
  FromItem-F,
  Item-F,
  Key-F,
  Select-F,
  Recursive-F,
  Query-F,
}
use Rattle.away_trees.specs.declared.queries.Expr.TheOpen as ex
use Rattle.away_trees.specs.Algebra.{Algebra, expr_of, query_of}
use Rattle.away_grammar.specs.declared.tokens.TokenKind.TheVariants.{
  Word,
  Integer,
  Str,
  Parameter,
  Dollar,
  Symbol,
}
use Rattle.away_grammar.specs.Terminals.{Terminal, mark, name, integer, string, parameter, quote}
use Rattle.away_grammar.specs.Spellings.{quoted}
use Rattle.away_grammar.specs.Spacing.{Spelled, written, laid}
use Rattle.away_grammar.specs.Reserved.{calls}
use Rattle.away_grammar.specs.Grammar.{operands, rank, perhaps}

-- ---- operators and types

abbrev int_mark : IntOp → Mark
int_mark int.Add = m.Plus
int_mark int.Sub = m.Minus
int_mark int.Mul = m.Star
int_mark int.Div = m.Slash
int_mark int.Rem = m.Percent

abbrev pub operator_mark : ChainOp → Mark
operator_mark op.Or = m.Or
operator_mark op.And = m.And
operator_mark op.Concat = m.Bars
operator_mark (op.Int o) = int_mark o
operator_mark (op.Small o) = int_mark o

abbrev int_level : IntOp → Level
int_level int.Add = l.Sum
int_level int.Sub = l.Sum
int_level int.Mul = l.Product
int_level int.Div = l.Product
int_level int.Rem = l.Product

-- the level of the chains of an operator
abbrev pub operator_level : ChainOp → Level
operator_level op.Or = l.Or
operator_level op.And = l.And
operator_level op.Concat = l.Concat
operator_level (op.Int o) = int_level o
operator_level (op.Small o) = int_level o

abbrev pub comparison_mark : CmpOp → Mark
comparison_mark cmp.Eq = m.Equal
comparison_mark cmp.Ne = m.Differ
comparison_mark cmp.Lt = m.Less
comparison_mark cmp.Le = m.LessEqual
comparison_mark cmp.Gt = m.Greater
comparison_mark cmp.Ge = m.GreaterEqual

abbrev pub test_mark : IsTest → Mark
test_mark tests.Null = m.Null
test_mark tests.True = m.True
test_mark tests.False = m.False

abbrev pub type_name : Ty → List ℕ
type_name types.Bigint = codes "bigint"
type_name types.Boolean = codes "boolean"
type_name types.Text = codes "text"
type_name types.Integer = codes "integer"

-- COALESCE, GREATEST and LEAST are reserved words; the other functions have names.
unfoldable pub function_terminal : List ℕ → Terminal
function_terminal n =
    if bytes_eq n (codes "coalesce") then mark m.Coalesce
    else (if bytes_eq n (codes "greatest") then mark m.Greatest
    else (if bytes_eq n (codes "least") then mark m.Least else name n))

-- ---- places

-- the terminals of an expression, and the level at which they read as it
pub record Printed : Type 0 where
  pub level : Level
  pub terminals : List Terminal

-- `(` and `)` stand round an expression exactly where its place doesn't read its level: where the
-- place is tighter.
abbrev pub placed : Level → Printed → List Terminal
placed place p = if nat_lt (rank p.level) (rank place) then mark m.Open ∷ (p.terminals ++ mark m.Close ∷ []) else p.terminals

-- what a FROM item takes its rows from: its terminals, and the alias that it has where none is
-- written
pub record Origin : Type 0 where
  pub terminals : List Terminal
  pub own_alias : Option (List ℕ)

-- what needs no parentheses anywhere
abbrev alone : List Terminal → Printed
alone terminals = record { level = l.Primary; terminals = terminals }

-- ---- lists

-- one behind the other, with the same terminals between any two
abbrev pub joined : List Terminal → List (List Terminal) → List Terminal
joined between [] = []
joined between (x ∷ []) = x
joined between (x ∷ y ∷ xs) = x ++ (between ++ joined between (y ∷ xs))

abbrev pub with_commas : List (List Terminal) → List Terminal
with_commas = joined (mark m.Comma ∷ [])

abbrev pub name_alone : List ℕ → List Terminal
name_alone n = name n ∷ []

abbrev pub names_terminals : List (List ℕ) → List Terminal
names_terminals ns = with_commas (map name_alone ns)

abbrev pub list_terminals : List Printed → List Terminal
list_terminals xs = with_commas (map (placed l.Or) xs)

-- ---- expressions

-- the operators of a chain, each with its operand
abbrev pub links_terminals : Level → List (ChainOp × Printed) → List Terminal
links_terminals level [] = []
links_terminals level (x ∷ more) = mark (operator_mark x.0) ∷ (placed (operands level) x.1 ++ links_terminals level more)

-- a chain's level is that of its operators
abbrev pub chain_level : {X : Type 0} → List (ChainOp × X) → Level
chain_level [] = l.Primary
chain_level (x ∷ more) = operator_level x.0

abbrev pub arms_terminals : List (Printed × Printed) → List Terminal
arms_terminals [] = []
arms_terminals (a ∷ more) = mark m.When ∷ (placed l.Or a.0 ++ mark m.Then ∷ (placed l.Or a.1 ++ arms_terminals more))

abbrev pub else_terminals : Option Printed → List Terminal
else_terminals None = []
else_terminals (Some x) = mark m.Else ∷ placed l.Or x

abbrev pub call_terminals : List ℕ → List Printed → List Terminal
call_terminals n [] = name n ∷ mark m.Open ∷ mark m.Close ∷ []
call_terminals n (x ∷ xs) = function_terminal n ∷ mark m.Open ∷ (list_terminals (x ∷ xs) ++ mark m.Close ∷ [])

-- the least bigint has a minus of its own
abbrev int_printed : ℤ → Printed
int_printed (pos n) = alone (integer n ∷ [])
int_printed (negsuc n) = record { level = l.Sign; terminals = mark m.Minus ∷ integer (suc n) ∷ [] }

abbrev bool_mark : Bool → Mark
bool_mark true = m.True
bool_mark false = m.False

abbrev print_expr : Expr-F Printed Origin (List Terminal) (List Terminal) (List Terminal) (List Terminal) (List Terminal) (List Terminal) → Printed
print_expr (ex.Int n) = int_printed n
print_expr (ex.Str t) = alone (string t ∷ [])
print_expr (ex.Bool v) = alone (mark (bool_mark v) ∷ [])
print_expr ex.Null = alone (mark m.Null ∷ [])
print_expr (ex.Named n) = alone (name n ∷ [])
print_expr (ex.Dotted n c) = alone (name n ∷ mark m.Dot ∷ name c ∷ [])
print_expr (ex.Slot i) = alone []
print_expr (ex.Column c) = alone []
print_expr (ex.Param i ty) = alone (mark m.Cast ∷ mark m.Open ∷ parameter i ∷ mark m.As ∷ name (type_name ty) ∷ mark m.Close ∷ [])
print_expr (ex.Neg x) = record { level = l.Sign; terminals = mark m.Minus ∷ placed l.Cast x }
print_expr (ex.NegSmall x) = record { level = l.Sign; terminals = mark m.Minus ∷ placed l.Cast x }
print_expr (ex.Not x) = record { level = l.Not; terminals = mark m.Not ∷ placed l.Is x }
print_expr (ex.Is x test negative) = record {
  level = l.Is;
  terminals = placed l.Compare x ++ mark m.Is
      ∷ perhaps negative (mark m.Not) (mark (test_mark test) ∷ []);
}
print_expr (ex.Chain first more) = record {
  level = chain_level more;
  terminals = placed (operands (chain_level more)) first
      ++ links_terminals (chain_level more) more;
}
print_expr (ex.Compare o x y) = record { level = l.Compare; terminals = placed l.Range x ++ mark (comparison_mark o) ∷ placed l.Range y }
print_expr (ex.Between negative x low high) =
    record {
      level = l.Range;
      terminals = placed l.Concat x ++ perhaps negative (mark m.Not) (mark m.Between
          ∷ (placed l.Concat low ++ mark m.And ∷ placed l.Concat high));
    }
print_expr (ex.OneOf negative x xs) =
    record {
      level = l.Range;
      terminals = placed l.Concat x ++ perhaps negative (mark m.Not) (mark m.In ∷ mark m.Open
          ∷ (list_terminals xs ++ mark m.Close ∷ []));
    }
print_expr (ex.Cast x ty) = alone (mark m.Cast ∷ mark m.Open ∷ (placed l.Or x ++ mark m.As ∷ name (type_name ty) ∷ mark m.Close ∷ []))
print_expr (ex.Cases arms other) = alone (mark m.Case ∷ (arms_terminals arms ++ (else_terminals other ++ mark m.End ∷ [])))
print_expr (ex.Call n xs) = alone (call_terminals n xs)
print_expr ex.CountRows = alone (name (codes "count") ∷ mark m.Open ∷ mark m.Star ∷ mark m.Close ∷ [])
print_expr (ex.Scalar q) = alone (mark m.Open ∷ (q ++ mark m.Close ∷ []))
print_expr (ex.Exists q) = alone (mark m.Exists ∷ mark m.Open ∷ (q ++ mark m.Close ∷ []))

-- ---- the parts of a select

abbrev item_as : Option (List ℕ) → List Terminal
item_as None = []
item_as (Some n) = mark m.As ∷ name n ∷ []

abbrev pub print_item : Item-F Printed Origin (List Terminal) (List Terminal) (List Terminal)
    (List Terminal) (List Terminal) (List Terminal) → List Terminal
print_item i = placed l.Or i.expr ++ item_as i.alias

-- A table's own name is its alias where no other is written.
abbrev from_as : Option (List ℕ) → List ℕ → List Terminal
from_as None alias = mark m.As ∷ name alias ∷ []
from_as (Some own) alias = if bytes_eq own alias then [] else mark m.As ∷ name alias ∷ []

abbrev columns_terminals : List (List ℕ) → List Terminal
columns_terminals [] = []
columns_terminals (n ∷ ns) = mark m.Open ∷ (names_terminals (n ∷ ns) ++ mark m.Close ∷ [])

abbrev print_source : Source-F Printed Origin (List Terminal) (List Terminal) (List Terminal) (List Terminal) (List Terminal) (List Terminal) → Origin
print_source (ex.Table n) = record { terminals = name n ∷ []; own_alias = Some n }
print_source (ex.Sub q lateral) = record { terminals = perhaps lateral (mark m.Lateral) (mark m.Open ∷ (q ++ mark m.Close ∷ [])); own_alias = None }

abbrev pub print_from : FromItem-F Printed Origin (List Terminal) (List Terminal) (List Terminal) (List Terminal) (List Terminal) (List Terminal)
    → List Terminal
print_from f = f.source.terminals ++ (from_as f.source.own_alias f.alias ++ columns_terminals f.columns)

-- nothing stands for the ascending order
abbrev pub print_key : Key-F Printed Origin (List Terminal) (List Terminal) (List Terminal)
    (List Terminal) (List Terminal) (List Terminal) → List Terminal
print_key k = placed l.Or k.expr ++ perhaps k.descending (mark m.Desc) []

abbrev pub from_terminals : List (List Terminal) → List Terminal
from_terminals [] = []
from_terminals (x ∷ xs) = mark m.From ∷ with_commas (x ∷ xs)

abbrev pub where_terminals : Option Printed → List Terminal
where_terminals None = []
where_terminals (Some x) = mark m.Where ∷ placed l.Or x

abbrev pub order_terminals : List (List Terminal) → List Terminal
order_terminals [] = []
order_terminals (x ∷ xs) = mark m.Order ∷ mark m.By ∷ with_commas (x ∷ xs)

abbrev pub limit_terminals : Option Printed → List Terminal
limit_terminals None = []
limit_terminals (Some x) = mark m.Limit ∷ placed l.Or x

-- ---- queries

abbrev pub print_select : Select-F Printed Origin (List Terminal) (List Terminal) (List Terminal) (List Terminal) (List Terminal) (List Terminal)
    → List Terminal
print_select s = mark m.Select ∷ (with_commas s.list ++ (from_terminals s.from
    ++ (where_terminals s.filter ++ (order_terminals s.order ++ limit_terminals s.limit))))

abbrev pub selects_terminals : List (List Terminal) → List Terminal
selects_terminals = joined (mark m.Union ∷ mark m.All ∷ [])

abbrev pub print_recursive : Recursive-F Printed Origin (List Terminal) (List Terminal)
    (List Terminal) (List Terminal) (List Terminal) (List Terminal)
    → List Terminal
print_recursive r =
    mark m.With ∷ mark m.Recursive ∷ name r.name ∷ mark m.Open
    ∷ (names_terminals r.columns ++ mark m.Close ∷ mark m.As ∷ mark m.Open ∷ (selects_terminals (r.first ++ r.second ∷ []) ++ mark m.Close ∷ []))

abbrev with_terminals : Option (List Terminal) → List Terminal
with_terminals None = []
with_terminals (Some terminals) = terminals

abbrev pub print_step : Query-F Printed Origin (List Terminal) (List Terminal) (List Terminal)
    (List Terminal) (List Terminal) (List Terminal) → List Terminal
print_step q = with_terminals q.recursive ++ selects_terminals q.selects

abbrev pub printing : Algebra
printing = record {
  AnExpr = Printed;
  ASource = Origin;
  AFrom = List Terminal;
  AnItem = List Terminal;
  AKey = List Terminal;
  AQuery = List Terminal;
  ARecursive = List Terminal;
  ASelect = List Terminal;
  no_expr = alone [];
  no_query = [];
  expr = print_expr;
  source = print_source;
  from = print_from;
  item = print_item;
  key = print_key;
  query = print_step;
  recursive = print_recursive;
  select = print_select;
}

-- the terminals of an expression, and the level at which they read as it
abbrev pub printed : Expr → Printed
printed = expr_of printing

-- the terminals of a query
abbrev pub query_terminals : Query → List Terminal
query_terminals = query_of printing

-- ---- the text

abbrev word : List ℕ → Spelled
word text = record { kind = Word; text = text }

abbrev symbol : List ℕ → Spelled
symbol text = record { kind = Symbol; text = text }

-- Reserved words are written in upper case.
abbrev pub mark_spelled : Mark → Spelled
mark_spelled m.Assign = symbol (codes ":=")
mark_spelled m.Equal = symbol (codes "=")
mark_spelled m.Differ = symbol (codes "<>")
mark_spelled m.Less = symbol (codes "<")
mark_spelled m.LessEqual = symbol (codes "<=")
mark_spelled m.Greater = symbol (codes ">")
mark_spelled m.GreaterEqual = symbol (codes ">=")
mark_spelled m.Plus = symbol (codes "+")
mark_spelled m.Minus = symbol (codes "-")
mark_spelled m.Star = symbol (codes "*")
mark_spelled m.Slash = symbol (codes "/")
mark_spelled m.Percent = symbol (codes "%")
mark_spelled m.Bars = symbol (codes "||")
mark_spelled m.Colons = symbol (codes "::")
mark_spelled m.Open = symbol (codes "(")
mark_spelled m.Close = symbol (codes ")")
mark_spelled m.Comma = symbol (codes ",")
mark_spelled m.Semicolon = symbol (codes ";")
mark_spelled m.Dot = symbol (codes ".")
mark_spelled m.Dots = symbol (codes "..")
mark_spelled m.LabelOpen = symbol (codes "<<")
mark_spelled m.LabelClose = symbol (codes ">>")
mark_spelled m.All = word (codes "ALL")
mark_spelled m.And = word (codes "AND")
mark_spelled m.As = word (codes "AS")
mark_spelled m.Asc = word (codes "ASC")
mark_spelled m.Begin = word (codes "BEGIN")
mark_spelled m.Between = word (codes "BETWEEN")
mark_spelled m.By = word (codes "BY")
mark_spelled m.Case = word (codes "CASE")
mark_spelled m.Cast = word (codes "CAST")
mark_spelled m.Coalesce = word (codes "COALESCE")
mark_spelled m.Constant = word (codes "CONSTANT")
mark_spelled m.Continue = word (codes "CONTINUE")
mark_spelled m.Create = word (codes "CREATE")
mark_spelled m.Declare = word (codes "DECLARE")
mark_spelled m.Default = word (codes "DEFAULT")
mark_spelled m.Desc = word (codes "DESC")
mark_spelled m.Else = word (codes "ELSE")
mark_spelled m.Elseif = word (codes "ELSEIF")
mark_spelled m.Elsif = word (codes "ELSIF")
mark_spelled m.End = word (codes "END")
mark_spelled m.Exists = word (codes "EXISTS")
mark_spelled m.Exit = word (codes "EXIT")
mark_spelled m.False = word (codes "FALSE")
mark_spelled m.For = word (codes "FOR")
mark_spelled m.From = word (codes "FROM")
mark_spelled m.Greatest = word (codes "GREATEST")
mark_spelled m.If = word (codes "IF")
mark_spelled m.In = word (codes "IN")
mark_spelled m.Into = word (codes "INTO")
mark_spelled m.Is = word (codes "IS")
mark_spelled m.Lateral = word (codes "LATERAL")
mark_spelled m.Least = word (codes "LEAST")
mark_spelled m.Limit = word (codes "LIMIT")
mark_spelled m.Loop = word (codes "LOOP")
mark_spelled m.Not = word (codes "NOT")
mark_spelled m.Null = word (codes "NULL")
mark_spelled m.On = word (codes "ON")
mark_spelled m.Or = word (codes "OR")
mark_spelled m.Order = word (codes "ORDER")
mark_spelled m.Raise = word (codes "RAISE")
mark_spelled m.Recursive = word (codes "RECURSIVE")
mark_spelled m.Return = word (codes "RETURN")
mark_spelled m.Reverse = word (codes "REVERSE")
mark_spelled m.Select = word (codes "SELECT")
mark_spelled m.Strict = word (codes "STRICT")
mark_spelled m.Table = word (codes "TABLE")
mark_spelled m.Then = word (codes "THEN")
mark_spelled m.True = word (codes "TRUE")
mark_spelled m.Union = word (codes "UNION")
mark_spelled m.When = word (codes "WHEN")
mark_spelled m.Where = word (codes "WHERE")
mark_spelled m.While = word (codes "WHILE")
mark_spelled m.With = word (codes "WITH")

-- A string stands in UTF-8, with each quote in it twice. No query prints a dollar quote.
abbrev pub spelled : Terminal → Spelled
spelled (mark terminal) = mark_spelled terminal
spelled (name n) = word n
spelled (integer n) = record { kind = Integer; text = decimal n }
spelled (string t) = record { kind = Str; text = quoted (encode_utf8_all t) }
spelled (parameter i) = record { kind = Parameter; text = 36 ∷ decimal i }
spelled (quote z) = record { kind = Dollar; text = z }

-- the text of terminals: their tokens with the spacing of printed text, and a line feed
abbrev pub terminals_text : List Terminal → List ℕ
terminals_text terminals = written (laid calls (map spelled terminals))

-- the one text of a query
unfoldable pub query_text : Query → List ℕ
query_text q = terminals_text (query_terminals q)
