-- What an expression reads from outside itself, in the order of its text, a select's list before
-- its FROM.
use Rattle.std.specs.Prelude.{
  ℕ,
  suc,
  Bool,
  false,
  not,
  ◌==◌,
  nat_lt,
  if◌then◌else◌,
  List,
  [],
  ◌∷◌,
  ◌++◌,
  filter,
  flat_map,
  filter_map,
  Option,
  Some,
  None,
}
use Rattle.std.specs.List.{list_all}
use Rattle.away_trees.specs.declared.queries.Col.{Col}
use Rattle.away_trees.specs.declared.queries.Expr.{Expr}
use Rattle.away_trees.specs.declared.queries.Expr.TheOpen.{
  Expr-F,
  Source-F,
  FromItem-F,
  Item-F,
  Key-F,
  Select-F,
  Recursive-F,
  Query-F,
}
use Rattle.away_trees.specs.declared.queries.Expr.TheOpen as ex
use Rattle.away_trees.specs.Algebra.{Algebra, expr_of}
use Rattle.sql_meaning.specs.Selects.{place_of}

-- a variable of the function, a parameter, a table by its place, or a column of a select that
-- encloses the expression
pub data Read : Type 0 where
  Slot : ℕ → Read
  Param : ℕ → Read
  Table : ℕ → Read
  Outer : Col → Read

-- by the number of the expression's own selects that enclose the place
abbrev pub Reads : Type 0
Reads = ℕ → List Read

-- the same of an item's source, by the item's list of columns
abbrev pub SourceReads : Type 0
SourceReads = List (List ℕ) → Reads

abbrev pub of_option : ℕ → Option Reads → List Read
of_option d None = []
of_option d (Some r) = r d

abbrev pub of_list : ℕ → List Reads → List Read
of_list d = flat_map (λ r. r d)

abbrev pub expr_reads : Expr-F Reads SourceReads Reads Reads Reads Reads Reads Reads → Reads
expr_reads (ex.Int n) d = []
expr_reads (ex.Str t) d = []
expr_reads (ex.Bool v) d = []
expr_reads ex.Null d = []
expr_reads (ex.Named name) d = []
expr_reads (ex.Dotted alias name) d = []
expr_reads (ex.Slot i) d = Slot i ∷ []
expr_reads (ex.Column c) d = if nat_lt c.level d then [] else Outer c ∷ []
expr_reads (ex.Param i t) d = Param i ∷ []
expr_reads (ex.Neg e) d = e d
expr_reads (ex.NegSmall e) d = e d
expr_reads (ex.Not e) d = e d
expr_reads (ex.Is e test negative) d = e d
expr_reads (ex.Chain e links) d = e d ++ flat_map (λ l. l.1 d) links
expr_reads (ex.Compare op x y) d = x d ++ y d
expr_reads (ex.Between negative x y z) d = x d ++ (y d ++ z d)
expr_reads (ex.OneOf negative e choices) d = e d ++ of_list d choices
expr_reads (ex.Cast e t) d = e d
expr_reads (ex.Cases arms other) d = flat_map (λ a. a.0 d ++ a.1 d) arms ++ of_option d other
expr_reads (ex.Call name es) d = of_list d es
expr_reads ex.CountRows d = []
expr_reads (ex.Scalar q) d = q d
expr_reads (ex.Exists q) d = q d

abbrev pub source_reads : Source-F Reads SourceReads Reads Reads Reads Reads Reads Reads → SourceReads
source_reads (ex.Table name) columns d = Table (place_of columns) ∷ []
source_reads (ex.Sub q lateral) columns d = q d

abbrev pub from_reads : FromItem-F Reads SourceReads Reads Reads Reads Reads Reads Reads → Reads
from_reads f = f.source f.columns

abbrev pub item_reads : Item-F Reads SourceReads Reads Reads Reads Reads Reads Reads → Reads
item_reads i = i.expr

abbrev pub key_reads : Key-F Reads SourceReads Reads Reads Reads Reads Reads Reads → Reads
key_reads k = k.expr

abbrev pub select_reads : Select-F Reads SourceReads Reads Reads Reads Reads Reads Reads → Reads
select_reads s d = of_list (suc d) s.list ++ (of_list (suc d) s.from
    ++ (of_option (suc d) s.filter ++ (of_list (suc d) s.order ++ of_option (suc d) s.limit)))

abbrev pub recursive_reads : Recursive-F Reads SourceReads Reads Reads Reads Reads Reads Reads → Reads
recursive_reads r d = of_list d r.first ++ r.second d

-- a subquery has no recursive part
abbrev pub query_reads : Query-F Reads SourceReads Reads Reads Reads Reads Reads Reads → Reads
query_reads q d = of_list d q.selects

abbrev pub reading : Algebra
reading =
    record {
      AnExpr = Reads;
      ASource = SourceReads;
      AFrom = Reads;
      AnItem = Reads;
      AKey = Reads;
      AQuery = Reads;
      ARecursive = Reads;
      ASelect = Reads;
      no_expr = λ d. [];
      no_query = λ d. [];
      expr = expr_reads;
      source = source_reads;
      from = from_reads;
      item = item_reads;
      key = key_reads;
      query = query_reads;
      recursive = recursive_reads;
      select = select_reads;
    }

abbrev pub reads : Expr → List Read
reads e = expr_of reading e 0

-- ---- whether it may stand in a function

-- these slots, so many parameters and so many tables, and no column from outside
abbrev pub allows : (ℕ → Bool) → ℕ → ℕ → Read → Bool
allows slots params tables (Slot i) = slots i
allows slots params tables (Param i) = nat_lt i params
allows slots params tables (Table k) = nat_lt k tables
allows slots params tables (Outer c) = false

abbrev pub fits : (ℕ → Bool) → ℕ → ℕ → Expr → Bool
fits slots params tables e = list_all (allows slots params tables) (reads e)

-- ---- its slots

abbrev pub slot_of : Read → Option ℕ
slot_of (Slot i) = Some i
slot_of _ = None

-- each number once, in the order of their first occurrence
abbrev pub first_occurrences : List ℕ → List ℕ
first_occurrences [] = []
first_occurrences (x ∷ xs) = x ∷ filter (λ y. not (y == x)) (first_occurrences xs)

-- the slots that an expression reads, each once, in the order of their first occurrence
abbrev pub slots_of : Expr → List ℕ
slots_of e = first_occurrences (filter_map slot_of (reads e))
