-- The events of a tree of queries.
use Rattle.std.specs.Prelude.{◌≡◌, ℕ, List, [], ◌∷◌, ◌++◌, Option, Some, None, Result, OnOk}
use Rattle.away_values.specs.declared.errors.NoMemory.{NoMemory}
use Rattle.away_values.specs.declared.operators.ChainOp.{ChainOp}
use Rattle.away_trees.specs.declared.queries.Expr.{Expr}
use Rattle.away_trees.specs.declared.queries.Query.{Query}
use Rattle.away_trees.specs.declared.queries.Recursive.{Recursive}
use Rattle.away_trees.specs.declared.queries.Expr.TheOpen.{
  Expr-F,
  Source-F,
  FromItem-F,
  Item-F,
  Key-F,
  Select-F,
  Recursive-F,
  Query-F,
}
use Rattle.away_trees.specs.declared.queries.Expr.TheOpen as ex
use Rattle.away_trees.specs.Algebra.{Algebra, expr_of, recursive_of, query_of}
use Rattle.tree_events.specs.declared.events.Kind.{Kind}
use Rattle.tree_events.specs.declared.events.Kind.TheVariants as kind
use Rattle.tree_events.specs.declared.events.Manner.{Manner}
use Rattle.tree_events.specs.declared.events.Manner.TheVariants.{Whole, Reading}
use Rattle.tree_events.specs.declared.events.TreeEvent.{TreeEvent}
use Rattle.tree_events.specs.declared.events.TreeEvent.TheVariants as event

abbrev pub Events : Type 0
Events = List TreeEvent

-- events put before others
abbrev pub Put : Type 0
Put = Events → Events

-- After a success the events stand behind those that were there.
pub record Adds (put : Put) (before : Events) (result : Result (Unit {0}) NoMemory) (after : Events) : Type 0 where
  pub all : OnOk result ((rest : Events) → after ++ rest ≡ before ++ put rest)

-- ---- nodes

abbrev pub node : Kind → Put → Put
node k parts rest = event.Open k ∷ parts (event.Close ∷ rest)

abbrev pub leaf : Kind → Put
leaf k rest = event.Open k ∷ event.Close ∷ rest

abbrev pub text_node : List ℕ → Put
text_node t rest = event.Open kind.Str ∷ event.Text t ∷ event.Close ∷ rest

abbrev pub named_node : List ℕ → Put
named_node n rest = event.Open kind.Named ∷ event.Name n ∷ event.Close ∷ rest

abbrev pub qualified_node : List ℕ → List ℕ → Put
qualified_node a n rest = event.Open kind.Dotted ∷ event.Name a ∷ event.Name n ∷ event.Close ∷ rest

-- the digits of a table's place stand first in its item's list of columns
abbrev pub table_node : List (List ℕ) → Put
table_node [] rest = event.Open kind.Table ∷ event.Close ∷ rest
table_node (digits ∷ columns) rest = event.Open kind.Table ∷ event.Name digits ∷ event.Close ∷ rest

-- one after the other
abbrev pub row : {X : Type 0} → (X → Put) → List X → Put
row f [] rest = rest
row f (x ∷ xs) rest = f x (row f xs rest)

abbrev pub option : {X : Type 0} → (X → Put) → Option X → Put
option f None rest = rest
option f (Some x) rest = f x rest

abbrev pub itself : Put → Put
itself p = p

-- ---- the events of each node, by those of its parts

abbrev pub link_node : ChainOp × Put → Put
link_node l = node (kind.Link l.0) l.1

abbrev pub arm_node : Put × Put → Put
arm_node a = node kind.Arm (λ rest. a.0 (a.1 rest))

abbrev pub else_node : Put → Put
else_node = node kind.Else

-- a table's item has no event for its list of columns but the first
abbrev pub SourcePut : Type 0
SourcePut = List (List ℕ) → Put

abbrev pub expr_node : Expr-F Put SourcePut Put Put Put Put Put Put → Put
expr_node (ex.Int n) = leaf (kind.Int n)
expr_node (ex.Str t) = text_node t
expr_node (ex.Bool v) = leaf (kind.Bool v)
expr_node ex.Null = leaf kind.Null
expr_node (ex.Named name) = named_node name
expr_node (ex.Dotted alias name) = qualified_node alias name
expr_node (ex.Slot i) = leaf (kind.Slot i)
expr_node (ex.Column c) = leaf (kind.Column c)
expr_node (ex.Param i t) = leaf (kind.Param i t)
expr_node (ex.Neg e) = node kind.Neg e
expr_node (ex.NegSmall e) = node kind.NegSmall e
expr_node (ex.Not e) = node kind.Not e
expr_node (ex.Is e test negative) = node (kind.Is test negative) e
expr_node (ex.Chain e links) = node kind.Chain (λ rest. e (row link_node links rest))
expr_node (ex.Compare op x y) = node (kind.Compare op) (λ rest. x (y rest))
expr_node (ex.Between negative x y z) = node (kind.Between negative) (λ rest. x (y (z rest)))
expr_node (ex.OneOf negative e choices) = node (kind.OneOf negative) (λ rest. e (row itself choices rest))
expr_node (ex.Cast e t) = node (kind.Cast t) e
expr_node (ex.Cases arms other) = node kind.Cases (λ rest. row arm_node arms (option else_node other rest))
expr_node (ex.Call name es) = node kind.Call (λ rest. event.Name name ∷ row itself es rest)
expr_node ex.CountRows = leaf kind.CountRows
expr_node (ex.Scalar q) = node kind.Scalar q
expr_node (ex.Exists q) = node kind.Exists q

abbrev pub source_node : Source-F Put SourcePut Put Put Put Put Put Put → SourcePut
source_node (ex.Table name) columns = table_node columns
source_node (ex.Sub q lateral) columns = node (kind.Sub lateral) q

abbrev pub from_node : FromItem-F Put SourcePut Put Put Put Put Put Put → Put
from_node f = f.source f.columns

abbrev pub item_node : Item-F Put SourcePut Put Put Put Put Put Put → Put
item_node i = i.expr

abbrev pub key_node : Key-F Put SourcePut Put Put Put Put Put Put → Put
key_node k = node (kind.Key k.descending) k.expr

abbrev pub list_and_from : Manner → Put → Put → Put
list_and_from Whole list from rest = from (list rest)
list_and_from Reading list from rest = list (from rest)

abbrev pub select_node : Manner → Select-F Put SourcePut Put Put Put Put Put Put → Put
select_node m s rest =
    event.Enter
    ∷ list_and_from m (node kind.List (row itself s.list)) (node kind.From (row itself s.from))
    (node kind.Filter (option itself s.filter) (node kind.Order (row itself s.order) (node kind.Limit (option itself s.limit) (event.Leave ∷ rest))))

abbrev pub recursive_node : Recursive-F Put SourcePut Put Put Put Put Put Put → Put
recursive_node r = node kind.Recursive (λ rest. node kind.First (row itself r.first) (r.second rest))

abbrev pub kept_with : Manner → Option Put → Put
kept_with m None rest = rest
kept_with Whole (Some r) rest = r rest
kept_with Reading (Some r) rest = rest

abbrev pub query_node : Manner → Query-F Put SourcePut Put Put Put Put Put Put → Put
query_node m q = node kind.Query (λ rest. node kind.With (kept_with m q.recursive) (row itself q.selects rest))

abbrev pub shaping : Manner → Algebra
shaping m =
    record {
      AnExpr = Put;
      ASource = SourcePut;
      AFrom = Put;
      AnItem = Put;
      AKey = Put;
      AQuery = Put;
      ARecursive = Put;
      ASelect = Put;
      no_expr = leaf kind.Null;
      no_query = query_node m (record { recursive = None; selects = [] });
      expr = expr_node;
      source = source_node;
      from = from_node;
      item = item_node;
      key = key_node;
      query = query_node m;
      recursive = recursive_node;
      select = select_node m;
    }

-- ---- of parts that stand in lists

abbrev pub link_put : Manner → ChainOp × Expr → Put
link_put m l = node (kind.Link l.0) (expr_of (shaping m) l.1)

abbrev pub arm_put : Manner → Expr × Expr → Put
arm_put m a = node kind.Arm (λ rest. expr_of (shaping m) a.0 (expr_of (shaping m) a.1 rest))

abbrev pub with_put : Manner → Option Recursive → Put
with_put m None rest = rest
with_put Whole (Some r) rest = recursive_of (shaping Whole) r rest
with_put Reading (Some r) rest = rest

-- ---- the whole

abbrev pub events_of_expr : Manner → Expr → Events
events_of_expr m e = expr_of (shaping m) e []

abbrev pub events_of_query : Query → Events
events_of_query q = query_of (shaping Whole) q []
