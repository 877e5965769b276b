-- Whether a name is found in an expression or a select: one that is a called function's, or
-- another.
use Rattle.std.specs.Prelude.{Bool, false, ◌||◌, List, Option, Some, None}
use Rattle.std.specs.List.{list_any}
use Rattle.away_values.specs.declared.operators.ChainOp.{ChainOp}
use Rattle.away_trees.specs.declared.queries.Expr.{Expr}
use Rattle.away_trees.specs.declared.queries.Source.{Source}
use Rattle.away_trees.specs.declared.queries.FromItem.{FromItem}
use Rattle.away_trees.specs.declared.queries.Item.{Item}
use Rattle.away_trees.specs.declared.queries.Key.{Key}
use Rattle.away_trees.specs.declared.queries.Select.{Select}
use Rattle.away_trees.specs.declared.queries.Recursive.{Recursive}
use Rattle.away_trees.specs.declared.queries.Query.{Query}
use Rattle.away_trees.specs.declared.queries.Expr.TheOpen.{Expr-F, Source-F}
use Rattle.away_trees.specs.declared.queries.Expr.TheOpen as ex
use Rattle.away_trees.specs.Algebra.{
  Algebra,
  expr_of,
  source_of,
  from_of,
  item_of,
  key_of,
  query_of,
  recursive_of,
  select_of,
}
use Rattle.away_names.specs.Lookups.{Name}

-- what is looked for
pub record Sought : Type 0 where
  -- a word, which isn't the name of a called function
  pub word : Name → Bool
  -- the name of a called function
  pub called : Name → Bool

abbrev pub any : List Bool → Bool
any bs = list_any (λ b. b) bs

abbrev pub maybe : Option Bool → Bool
maybe None = false
maybe (Some b) = b

abbrev pub holds : {A : Type 0} → (A → Bool) → Option A → Bool
holds f None = false
holds f (Some x) = f x

abbrev pub link : ChainOp × Bool → Bool
link l = l.1

abbrev pub arm : Bool × Bool → Bool
arm a = a.0 || a.1

abbrev pub Layer :
    (Type 0 → Type 0 → Type 0 → Type 0 → Type 0 → Type 0 → Type 0 → Type 0 → Type 0) → Type 0
Layer F = F Bool Bool Bool Bool Bool Bool Bool Bool

module _ (s : Sought) where
  abbrev pub term : Layer Expr-F → Bool
  term (ex.Int i) = false
  term (ex.Str t) = false
  term (ex.Bool v) = false
  term ex.Null = false
  term (ex.Named m) = s.word m
  term (ex.Dotted a m) = s.word a || s.word m
  term (ex.Slot i) = false
  term (ex.Column c) = false
  term (ex.Param i t) = false
  term (ex.Neg e) = e
  term (ex.NegSmall e) = e
  term (ex.Not e) = e
  term (ex.Is e test negative) = e
  term (ex.Chain e links) = e || list_any link links
  term (ex.Compare op x y) = x || y
  term (ex.Between negative x y z) = x || (y || z)
  term (ex.OneOf negative e choices) = e || any choices
  term (ex.Cast e t) = e
  term (ex.Cases arms other) = list_any arm arms || maybe other
  term (ex.Call m es) = s.called m || any es
  term ex.CountRows = false
  term (ex.Scalar q) = q
  term (ex.Exists q) = q

  abbrev pub rows : Layer Source-F → Bool
  rows (ex.Table m) = s.word m
  rows (ex.Sub q lateral) = q

  abbrev pub finding : Algebra
  finding = record {
    AnExpr = Bool;
    ASource = Bool;
    AFrom = Bool;
    AnItem = Bool;
    AKey = Bool;
    AQuery = Bool;
    ARecursive = Bool;
    ASelect = Bool;
    no_expr = false;
    no_query = false;
    expr = term;
    source = rows;
    from = λ f. f.source || (s.word f.alias || list_any s.word f.columns);
    item = λ i. i.expr || holds s.word i.alias;
    key = λ k. k.expr;
    query = λ q. maybe q.recursive || any q.selects;
    recursive = λ r. s.word r.name || (list_any s.word r.columns || (any r.first || r.second));
    select = λ x. any x.list
        || (any x.from || (maybe x.filter || (any x.order || maybe x.limit)));
  }

  unfoldable pub in_expr : Expr → Bool
  in_expr e = expr_of finding e

  unfoldable pub in_source : Source → Bool
  in_source x = source_of finding x

  unfoldable pub in_part : FromItem → Bool
  in_part x = from_of finding x

  unfoldable pub in_item : Item → Bool
  in_item x = item_of finding x

  unfoldable pub in_key : Key → Bool
  in_key x = key_of finding x

  unfoldable pub in_select : Select → Bool
  in_select x = select_of finding x

  unfoldable pub in_recursive : Recursive → Bool
  in_recursive x = recursive_of finding x

  unfoldable pub in_query : Query → Bool
  in_query x = query_of finding x

  abbrev pub in_link : ChainOp × Expr → Bool
  in_link l = in_expr l.1

  abbrev pub in_arm : Expr × Expr → Bool
  in_arm a = in_expr a.0 || in_expr a.1
