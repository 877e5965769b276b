-- Queries with calls of a small function, as they are judged, computed.
use Rattle.std.specs.Prelude.{
  ◌≡◌,
  ℕ,
  pos,
  true,
  false,
  List,
  [],
  ◌∷◌,
  codes,
  map,
  Option,
  Some,
  None,
}
use Rattle.away_values.specs.declared.operators.ChainOp.TheVariants as chain
use Rattle.away_values.specs.declared.operators.CmpOp.TheVariants as cmp
use Rattle.away_values.specs.declared.operators.IntOp.TheVariants as op
use Rattle.away_values.specs.declared.types.Ty.TheVariants as ty
use Rattle.away_trees.specs.declared.queries.Expr.{Expr}
use Rattle.away_trees.specs.declared.queries.Expr.TheVariants as expr
use Rattle.away_trees.specs.declared.queries.Expr.TheViews.{
  roll-FromItem,
  roll-Item,
  roll-Query,
  roll-Select,
}
use Rattle.away_trees.specs.declared.queries.FromItem.{FromItem}
use Rattle.away_trees.specs.declared.queries.Select.{Select}
use Rattle.away_trees.specs.declared.queries.Source.TheVariants as source
use Rattle.away_trees.specs.declared.schemas.Schema.{Schema}
use Rattle.away_trees.specs.declared.statements.Function.{Function}
use Rattle.away_trees.specs.declared.statements.Stmt.TheVariants as stmt
use Rattle.away_names.specs.declared.rule.Rule.{Rule}
use Rattle.away_names.specs.declared.rule.Rule.TheVariants as rule
use Rattle.sql_meaning.specs.Trees.{item, one}
use Rattle.inline_calls.specs.Forms.{calling, is_form, misplaces, only_select}
use Rattle.inline_calls.specs.Judged.{calls_note}

-- ---- small trees

abbrev pub int : ℕ → Expr
int n = expr.Int (pos n)

abbrev pub named : List ℕ → Expr
named n = expr.Named n

-- nums.n
abbrev pub n_of_nums : Expr
n_of_nums = expr.Dotted (codes "nums") (codes "n")

abbrev pub plus : Expr → Expr → Expr
plus x y = expr.Chain x ((chain.Int op.Add, y) ∷ [])

abbrev pub inc_of : List Expr → Expr
inc_of es = expr.Call (codes "inc") es

-- ---- the function and the table

-- inc(n bigint), whose value is n + 1
abbrev pub inc : Function
inc = record {
  name = codes "inc";
  strict = false;
  params = (codes "n", ty.Bigint) ∷ [];
  result = ty.Bigint;
  body = stmt.Return (plus (named (codes "n")) (int 1));
}

-- CREATE TABLE nums (n bigint)
abbrev pub nums : Schema
nums = record {
  tables = record {
    name = codes "nums";
    columns = record { name = codes "n"; ty = ty.Bigint; not_null = false } ∷ [];
  } ∷ [];
}

abbrev pub from_nums : FromItem
from_nums = roll-FromItem (record {
  source = source.Table (codes "nums");
  alias = codes "nums";
  columns = [];
})

-- SELECT es FROM nums WHERE filter
abbrev pub of_nums : List Expr → Option Expr → Select
of_nums es filter = roll-Select (record {
  list = map item es;
  from = from_nums ∷ [];
  filter = filter;
  order = [];
  limit = None;
})

-- SELECT es, of no table
abbrev pub of_nothing : List Expr → Select
of_nothing es = roll-Select (record {
  list = map item es;
  from = [];
  filter = None;
  order = [];
  limit = None;
})

-- ---- queries

-- SELECT nums.n, inc(nums.n) + inc(1) FROM nums
abbrev pub two_calls : Select
two_calls =
    of_nums (n_of_nums ∷ plus (inc_of (n_of_nums ∷ [])) (inc_of (int 1 ∷ [])) ∷ []) None

-- the same with slots
abbrev pub two_slots : Select
two_slots = of_nums (n_of_nums ∷ plus (expr.Slot 0) (expr.Slot 1) ∷ []) None

-- SELECT inc(inc(1))
abbrev pub nested : Select
nested = of_nothing (inc_of (inc_of (int 1 ∷ []) ∷ []) ∷ [])

-- SELECT (SELECT inc(1))
abbrev pub in_subquery : Select
in_subquery = of_nothing (expr.Scalar (one (of_nothing (inc_of (int 1 ∷ []) ∷ []))) ∷ [])

-- SELECT inc(1) FROM nums WHERE inc(nums.n) = 8
abbrev pub in_filter : Select
in_filter =
    of_nums (inc_of (int 1 ∷ []) ∷ [])
    (Some (expr.Compare cmp.Eq (inc_of (n_of_nums ∷ [])) (int 8)))

-- SELECT max(nums.n), inc(1) FROM nums
abbrev pub with_aggregate : Select
with_aggregate =
    of_nums (expr.Call (codes "max") (n_of_nums ∷ []) ∷ inc_of (int 1 ∷ []) ∷ []) None

-- SELECT (SELECT max(nums.n) FROM nums), inc(1)
abbrev pub with_subquery : Select
with_subquery =
    of_nothing
    (expr.Scalar (one (of_nums (expr.Call (codes "max") (n_of_nums ∷ []) ∷ []) None))
    ∷ inc_of (int 1 ∷ [])
    ∷ [])

-- SELECT inc(1) AS away_a
abbrev pub with_kept_name : Select
with_kept_name = roll-Select (record {
  list = roll-Item (record { expr = inc_of (int 1 ∷ []); alias = Some (codes "away_a") }) ∷ [];
  from = [];
  filter = None;
  order = [];
  limit = None;
})

-- SELECT nums.n FROM nums
abbrev pub no_call : Select
no_call = of_nums (n_of_nums ∷ []) None

-- SELECT inc(es)
abbrev pub of_call : List Expr → Select
of_call es = of_nothing (inc_of es ∷ [])

-- the least rule that a select breaks
abbrev pub least : Select → Option Rule
least x = (calls_note nums inc (calling inc x)).least

-- ---- what holds of them

pub record WorkedForms : Type 0 where
  pub two : is_form inc two_calls ≡ true
  pub subquery : is_form inc with_subquery ≡ true
  pub aggregate : is_form inc with_aggregate ≡ false
  pub kept_name : is_form inc with_kept_name ≡ false
  pub none : is_form inc no_call ≡ false
  pub several : only_select
      (roll-Query (record { recursive = None; selects = no_call ∷ no_call ∷ [] })) ≡ None

pub record WorkedPlaces : Type 0 where
  pub slots : (calling inc two_calls).select ≡ two_slots
  pub arguments : (calling inc two_calls).calls ≡ (n_of_nums ∷ []) ∷ (int 1 ∷ []) ∷ []
  pub placed : misplaces inc (calling inc two_calls) ≡ false
  pub in_argument : misplaces inc (calling inc nested) ≡ true
  pub in_a_subquery : misplaces inc (calling inc in_subquery) ≡ true
  pub in_where : misplaces inc (calling inc in_filter) ≡ true

pub record WorkedRules : Type 0 where
  pub right : least two_calls ≡ None
  pub null : least (of_call (expr.Null ∷ [])) ≡ None
  pub too_few : least (of_call []) ≡ Some rule.Types
  pub too_many : least (of_call (int 1 ∷ int 2 ∷ [])) ≡ Some rule.Types
  pub wrong_type : least (of_call (expr.Str (codes "a") ∷ [])) ≡ Some rule.Types
  pub unknown_name : least (of_call (named (codes "zz") ∷ [])) ≡ Some rule.Names
