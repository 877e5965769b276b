-- What an expression means, by the meanings of its parts.
use Rattle.std.specs.Prelude.{
  ℕ,
  Bool,
  true,
  false,
  not,
  ◌||◌,
  if◌then◌else◌,
  pos,
  List,
  map,
  length,
  filter,
  Option,
  Some,
  None,
  Ok,
}
use Rattle.std.specs.List.{list_any}
use Rattle.away_values.specs.declared.values.Value.{Value}
use Rattle.away_values.specs.declared.values.Value.TheVariants as val
use Rattle.away_values.specs.declared.operators.ChainOp.{ChainOp}
use Rattle.away_trees.specs.declared.queries.Expr.TheOpen.{Expr-F}
use Rattle.away_trees.specs.declared.queries.Expr.TheOpen as ex
use Rattle.away_values.specs.Results.{Or, and_then, mapped, each, each_joined}
use Rattle.away_values.specs.Operators.{
  negated,
  small,
  compare,
  is_null,
  negation,
  negation_if,
  passes,
  cast,
}
use Rattle.sql_meaning.specs.Context.{Rows, Frame, Context, at, column, argument, at_row}
use Rattle.sql_meaning.specs.Parts.{chained, between, among, chosen, first_known, only, has_row}
use Rattle.sql_meaning.specs.Functions.{
  Function,
  Coalesce,
  function,
  is_aggregate,
  aggregate,
  scalar,
}

-- An expression: whether an aggregate stands in it outside its subqueries, and its value or its
-- fault where it stands.
pub record ExprMeaning : Type 0 where
  pub aggregates : Bool
  pub value : Context → Or Value

-- the rows of a FROM item beside a row of the items before it
abbrev pub FromMeaning : Type 0
FromMeaning = Context → Frame → Or Rows

-- the same of what an item takes its rows from, by the item's list of columns
abbrev pub SourceMeaning : Type 0
SourceMeaning = List (List ℕ) → FromMeaning

-- the rows of a select
abbrev pub SelectMeaning : Type 0
SelectMeaning = Context → Or Rows

-- a key of ORDER BY
pub record KeyMeaning : Type 0 where
  pub descending : Bool
  pub value : Context → Or Value

-- a recursive part: the rows of its first term, and those of its second
pub record RecursiveMeaning : Type 0 where
  pub first : SelectMeaning
  pub second : SelectMeaning

-- a query: its recursive part, and the rows of its selects
pub record QueryMeaning : Type 0 where
  pub recursive : Option RecursiveMeaning
  pub rows : SelectMeaning

-- ---- lists of expressions

abbrev pub answers : Context → List ExprMeaning → List (Or Value)
answers cx = map (λ e. e.value cx)

abbrev pub link_answers : Context → List (ChainOp × ExprMeaning) → List (ChainOp × Or Value)
link_answers cx = map (λ l. (l.0, l.1.value cx))

abbrev pub arm_answers : Context → List (ExprMeaning × ExprMeaning) → List (Or Value × Or Value)
arm_answers cx = map (λ a. (a.0.value cx, a.1.value cx))

-- all their values, from left to right
abbrev pub values : Context → List ExprMeaning → Or (List Value)
values cx es = each (λ o. o) (answers cx es)

abbrev pub any_aggregates : List ExprMeaning → Bool
any_aggregates = list_any (λ e. e.aggregates)

-- what stands behind ELSE, or NULL
abbrev pub other_value : Context → Option ExprMeaning → Or Value
other_value cx None = Ok val.Null
other_value cx (Some e) = e.value cx

abbrev pub other_aggregates : Option ExprMeaning → Bool
other_aggregates None = false
other_aggregates (Some e) = e.aggregates

-- ---- calls

-- An aggregate: its argument at each row of the group in their order, and then over the values that
-- aren't NULL. (PostgreSQL manual, Aggregate Expressions.)
abbrev pub over_group : Function → List ExprMeaning → Context → Or Value
over_group f es cx =
    and_then (each_joined (λ frame. values (at_row frame cx) es) cx.group) (λ vs. aggregate f (filter (λ v. not (is_null v)) vs))

-- COALESCE stops at its first value that isn't NULL; the other functions take all values, from left
-- to right.
abbrev pub called : Function → List ExprMeaning → Context → Or Value
called Coalesce es cx = first_known (answers cx es)
called f es cx = if is_aggregate f then over_group f es cx else and_then (values cx es) (scalar f)

-- ---- an expression

abbrev pub ExprLayer : Type 0
ExprLayer = Expr-F ExprMeaning SourceMeaning FromMeaning ExprMeaning KeyMeaning QueryMeaning RecursiveMeaning SelectMeaning

-- the same everywhere, and no aggregate
abbrev pub constant : Value → ExprMeaning
constant v = record { aggregates = false; value = λ cx. Ok v }

-- The value of an expression: its operands from left to right, where the first fault is the result.
-- Names stand in no checked tree. (PostgreSQL manual, Value Expressions, and the sections named
-- above. The order is our own: the manual leaves it open.)
abbrev pub expr_meaning : ExprLayer → ExprMeaning
expr_meaning (ex.Int n) = constant (val.Int n)
expr_meaning (ex.Str t) = constant (val.Text t)
expr_meaning (ex.Bool b) = constant (val.Bool b)
expr_meaning ex.Null = constant val.Null
expr_meaning (ex.Named name) = constant val.Null
expr_meaning (ex.Dotted alias name) = constant val.Null
expr_meaning (ex.Slot i) = record { aggregates = false; value = λ cx. Ok (at cx.env i) }
expr_meaning (ex.Column c) = record { aggregates = false; value = λ cx. Ok (column cx.frames c) }
expr_meaning (ex.Param i ty) = record { aggregates = false; value = λ cx. Ok (argument cx.args i) }
expr_meaning (ex.Neg e) = record { aggregates = e.aggregates; value = λ cx. and_then (e.value cx) negated }
expr_meaning (ex.NegSmall e) = record { aggregates = e.aggregates; value = λ cx. and_then (e.value cx) (λ v. and_then (negated v) small) }
expr_meaning (ex.Not e) = record { aggregates = e.aggregates; value = λ cx. mapped negation (e.value cx) }
expr_meaning (ex.Is e test negative) =
    record { aggregates = e.aggregates; value = λ cx. mapped (λ v. negation_if negative (val.Bool (passes test v))) (e.value cx) }
expr_meaning (ex.Chain e links) =
    record {
      aggregates = e.aggregates || list_any (λ l. l.1.aggregates) links;
      value = λ cx.
          and_then (e.value cx) (chained (link_answers cx links));
    }
expr_meaning (ex.Compare op a b) =
    record { aggregates = a.aggregates || b.aggregates; value = λ cx. and_then (a.value cx) (λ v. mapped (compare op v) (b.value cx)) }
expr_meaning (ex.Between negative e low high) =
    record {
      aggregates = e.aggregates || (low.aggregates || high.aggregates);
      value = λ cx. mapped (negation_if negative)
          (and_then (e.value cx) (λ v. and_then (low.value cx) (λ l. between v l (high.value cx))));
    }
expr_meaning (ex.OneOf negative e choices) =
    record {
      aggregates = e.aggregates || any_aggregates choices;
      value = λ cx. mapped (negation_if negative)
          (and_then (e.value cx) (λ v. among v (answers cx choices) (val.Bool false)));
    }
expr_meaning (ex.Cast e ty) = record { aggregates = e.aggregates; value = λ cx. and_then (e.value cx) (cast ty) }
expr_meaning (ex.Cases arms other) =
    record {
      aggregates = list_any (λ arm. arm.0.aggregates || arm.1.aggregates) arms || other_aggregates other;
      value = λ cx. chosen (other_value cx other) (arm_answers cx arms);
    }
expr_meaning (ex.Call name es) =
    record { aggregates = is_aggregate (function name) || any_aggregates es; value = called (function name) es }
expr_meaning ex.CountRows = record { aggregates = true; value = λ cx. Ok (val.Int (pos (length cx.group))) }
expr_meaning (ex.Scalar q) = record { aggregates = false; value = λ cx. and_then (q.rows cx) only }
expr_meaning (ex.Exists q) = record { aggregates = false; value = λ cx. mapped (λ rows. val.Bool (has_row rows)) (q.rows cx) }
