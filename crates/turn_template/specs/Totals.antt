-- Expressions that can't fault, whatever their slots hold, and that read slots alone.
use Rattle.std.specs.Prelude.{
  ◌^◌,
  Bool,
  true,
  false,
  not,
  ◌&&◌,
  nat_eq,
  nat_lt,
  ℤ,
  pos,
  negsuc,
  List,
  get_or,
  Option,
  Some,
  None,
}
use Rattle.std.specs.List.{list_all}
use Rattle.away_trees.specs.declared.queries.Expr.{Expr}
use Rattle.away_trees.specs.declared.queries.Expr.TheVariants as expr
use Rattle.away_trees.specs.declared.queries.Expr.TheOpen.{
  Expr-F,
  Source-F,
  FromItem-F,
  Item-F,
  Key-F,
  Select-F,
  Recursive-F,
  Query-F,
}
use Rattle.away_trees.specs.declared.queries.Expr.TheOpen as ex
use Rattle.away_trees.specs.Algebra.{Algebra, expr_of}
use Rattle.away_values.specs.declared.operators.ChainOp.{ChainOp}
use Rattle.away_values.specs.declared.operators.ChainOp.TheVariants as chain
use Rattle.away_values.specs.declared.operators.IntOp.{IntOp}
use Rattle.away_values.specs.declared.operators.IntOp.TheVariants as int
use Rattle.away_values.specs.declared.types.Ty.{Ty}
use Rattle.away_values.specs.declared.types.Ty.TheVariants as ty
use Rattle.block_forms.specs.declared.forms.Term.{Term}

-- it has a value always; and it is a literal by which a remainder is a bigint
pub record Sure : Type 0 where
  pub always : Bool
  pub divides : Bool

abbrev sure_if : Bool → Sure
sure_if b = record { always = b; divides = false }

-- from 1 to 2^63 - 1
abbrev pub is_divisor : ℤ → Bool
is_divisor (pos n) = not (nat_eq n 0) && nat_lt n (2 ^ 63)
is_divisor (negsuc n) = false

abbrev pub int_sure : IntOp → Sure → Bool
int_sure int.Add x = false
int_sure int.Sub x = false
int_sure int.Mul x = false
int_sure int.Div x = false
int_sure int.Rem x = x.divides

abbrev pub link_sure : ChainOp → Sure → Bool
link_sure chain.And x = x.always
link_sure chain.Or x = x.always
link_sure chain.Concat x = false
link_sure (chain.Int op) x = int_sure op x
link_sure (chain.Small op) x = false

abbrev pub cast_sure : Ty → Bool
cast_sure ty.Bigint = true
cast_sure ty.Boolean = true
cast_sure ty.Integer = false
cast_sure ty.Text = true

abbrev pub other_sure : Option Sure → Bool
other_sure None = true
other_sure (Some x) = x.always

abbrev pub expr_sure : Expr-F Sure Sure Sure Sure Sure Sure Sure Sure → Sure
expr_sure (ex.Int n) = record { always = true; divides = is_divisor n }
expr_sure (ex.Str t) = sure_if true
expr_sure (ex.Bool v) = sure_if true
expr_sure ex.Null = sure_if true
expr_sure (ex.Named name) = sure_if false
expr_sure (ex.Dotted alias name) = sure_if false
expr_sure (ex.Slot i) = sure_if true
expr_sure (ex.Column c) = sure_if false
expr_sure (ex.Param i t) = sure_if false
expr_sure (ex.Neg e) = sure_if false
expr_sure (ex.NegSmall e) = sure_if false
expr_sure (ex.Not e) = sure_if e.always
expr_sure (ex.Is e test negative) = sure_if e.always
expr_sure (ex.Chain e links) = sure_if (e.always && list_all (λ l. link_sure l.0 l.1) links)
expr_sure (ex.Compare op x y) = sure_if (x.always && y.always)
expr_sure (ex.Between negative x y z) = sure_if (x.always && (y.always && z.always))
expr_sure (ex.OneOf negative e choices) = sure_if (e.always && list_all (λ (x : Sure). x.always) choices)
expr_sure (ex.Cast e t) = sure_if (e.always && cast_sure t)
expr_sure (ex.Cases arms other) = sure_if (list_all (λ (a : Sure × Sure). a.0.always && a.1.always) arms && other_sure other)
expr_sure (ex.Call name es) = sure_if false
expr_sure ex.CountRows = sure_if false
expr_sure (ex.Scalar q) = sure_if false
expr_sure (ex.Exists q) = sure_if false

abbrev pub sureness : Algebra
sureness =
    record {
      AnExpr = Sure;
      ASource = Sure;
      AFrom = Sure;
      AnItem = Sure;
      AKey = Sure;
      AQuery = Sure;
      ARecursive = Sure;
      ASelect = Sure;
      no_expr = sure_if false;
      no_query = sure_if false;
      expr = expr_sure;
      source = λ s. sure_if false;
      from = λ f. sure_if false;
      item = λ i. sure_if false;
      key = λ k. sure_if false;
      query = λ q. sure_if false;
      recursive = λ r. sure_if false;
      select = λ s. sure_if false;
    }

abbrev pub is_total : Expr → Bool
is_total e = (expr_of sureness e).always

-- a term whose expression can't fault
abbrev pub total_term : List Expr → Term → Bool
total_term table t = is_total (get_or table t.expr expr.Null)
