-- What is chosen can't fault.
use Rattle.std.proofs.Common.{◌≡◌, Bool, true, false, ◌&&◌, List, get_or}
use Rattle.away_trees.specs.declared.queries.Expr.{Expr}
use Rattle.away_trees.specs.declared.queries.Expr.TheVariants as expr
use Rattle.block_forms.specs.declared.forms.Term.{Term}
use Rattle.turn_template.specs.Totals.{total_term}
use Rattle.turn_terms.specs.Choosing.{is_short, chosen_total}

second : (x y : Bool) → x && y ≡ true → y ≡ true
second true y h = h
second false y h = absurd cc

pub chosen_is_total : (table : List Expr) (t : Term) → chosen_total table t ≡ true → total_term table t ≡ true
chosen_is_total table t h = second (is_short (get_or table t.expr expr.Null)) (total_term table t) h
