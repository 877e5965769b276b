-- The worked terms compute.
use Rattle.std.proofs.Common.{refl}
use Rattle.away_trees.specs.declared.queries.Expr.TheBlock as e
use Rattle.turn_terms.specs.Worked.{WorkedTerms}

pub terms_are : WorkedTerms
unfolding e.hidden-the_row-Expr-0 e.hidden-the_row-Expr-Chain-1-2-1 e.hidden-the_row-Expr-Cases-0-2-3 denote.Hole.Carrier.hidden
terms_are = record {
  slot = refl;
  null = refl;
  text = refl;
  equality = refl;
  remainder = refl;
  by_zero = refl;
  by_variable = refl;
  sum = refl;
  wide = refl;
  narrow = refl;
  cases = refl;
  may_fault = refl;
  column = refl;
  sign = refl;
  twelve = refl;
  thirteen = refl;
}
