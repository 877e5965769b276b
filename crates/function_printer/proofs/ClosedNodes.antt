-- What an expression prints as before LOOP, node by node.
use Rattle.std.proofs.Common.{◌≡◌, refl, ap, Bool, List, [], ◌∷◌, ◌++◌, Option}
use Rattle.away_grammar.specs.declared.grammar.Mark.TheVariants as m
use Rattle.away_grammar.specs.declared.grammar.Level.{Level}
use Rattle.away_grammar.specs.declared.grammar.Level.TheVariants as l
use Rattle.away_values.specs.declared.operators.ChainOp.{ChainOp}
use Rattle.away_values.specs.declared.operators.CmpOp.{CmpOp}
use Rattle.away_trees.specs.declared.queries.Expr.{Expr}
use Rattle.away_trees.specs.declared.queries.Expr.TheVariants as e
use Rattle.away_trees.specs.declared.queries.Expr.TheBlock as b
use Rattle.away_grammar.specs.Terminals.{mark}
use Rattle.away_grammar.specs.Grammar.{operands, perhaps}
use Rattle.away_grammar.specs.Printing.{placed, printed, operator_mark, operator_level, comparison_mark, chain_level}
use Rattle.function_printer.specs.Closed.{closed, closed_at, closed_chain, closed_links}

pub of_neg : (x : Expr) → closed (e.Neg x) ≡ mark m.Minus ∷ closed_at l.Cast x
unfolding b.hidden-the_row-Expr-0 denote.Hole.Carrier.hidden
of_neg x = refl

pub of_negsmall : (x : Expr) → closed (e.NegSmall x) ≡ mark m.Minus ∷ closed_at l.Cast x
unfolding b.hidden-the_row-Expr-0 denote.Hole.Carrier.hidden
of_negsmall x = refl

pub of_not : (x : Expr) → closed (e.Not x) ≡ mark m.Not ∷ closed_at l.Is x
unfolding b.hidden-the_row-Expr-0 denote.Hole.Carrier.hidden
of_not x = refl

pub of_compare : (o : CmpOp) (x y : Expr) → closed (e.Compare o x y) ≡ placed l.Range (printed x) ++ mark (comparison_mark o) ∷ closed_at l.Range y
unfolding b.hidden-the_row-Expr-0 denote.Hole.Carrier.hidden
of_compare o x y = refl

pub of_between : (n : Bool) (x low high : Expr) → closed (e.Between n x low high)
    ≡ placed l.Concat (printed x) ++ perhaps n (mark m.Not) (mark m.Between ∷ (placed l.Concat (printed low) ++ mark m.And ∷ closed_at l.Concat high))
unfolding b.hidden-the_row-Expr-0 denote.Hole.Carrier.hidden
of_between n x low high = refl

pub of_cases : (arms : List (Expr × Expr)) (other : Option Expr) → closed (e.Cases arms other)
    ≡ mark m.Open ∷ (placed l.Or (printed (e.Cases arms other)) ++ mark m.Close ∷ [])
of_cases arms other = refl

chain_links : (level : Level) (xs : List (ChainOp × Expr)) → closed_links level (b.hidden-the_row-Expr-Chain-1-2-1 xs) ≡ closed_chain level xs
unfolding b.hidden-the_row-Expr-Chain-1-2-1 denote.Hole.Carrier.hidden
chain_links level [] = refl
chain_links level (x ∷ []) = refl
chain_links level (x ∷ y ∷ more) = ap (λ ys. mark (operator_mark x.0) ∷ (placed (operands level) (printed x.1) ++ ys)) (chain_links level (y ∷ more))

pub of_chain : (first : Expr) (xs : List (ChainOp × Expr))
    → closed (e.Chain first xs) ≡ placed (operands (chain_level xs)) (printed first) ++ closed_chain (chain_level xs) xs
unfolding b.hidden-the_row-Expr-0 b.hidden-the_row-Expr-Chain-1-2-1 denote.Hole.Carrier.hidden
of_chain first [] = refl
of_chain first (x ∷ xs) = ap (λ ys. placed (operands (operator_level x.0)) (printed first) ++ ys) (chain_links (operator_level x.0) (x ∷ xs))
