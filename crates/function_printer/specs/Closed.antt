-- What an expression prints as before LOOP. END directly before LOOP is one closing word with it,
-- so a CASE expression whose END would stand there stands in parentheses. All else prints as
-- elsewhere.
use Rattle.std.specs.Prelude.{Bool, true, false, nat_lt, if◌then◌else◌, List, [], ◌∷◌, ◌++◌}
use Rattle.away_grammar.specs.declared.grammar.Mark.TheVariants as m
use Rattle.away_grammar.specs.declared.grammar.Level.{Level}
use Rattle.away_grammar.specs.declared.grammar.Level.TheVariants as l
use Rattle.away_values.specs.declared.operators.ChainOp.{ChainOp}
use Rattle.away_trees.specs.declared.queries.Expr.{Expr}
use Rattle.away_trees.specs.declared.queries.Expr.TheBlock as b
use Rattle.away_trees.specs.Algebra.{exprs_of, links_of, head_or}
use Rattle.away_grammar.specs.Terminals.{Terminal, mark}
use Rattle.away_grammar.specs.Grammar.{operands, perhaps, rank}
use Rattle.away_grammar.specs.Printing.{
  placed,
  printed,
  printing,
  operator_mark,
  comparison_mark,
  chain_level,
}

-- a part of an expression that doesn't end it
abbrev inner : {n : _} → Level → b.Row_of-Expr n → List Terminal
inner place e = placed place (head_or printing.no_expr (exprs_of printing e))

abbrev mutual
  -- the terminals of an expression whose last terminal isn't an END
  pub closed : Expr → List Terminal
  closed (b.Neg' p e) = mark m.Minus ∷ closed_last l.Cast e
  closed (b.NegSmall' p e) = mark m.Minus ∷ closed_last l.Cast e
  closed (b.Not' p e) = mark m.Not ∷ closed_last l.Is e
  closed (b.Chain' p e s links) =
      inner (operands (chain_level (links_of printing links))) e
      ++ closed_links (chain_level (links_of printing links)) links
  closed (b.Compare' op p x q y) =
      inner l.Range x ++ mark (comparison_mark op) ∷ closed_last l.Range y
  closed (b.Between' negative p x q y r z) =
      inner l.Concat x ++ perhaps negative (mark m.Not)
      (mark m.Between ∷ (inner l.Concat y ++ mark m.And ∷ closed_last l.Concat z))
  closed (b.Cases' s arms other) =
      mark m.Open ∷ (placed l.Or (printed (b.Cases' s arms other)) ++ mark m.Close ∷ [])
  closed e = placed l.Or (printed e)

  -- the part that ends an expression, at its place
  pub closed_last : {n : _} → Level → b.Row_of-Expr n → List Terminal
  closed_last place b.end_of-Expr = []
  closed_last place (b.more_of-Expr e rest) =
      if nat_lt (rank (printed e).level) (rank place) then placed place (printed e) else closed e

  -- the operators of a chain, each with its operand, of which the last one ends the expression
  pub closed_links : {n : _} → Level → b.Row_of-Expr-Chain-1-2 n → List Terminal
  closed_links level b.end_of-Expr-Chain-1-2 = []
  closed_links level (b.more_of-Expr-Chain-1-2 op e b.end_of-Expr-Chain-1-2) =
      mark (operator_mark op)
      ∷ (if nat_lt (rank (printed e).level) (rank (operands level))
      then placed (operands level) (printed e) else closed e)
  closed_links level (b.more_of-Expr-Chain-1-2 op e (b.more_of-Expr-Chain-1-2 o x rest)) =
      mark (operator_mark op) ∷ (placed (operands level) (printed e)
      ++ closed_links level (b.more_of-Expr-Chain-1-2 o x rest))

-- an expression at a place that it ends
abbrev pub closed_at : Level → Expr → List Terminal
closed_at place e =
    if nat_lt (rank (printed e).level) (rank place) then placed place (printed e) else closed e

-- an operator with its operand, which others follow or which ends the chain
abbrev pub link_at : Level → Bool → ChainOp × Expr → List Terminal
link_at level true x = mark (operator_mark x.0) ∷ placed (operands level) (printed x.1)
link_at level false x = mark (operator_mark x.0) ∷ closed_at (operands level) x.1

-- the links of a chain, of which the last one ends it
abbrev pub closed_chain : Level → List (ChainOp × Expr) → List Terminal
closed_chain level [] = []
closed_chain level (x ∷ []) = link_at level false x
closed_chain level (x ∷ y ∷ more) = link_at level true x ++ closed_chain level (y ∷ more)
