-- Nor is one of an expression before LOOP.
use Rattle.std.proofs.Common.{refl, Bool, true, false, if◌then◌else◌, nat_lt}
use Rattle.away_grammar.specs.declared.grammar.Mark.TheVariants as m
use Rattle.away_grammar.specs.declared.grammar.Level.{Level}
use Rattle.away_grammar.specs.declared.grammar.Level.TheVariants as l
use Rattle.away_trees.specs.declared.queries.Expr.{Expr}
use Rattle.away_trees.specs.declared.queries.Expr.TheBlock as b
use Rattle.away_trees.specs.Algebra.{head_or, exprs_of, links_of}
use Rattle.away_grammar.specs.Grammar.{operands, rank}
use Rattle.away_grammar.specs.Printing.{placed, printed, printing, chain_level}
use Rattle.function_printer.specs.Closed.{closed, closed_last, closed_links}
use Rattle.function_printer.proofs.Plain.{Plain, plain_end, plain_more, joins, plain_placed, plain_perhaps, expr_plain, row_head_plain}

last_by : (c : Bool) (place : Level) (x : Expr) → Plain (closed x) → Plain (if c then placed place (printed x) else closed x)
last_by true place x h = plain_placed place (printed x) (expr_plain x)
last_by false place x h = h

inner_plain : {n : _} (place : Level) (x : b.Row_of-Expr n) → Plain (placed place (head_or printing.no_expr (exprs_of printing x)))
inner_plain place x = plain_placed place (head_or printing.no_expr (exprs_of printing x)) (row_head_plain x)

whole_plain : (x : Expr) → Plain (placed l.Or (printed x))
whole_plain x = plain_placed l.Or (printed x) (expr_plain x)

mutual
  pub closed_plain : (x : Expr) → Plain (closed x)
  closed_plain (b.Neg' _ x) = (plain_more refl (last_plain l.Cast x))
  closed_plain (b.NegSmall' _ x) = (plain_more refl (last_plain l.Cast x))
  closed_plain (b.Not' _ x) = (plain_more refl (last_plain l.Is x))
  closed_plain (b.Chain' _ x _ links) =
      joins (placed (operands (chain_level (links_of printing links))) (head_or printing.no_expr (exprs_of printing x)))
      (inner_plain (operands (chain_level (links_of printing links))) x) (links_plain (chain_level (links_of printing links)) links)
  closed_plain (b.Compare' o _ x _ y) =
      joins (placed l.Range (head_or printing.no_expr (exprs_of printing x))) (inner_plain l.Range x) (plain_more refl (last_plain l.Range y))
  closed_plain (b.Between' n _ x _ y _ z) =
      joins (placed l.Concat (head_or printing.no_expr (exprs_of printing x))) (inner_plain l.Concat x)
      (plain_perhaps n m.Not (plain_more refl
      (joins (placed l.Concat (head_or printing.no_expr (exprs_of printing y))) (inner_plain l.Concat y) (plain_more refl (last_plain l.Concat z)))))
  closed_plain (b.Cases' s arms other) =
      (plain_more refl (joins (placed l.Or (printed (b.Cases' s arms other))) (whole_plain (b.Cases' s arms other)) (plain_more refl plain_end)))
  closed_plain (b.Int n) = whole_plain (b.Int n)
  closed_plain (b.Str t) = whole_plain (b.Str t)
  closed_plain (b.Bool v) = whole_plain (b.Bool v)
  closed_plain b.Null = whole_plain b.Null
  closed_plain (b.Named n) = whole_plain (b.Named n)
  closed_plain (b.Dotted n c) = whole_plain (b.Dotted n c)
  closed_plain (b.Slot i) = whole_plain (b.Slot i)
  closed_plain (b.Column c) = whole_plain (b.Column c)
  closed_plain (b.Param i ty) = whole_plain (b.Param i ty)
  closed_plain (b.Is' p x test n) = whole_plain (b.Is' p x test n)
  closed_plain (b.OneOf' n p x s xs) = whole_plain (b.OneOf' n p x s xs)
  closed_plain (b.Cast' p x ty) = whole_plain (b.Cast' p x ty)
  closed_plain (b.Call' n s xs) = whole_plain (b.Call' n s xs)
  closed_plain b.CountRows = whole_plain b.CountRows
  closed_plain (b.Scalar' p q) = whole_plain (b.Scalar' p q)
  closed_plain (b.Exists' p q) = whole_plain (b.Exists' p q)

  last_plain : {n : _} (place : Level) (x : b.Row_of-Expr n) → Plain (closed_last place x)
  last_plain place b.end_of-Expr = plain_end
  last_plain place (b.more_of-Expr x rest) = last_by (nat_lt (rank (printed x).level) (rank place)) place x (closed_plain x)

  links_plain : {n : _} (level : Level) (xs : b.Row_of-Expr-Chain-1-2 n) → Plain (closed_links level xs)
  links_plain level b.end_of-Expr-Chain-1-2 = plain_end
  links_plain level (b.more_of-Expr-Chain-1-2 o x b.end_of-Expr-Chain-1-2) =
      (plain_more refl (last_by (nat_lt (rank (printed x).level) (rank (operands level))) (operands level) x (closed_plain x)))
  links_plain level (b.more_of-Expr-Chain-1-2 o x (b.more_of-Expr-Chain-1-2 p y rest)) =
      (plain_more refl (joins (placed (operands level) (printed x)) (plain_placed (operands level) (printed x) (expr_plain x))
      (links_plain level (b.more_of-Expr-Chain-1-2 p y rest))))
