-- Expressions that writable terminals read as.
use Rattle.std.specs.Prelude.{ℕ, true, List}
use Rattle.away_grammar.specs.declared.grammar.Level.TheVariants as l
use Rattle.away_trees.specs.declared.queries.Expr.{Expr}
use Rattle.away_grammar.specs.Grammar.{at}
use Rattle.away_grammar.specs.Terminals.{Terminal}
use Rattle.sql_printer.specs.Writable.{AllWritable}
use Rattle.cte_prints.specs.ReadsIn.{ReadsIn}

-- Writable terminals begin with what reads as the expression, with at most so many brackets one
-- inside another.
pub record IsReadWithin (d : ℕ) (x : Expr) : Type 0 where
  pub terminals : List Terminal
  pub rest : List Terminal
  pub writable : AllWritable terminals
  pub reads : ReadsIn true d (at l.Or) terminals x rest
