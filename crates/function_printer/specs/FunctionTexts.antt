-- The texts that functions, expressions and parts of selects print as.
use Rattle.std.specs.Prelude.{
  ℕ,
  Bool,
  true,
  false,
  if◌then◌else◌,
  List,
  [],
  ◌∷◌,
  ◌++◌,
  map,
  None,
}
use Rattle.away_grammar.specs.declared.grammar.Mark.TheVariants as m
use Rattle.away_grammar.specs.declared.grammar.Level.TheVariants as l
use Rattle.away_trees.specs.declared.queries.Expr.{Expr}
use Rattle.away_trees.specs.declared.queries.Select.{Select}
use Rattle.away_trees.specs.declared.statements.Stmt.{Stmt}
use Rattle.away_trees.specs.declared.statements.Function.{Function}
use Rattle.away_grammar.specs.Reserved.{calls}
use Rattle.away_grammar.specs.Terminals.{Terminal, mark, token_terminals}
use Rattle.away_grammar.specs.Grammar.{Reads, at}
use Rattle.away_grammar.specs.Tokens.{Lexeme, Lexes}
use Rattle.away_grammar.specs.Spacing.{Written, laid}
use Rattle.away_grammar.specs.Printing.{spelled, terminals_text}
use Rattle.function_printer.specs.Closed.{closed}
use Rattle.function_printer.specs.FunctionTerminals.{
  whole,
  list_of,
  clauses_of,
  statement_terminals,
  function_terminals,
}
use Rattle.function_printer.specs.Tags.{free_mark}

-- what is written, and nothing behind it
abbrev pub written_alone : List Written → List ℕ
written_alone [] = []
written_alone (w ∷ ws) = (if w.spaced then 32 ∷ w.text else w.text) ++ written_alone ws

-- terminals with the spacing of printed text, without a line feed at the end
abbrev pub spaced_text : List Terminal → List ℕ
spaced_text terminals = written_alone (laid calls (map spelled terminals))

-- the terminals of an expression, which may stand before LOOP where it is closed
abbrev pub expression_terminals : Expr → Bool → List Terminal
expression_terminals e true = closed e
expression_terminals e false = whole e

unfoldable pub expression_text : Expr → Bool → List ℕ
expression_text e is_closed = spaced_text (expression_terminals e is_closed)

-- The text has tokens, all of which read as the expression.
abbrev pub ReadsExpression : List ℕ → Expr → Type 0
ReadsExpression z x =
    (tokens : List Lexeme) × Lexes 0 z tokens None × Reads (at l.Or) (token_terminals tokens) x []

-- SELECT with the list, and what follows the list
unfoldable pub list_text : Select → List ℕ
list_text q = spaced_text (mark m.Select ∷ list_of q)

unfoldable pub clauses_text : Select → List ℕ
clauses_text q = spaced_text (clauses_of q)

-- two texts with a space between them, or the first alone where the second is empty
abbrev pub with_space : List ℕ → List ℕ → List ℕ
with_space first [] = first
with_space first (b ∷ z) = first ++ 32 ∷ b ∷ z

-- what stands between the marks of a function's dollar quote
abbrev pub body_text : Stmt → List ℕ
body_text body = 32 ∷ (spaced_text (statement_terminals body) ++ 32 ∷ [])

-- a text between the marks of a tag that is free in it
abbrev pub in_marks : List ℕ → List ℕ
in_marks text = free_mark text ++ (text ++ free_mark text)

-- the one text of a function
unfoldable pub function_text : Function → List ℕ
function_text f = terminals_text (function_terminals f (in_marks (body_text f.body)))
