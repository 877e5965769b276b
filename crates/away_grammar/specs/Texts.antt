-- What it is for a text to read as a query or as a schema, and for a part of a token list to read
-- as an expression.
use Rattle.std.specs.Prelude.{◌≤◌, ℕ, List, [], drop, length, Contains, IsUtf8, None}
use Rattle.away_grammar.specs.declared.grammar.Level.TheVariants as l
use Rattle.away_trees.specs.declared.queries.Expr.{Expr}
use Rattle.away_trees.specs.declared.queries.Query.{Query}
use Rattle.away_trees.specs.declared.schemas.Schema.{Schema}
use Rattle.away_grammar.specs.Tokens.{Lexeme, Lexes}
use Rattle.away_grammar.specs.Terminals.{token_terminals}
use Rattle.away_grammar.specs.Grammar.{at, file, tables, Reads, Stops}

-- UTF-8 without U+0000
pub record IsText (bytes : List ℕ) : Type 0 where
  pub utf8 : IsUtf8 bytes
  pub no_zero : Contains bytes 0 → ⊥

-- The text has no bad token, and the grammar reads all of its tokens as the query.
abbrev pub ReadsQuery : List ℕ → Query → Type 0
ReadsQuery z q = (ts : List Lexeme) × Lexes 0 z ts None × Reads file (token_terminals ts) q []

-- The text has no bad token, and the grammar reads all of its tokens as the tables of the schema.
abbrev pub ReadsSchema : List ℕ → Schema → Type 0
ReadsSchema z s = (ts : List Lexeme) × Lexes 0 z ts None × Reads tables (token_terminals ts) s.tables []

-- The grammar reads the tokens of the list from one place up to another as the expression, and the
-- token there can't continue it.
pub record IsExpression (list : List Lexeme) (begin : ℕ) (x : Expr) (end : ℕ) : Type 0 where
  pub forward : begin ≤ end
  pub within : end ≤ length list
  pub reads : Reads (at l.Or) (token_terminals (drop begin list)) x (token_terminals (drop end list))
  pub stops : Stops (at l.Or) (token_terminals (drop end list))
