-- What the laws of this crate say.
use Rattle.std.specs.Prelude.{◌≡◌, ℕ, max, false, List, ◌++◌}
use Rattle.away_grammar.specs.Nesting.{IsNesting}
use Rattle.away_grammar.specs.Terminals.{Terminal}
use Rattle.away_lex.specs.declared.refusals.LimitKind.TheVariants as limit
use Rattle.away_trees.specs.declared.queries.Expr.{Expr}
use Rattle.away_trees.specs.declared.schemas.Schema.{Schema}
use Rattle.away_trees.specs.declared.statements.Function.{Function}
use Rattle.away_trees.specs.Count.{nodes}
use Rattle.away_trees.specs.Limits.{loops, variables}
use Rattle.call_expand.specs.Expanding.{IsExpansion, function_at}
use Rattle.function_printer.specs.Closed.{closed}
use Rattle.function_printer.specs.FunctionTerminals.{statement_terminals, whole}
use Rattle.away_trees.specs.declared.statements.Stmt.{Stmt}
use Rattle.away_trees.specs.StatementAlgebra.{stmt_of}
use Rattle.away_names.specs.Lookups.{Name}
use Rattle.moved_names.specs.Renamed.{renamed_expr}
use Rattle.expanded_sizes.specs.Depths.{HeadsClose, begins, depth, expr_depth, nesting}
use Rattle.expanded_sizes.specs.PrintedTokens.{ArePlain, tokens_from}
use Rattle.expanded_sizes.specs.Told.{size}

-- the sizes are the counts of the function in which the calls are expanded
pub record AreCounts (fs : List Function) (f : Function) : Type 0 where
  pub nodes_are : nodes f ≡ size fs limit.Nodes
  pub variables_are : variables f ≡ size fs limit.Variables
  pub loops_are : loops f ≡ size fs limit.Loops

abbrev pub SumsAreCounts : Type 0
SumsAreCounts = (s : Schema) (fs : List Function) (f : Function) → IsExpansion s fs f
    → AreCounts fs f

abbrev pub ExpressionsAreBalanced : Type 0
ExpressionsAreBalanced = (e : Expr) (rest : List Terminal) → begins rest ≡ false
    → depth (whole e ++ rest) ≡ max (depth (whole e)) (depth rest)

-- names are of no weight
abbrev pub NamesDontNest : Type 0
NamesDontNest = (to : Name → Name) (e : Expr)
    → (expr_depth (renamed_expr to e) ≡ expr_depth e)
    × (depth (closed (renamed_expr to e)) ≡ depth (closed e))

-- the size of nesting is that of the body in which calls are expanded, by its parts
abbrev pub NestsByParts : Type 0
NestsByParts = (s : Schema) (fs : List Function) (f : Function) → IsExpansion s fs f
    → stmt_of (nesting expr_depth expr_depth) f.body ≡ size fs limit.Nesting

-- the printed body of a function nests as deep as its parts say, where no head of a loop ends with
-- END
abbrev pub BodiesNest : Type 0
BodiesNest = (body : Stmt) → HeadsClose body
    → depth (statement_terminals body) ≡ stmt_of (nesting expr_depth expr_depth) body

-- the tokens of terminals nest as deep as the terminals, where no name is a word that nests
abbrev pub TokensNest : Type 0
TokensNest = (ts : List Terminal) (start : ℕ) → ArePlain ts
    → IsNesting (tokens_from start ts) (depth ts)

-- The size of nesting is that of the tokens which the body prints as in which the calls are
-- expanded, where no head of a loop ends with END in the functions, and no name is a word that
-- nests. Both hold of functions that were read.
abbrev pub NestingIsOfTokens : Type 0
NestingIsOfTokens = (s : Schema) (fs : List Function) (f : Function) → IsExpansion s fs f
    → ((i : ℕ) → HeadsClose (function_at fs i).body)
    → ArePlain (statement_terminals f.body)
    → (start : ℕ)
    → IsNesting (tokens_from start (statement_terminals f.body)) (size fs limit.Nesting)
