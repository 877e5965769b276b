-- When the public readers give a tree, and what each of their refusals says.
use Rattle.std.specs.Prelude.{◌≡◌, ◌≤◌, ◌<◌, ℕ, List, Some, None}
use Rattle.away_trees.specs.declared.queries.Expr.{Expr}
use Rattle.away_grammar.specs.Terminals.{Terminal, token_terminals}
use Rattle.away_grammar.specs.Tokens.{Lexeme, Lexes}
use Rattle.away_grammar.specs.Nesting.{IsNesting}
use Rattle.away_grammar.specs.Texts.{IsText, IsExpression}
use Rattle.away_lex.specs.declared.refusals.LimitKind.TheVariants as limit
use Rattle.away_lex.specs.declared.refusals.ReadRefusal.{ReadRefusal}
use Rattle.away_lex.specs.declared.refusals.ReadRefusal.TheVariants.{
  NotText,
  Token,
  NoTree,
  Outside,
  Limit,
  NoMemory,
}

-- the greatest nesting of tokens that is read
abbrev pub most_nesting : ℕ
most_nesting = 256

-- The bytes are a text with these tokens and no bad one, and they nest so deep.
pub record HasTokens (bytes : List ℕ) (tokens : List Lexeme) (nesting : ℕ) : Type 0 where
  pub text : IsText bytes
  pub tokens_are : Lexes 0 bytes tokens None
  pub nesting_is : IsNesting tokens nesting

-- The bytes are a text with these tokens and no bad one, and they nest no deeper than is read.
abbrev pub HasFewTokens : List ℕ → List Lexeme → Type 0
HasFewTokens bytes tokens = (nesting : ℕ) × HasTokens bytes tokens nesting × (nesting ≤ most_nesting)

-- These are what the tokens are of bytes that are a text with no bad token and nest no deeper than
-- is read.
pub record HasTerminals (bytes : List ℕ) (terminals : List Terminal) : Type 0 where
  pub tokens : List Lexeme
  pub few : HasFewTokens bytes tokens
  pub of_tokens : terminals ≡ token_terminals tokens

-- The bytes are a text without a bad token whose tokens nest no deeper than is read.
abbrev pub MayBeRead : List ℕ → Type 0
MayBeRead bytes = (tokens : List Lexeme) × HasFewTokens bytes tokens

-- why no tokens are read from bytes
abbrev pub RefusesTokens : List ℕ → ReadRefusal → Type 0
RefusesTokens bytes NotText = ¬ (IsText bytes)
RefusesTokens bytes (Token offset) = IsText bytes × ((before : List Lexeme) × Lexes 0 bytes before (Some offset))
RefusesTokens bytes NoTree = ⊥
RefusesTokens bytes (Outside word) = ⊥
RefusesTokens bytes (Limit which found) = (which ≡ limit.Nesting) × ((tokens : List Lexeme) × HasTokens bytes tokens found) × (most_nesting < found)
RefusesTokens bytes NoMemory = Unit {0}

-- Why no tree is read from bytes, where the trees that they read as are these: the first of these
-- reasons that holds.
abbrev pub Refuses : {A : Type 0} → (A → Type 0) → List ℕ → ReadRefusal → Type 0
Refuses {A = A} Trees bytes NoTree = MayBeRead bytes × ((tree : A) → ¬ (Trees tree))
Refuses Trees bytes other = RefusesTokens bytes other

-- the refusal says that no expression of the list begins at the place, or that no memory was left
abbrev pub NoExpression : List Lexeme → ℕ → ReadRefusal → Type 0
NoExpression list begin NoTree = (x : Expr) (end : ℕ) → ¬ (IsExpression list begin x end)
NoExpression list begin NoMemory = Unit {0}
NoExpression list begin other = ⊥
