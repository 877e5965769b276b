-- When a file is read as a function, and what each refusal says.
use Rattle.std.specs.Prelude.{◌≡◌, ◌≤◌, ◌<◌, ℕ, List, Some, None}
use Rattle.away_trees.specs.declared.statements.Function.{Function}
use Rattle.away_trees.specs.Count.{nodes}
use Rattle.away_grammar.specs.FunctionFile.{LexesFile}
use Rattle.away_grammar.specs.FunctionGrammar.{ReadsFunction}
use Rattle.away_grammar.specs.Nesting.{IsNesting}
use Rattle.away_grammar.specs.OutsideWords.{outside_word}
use Rattle.away_grammar.specs.Reserved.{folded}
use Rattle.away_grammar.specs.Texts.{IsText}
use Rattle.away_grammar.specs.Tokens.{Lexeme}
use Rattle.away_lex.specs.declared.refusals.LimitKind.{LimitKind}
use Rattle.away_lex.specs.declared.refusals.LimitKind.TheVariants as limit
use Rattle.away_lex.specs.declared.refusals.ReadRefusal.{ReadRefusal}
use Rattle.away_lex.specs.declared.refusals.ReadRefusal.TheVariants.{
  NotText,
  Token,
  NoTree,
  Outside,
  Limit,
  NoMemory,
}
use Rattle.away_trees.specs.Limits.{variables, loops, most_nodes, most_variables, most_loops}

-- ---- limits

-- the greatest nesting of a body that is read
abbrev pub most_nesting : ℕ
most_nesting = 64

-- ---- tokens

-- The bytes are a text with these two lists of tokens and no bad one, and the body's list nests so
-- deep.
pub record HasLists (bytes : List ℕ) (outer inner : List Lexeme) (nesting : ℕ) : Type 0 where
  pub text : IsText bytes
  pub lists_are : LexesFile bytes outer inner None
  pub nesting_is : IsNesting inner nesting

-- The bytes are a text with these two lists of tokens and no bad one, and the body's list nests no
-- deeper than is read.
abbrev pub HasFewTokens : List ℕ → List Lexeme → List Lexeme → Type 0
HasFewTokens bytes outer inner = (nesting : ℕ) × HasLists bytes outer inner nesting × (nesting ≤ most_nesting)

-- The bytes are a text without a bad token, and the body's list nests no deeper than is read.
abbrev pub MayBeRead : List ℕ → Type 0
MayBeRead bytes = (outer : List Lexeme) × ((inner : List Lexeme) × HasFewTokens bytes outer inner)

-- ---- refusals

-- The bytes read as no function.
abbrev pub ReadsNone : List ℕ → Type 0
ReadsNone bytes = (f : Function) → ¬ (ReadsFunction bytes f)

-- The token is the first word outside the profile, and this is the word in lower case.
abbrev pub IsOutside : List Lexeme → List Lexeme → List ℕ → Type 0
IsOutside outer inner word = (t : Lexeme) × (outside_word outer inner ≡ Some t) × (word ≡ folded t.text)

-- This count of the function exceeds its limit, and no count before it exceeds its own.
abbrev pub CountExceeds : Function → LimitKind → ℕ → Type 0
CountExceeds f limit.Nesting found = ⊥
CountExceeds f limit.Nodes found = (found ≡ nodes f) × (most_nodes < found)
CountExceeds f limit.Variables found = (nodes f ≤ most_nodes) × (found ≡ variables f) × (most_variables < found)
CountExceeds f limit.Loops found = (nodes f ≤ most_nodes) × (variables f ≤ most_variables) × (found ≡ loops f) × (most_loops < found)

-- The nesting of the body's list exceeds its limit, or a count of the function that the bytes read
-- as does.
abbrev pub Exceeds : LimitKind → List ℕ → ℕ → Type 0
Exceeds limit.Nesting bytes found = ((outer : List Lexeme) × ((inner : List Lexeme) × HasLists bytes outer inner found)) × (most_nesting < found)
Exceeds which bytes found = MayBeRead bytes × ((f : Function) × ReadsFunction bytes f × CountExceeds f which found)

-- Why no function is read from bytes: the first of these reasons that holds.
abbrev pub Refuses : List ℕ → ReadRefusal → Type 0
Refuses bytes NotText = ¬ (IsText bytes)
Refuses bytes (Token offset) = IsText bytes × ((outer : List Lexeme) × ((inner : List Lexeme) × LexesFile bytes outer inner (Some offset)))
Refuses bytes NoTree =
    ReadsNone bytes × ((outer : List Lexeme) × ((inner : List Lexeme) × HasFewTokens bytes outer inner × (outside_word outer inner ≡ None)))
Refuses bytes (Outside word) =
    ReadsNone bytes × ((outer : List Lexeme) × ((inner : List Lexeme) × HasFewTokens bytes outer inner × IsOutside outer inner word))
Refuses bytes (Limit which found) = Exceeds which bytes found
Refuses bytes NoMemory = Unit {0}
