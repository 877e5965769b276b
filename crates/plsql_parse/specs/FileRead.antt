-- What the parts of the reader of a whole file answer.
use Rattle.std.specs.Prelude.{◌≡◌, ◌<◌, ℕ, List, [], Some, None, Result, Ok, Err}
use Rattle.away_trees.specs.declared.statements.Function.{Function}
use Rattle.away_trees.specs.declared.statements.Stmt.{Stmt}
use Rattle.away_grammar.specs.FunctionGrammar.{Part, PartTree, function}
use Rattle.away_grammar.specs.FunctionFile.{LexesFile}
use Rattle.away_grammar.specs.OutsideWords.{outside_word}
use Rattle.away_grammar.specs.Terminals.{Terminal}
use Rattle.away_grammar.specs.Texts.{IsText}
use Rattle.away_grammar.specs.Tokens.{Lexeme}
use Rattle.away_lex.specs.declared.refusals.LimitKind.TheVariants as limit
use Rattle.away_lex.specs.declared.refusals.ReadRefusal.{ReadRefusal}
use Rattle.away_lex.specs.declared.refusals.ReadRefusal.TheVariants as refusal
use Rattle.sql_text.specs.Plans.{Runs}
use Rattle.sql_text.specs.declared.refusal.Refusal.{Refusal}
use Rattle.sql_text.specs.declared.refusal.Refusal.TheVariants.{NoTree, NoMemory}
use Rattle.plsql_parse.specs.declared.headers.Header.{Header}
use Rattle.plsql_parse.specs.HeaderRead.{answered}
use Rattle.plsql_parse.specs.Plans.{any_plan, part_plan, FileGives}
use Rattle.plsql_parse.specs.Refusals.{HasLists, IsOutside, CountExceeds, most_nesting}
use Rattle.plsql_parse.specs.Sorts.{AnyTree, part}

-- the part's plan gives this, and nothing is left
abbrev pub GivesAll : (p : Part) → List Terminal → PartTree p → Type 0
GivesAll p ts x = Runs AnyTree any_plan (part p) (part_plan p) ts (Some (x, []))

-- the tree of the part that a whole list is, or it is none
abbrev pub PartRead : (p : Part) → List Terminal → Result (PartTree p) Refusal → Type 0
PartRead p ts (Ok x) = GivesAll p ts x
PartRead p ts (Err NoTree) = (x : PartTree p) → ¬ (GivesAll p ts x)
PartRead p ts (Err NoMemory) = Unit {0}

-- The header that a whole list is, around whichever body, or it is none.
abbrev pub HeaderIs : List Terminal → Result Header Refusal → Type 0
HeaderIs ts result = (inside : Stmt) → PartRead (function inside) ts (answered inside result)

-- the function that a file's two lists are, or they are none
abbrev pub FileRead : List Lexeme → List Lexeme → Result Function Refusal → Type 0
FileRead outer inner (Ok f) = FileGives outer inner f
FileRead outer inner (Err NoTree) = (f : Function) → ¬ (FileGives outer inner f)
FileRead outer inner (Err NoMemory) = Unit {0}

-- why no token lists are read from bytes
abbrev pub RefusesLists : List ℕ → ReadRefusal → Type 0
RefusesLists bytes refusal.NotText = ¬ (IsText bytes)
RefusesLists bytes (refusal.Token offset) = IsText bytes
    × ((outer : List Lexeme) × ((inner : List Lexeme) × LexesFile bytes outer inner (Some offset)))
RefusesLists bytes (refusal.Limit which found) =
    (which ≡ limit.Nesting) × ((outer : List Lexeme) × ((inner : List Lexeme) × HasLists bytes outer inner found)) × (most_nesting < found)
RefusesLists bytes refusal.NoMemory = Unit {0}
RefusesLists bytes other = ⊥

-- why the lists, which are no function, are refused
abbrev pub RefusesWords : List Lexeme → List Lexeme → ReadRefusal → Type 0
RefusesWords outer inner refusal.NoTree = outside_word outer inner ≡ None
RefusesWords outer inner (refusal.Outside word) = IsOutside outer inner word
RefusesWords outer inner refusal.NoMemory = Unit {0}
RefusesWords outer inner other = ⊥

-- why the function, which was read, is refused
abbrev pub RefusesFunction : Function → ReadRefusal → Type 0
RefusesFunction f (refusal.Limit which found) = CountExceeds f which found
RefusesFunction f refusal.NoMemory = Unit {0}
RefusesFunction f other = ⊥
