-- The text of the function in which a program's calls are expanded, and what it reads as. The first
-- function of the list is the main one.
use Rattle.std.specs.Prelude.{◌≡◌, ℕ, List}
use Rattle.away_trees.specs.declared.schemas.Schema.{Schema}
use Rattle.away_trees.specs.declared.statements.Function.{Function}
use Rattle.away_lex.specs.declared.refusals.LimitKind.{LimitKind}
use Rattle.away_lex.specs.declared.refusals.LimitKind.TheVariants as limit
use Rattle.away_types.specs.declared.slots.Slot.{Slot}
use Rattle.call_answers.specs.Laws.{AnswersLikeProgram}
use Rattle.call_expand.specs.Expanding.{IsExpansion}
use Rattle.expanded_sizes.specs.Told.{Fits, IsTooLarge}
use Rattle.function_printer.specs.FunctionTexts.{function_text}
use Rattle.tail_calls.specs.declared.refusals.Grown.{Grown}
use Rattle.tail_calls.specs.declared.refusals.Grown.TheVariants as grown
use Rattle.tail_calls.specs.declared.refusals.WriteRefusal.{WriteRefusal}
use Rattle.tail_calls.specs.declared.refusals.WriteRefusal.TheVariants as refusal
use Rattle.tail_calls.specs.Untailed.{IsFileOf, Outgrows}

-- The text is that of the main function with its calls expanded.
pub record IsExpandedText (s : Schema) (fs : List Function) (text : List ℕ) : Type 0 where
  pub tree : Function
  pub expands : IsExpansion s fs tree
  pub text_is : text ≡ function_text tree

-- what is counted of that function is within its limits
abbrev pub AllFit : List Function → Type 0
AllFit fs = (which : LimitKind) → Fits fs which

-- The text reads as a function that breaks no rule, and answers as the program's main function.
pub record IsExpanded (s : Schema) (fs : List Function) (text : List ℕ) (checked : Function)
    (slots : List Slot) : Type 0 where
  pub sizes : AllFit fs
  pub text_of : IsExpandedText s fs text
  pub written : Function
  pub file : IsFileOf text written
  pub answers : AnswersLikeProgram s fs written checked slots

-- ---- limits

-- What is counted is within its limits, and such a text has more bytes than a function's file.
pub record IsTooLong (s : Schema) (fs : List Function) (found : ℕ) : Type 0 where
  pub sizes : AllFit fs
  pub text : List ℕ
  pub text_of : IsExpandedText s fs text
  pub outgrows : Outgrows text grown.Bytes found

-- the first limit that the function with its calls expanded exceeds: of nesting, nodes, variables
-- and FOR loops, and behind them of bytes
abbrev pub Exceeds : Schema → List Function → Grown → ℕ → Type 0
Exceeds s fs grown.Nesting found = IsTooLarge fs limit.Nesting found
Exceeds s fs grown.Nodes found = IsTooLarge fs limit.Nodes found
Exceeds s fs grown.Variables found = IsTooLarge fs limit.Variables found
Exceeds s fs grown.Loops found = IsTooLarge fs limit.Loops found
Exceeds s fs grown.Bytes found = IsTooLong s fs found

-- by what is told
abbrev pub Refuses : Schema → List Function → WriteRefusal → Type 0
Refuses s fs (refusal.Limit which found) = Exceeds s fs which found
Refuses s fs refusal.NoMemory = Unit {0}

-- ---- by parts

-- by what is told of sizes
abbrev pub RefusesSizes : List Function → WriteRefusal → Type 0
RefusesSizes fs (refusal.Limit grown.Nesting found) = IsTooLarge fs limit.Nesting found
RefusesSizes fs (refusal.Limit grown.Nodes found) = IsTooLarge fs limit.Nodes found
RefusesSizes fs (refusal.Limit grown.Variables found) = IsTooLarge fs limit.Variables found
RefusesSizes fs (refusal.Limit grown.Loops found) = IsTooLarge fs limit.Loops found
RefusesSizes fs (refusal.Limit grown.Bytes found) = ⊥
RefusesSizes fs refusal.NoMemory = Unit {0}

-- by what is told of a text whose sizes are within their limits
abbrev pub RefusesLength : List ℕ → WriteRefusal → Type 0
RefusesLength text (refusal.Limit grown.Nesting found) = ⊥
RefusesLength text (refusal.Limit grown.Nodes found) = ⊥
RefusesLength text (refusal.Limit grown.Variables found) = ⊥
RefusesLength text (refusal.Limit grown.Loops found) = ⊥
RefusesLength text (refusal.Limit grown.Bytes found) = Outgrows text grown.Bytes found
RefusesLength text refusal.NoMemory = Unit {0}
