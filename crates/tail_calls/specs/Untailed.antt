-- The text of a function with its self calls as turns of a loop, and what it reads as.
use Rattle.std.specs.Prelude.{◌≡◌, ◌≤◌, ◌<◌, ℕ, List, length}
use Rattle.away_trees.specs.declared.schemas.Schema.{Schema}
use Rattle.away_trees.specs.declared.statements.Function.{Function}
use Rattle.away_trees.specs.Limits.{KeepsLimits}
use Rattle.away_grammar.specs.FunctionGrammar.{ReadsFunction}
use Rattle.away_lex.specs.declared.refusals.LimitKind.{LimitKind}
use Rattle.away_lex.specs.declared.refusals.LimitKind.TheVariants as limit
use Rattle.away_types.specs.declared.slots.Slot.{Slot}
use Rattle.call_answers.specs.Laws.{AnswersLikeSelfCaller}
use Rattle.call_expand.specs.Untailing.{IsUntailing}
use Rattle.function_printer.specs.FunctionTexts.{function_text}
use Rattle.plsql_parse.specs.Refusals.{Exceeds, MayBeRead}
use Rattle.tail_calls.specs.declared.refusals.Grown.{Grown}
use Rattle.tail_calls.specs.declared.refusals.Grown.TheVariants as grown
use Rattle.tail_calls.specs.declared.refusals.WriteRefusal.{WriteRefusal}
use Rattle.tail_calls.specs.declared.refusals.WriteRefusal.TheVariants as refusal

-- the most bytes of a function's file
abbrev pub most_bytes : ℕ
most_bytes = 1048576

-- The text is that of a function with its self calls as turns of a loop.
pub record IsUntailedText (s : Schema) (f : Function) (text : List ℕ) : Type 0 where
  pub tree : Function
  pub untails : IsUntailing s f tree
  pub text_is : text ≡ function_text tree

-- ---- limits

-- the text reads as this function, within the limits on what is counted of a function
pub record ReadsWithin (text : List ℕ) (f : Function) : Type 0 where
  pub may_be_read : MayBeRead text
  pub reads : ReadsFunction text f
  pub within_limits : KeepsLimits f

-- a limit of what is read as one of what is written
abbrev pub grown_by : LimitKind → Grown
grown_by limit.Nesting = grown.Nesting
grown_by limit.Nodes = grown.Nodes
grown_by limit.Variables = grown.Variables
grown_by limit.Loops = grown.Loops

-- The first limit of those on what is read that the text exceeds: of nesting, nodes, variables and
-- FOR loops, and behind them of bytes.
abbrev pub Outgrows : List ℕ → Grown → ℕ → Type 0
Outgrows text grown.Nesting found = Exceeds limit.Nesting text found
Outgrows text grown.Nodes found = Exceeds limit.Nodes text found
Outgrows text grown.Variables found = Exceeds limit.Variables text found
Outgrows text grown.Loops found = Exceeds limit.Loops text found
Outgrows text grown.Bytes found =
    ((f : Function) × ReadsWithin text f) × (found ≡ length text) × (most_bytes < found)

-- a text that outgrows a limit, by what is told
abbrev pub RefusesText : List ℕ → WriteRefusal → Type 0
RefusesText text (refusal.Limit which found) = Outgrows text which found
RefusesText text refusal.NoMemory = Unit {0}

-- the text may be the file of this function
pub record IsFileOf (text : List ℕ) (f : Function) : Type 0 where
  pub reads_as : ReadsWithin text f
  pub short : length text ≤ most_bytes

-- ---- the whole

-- The text of a function with its self calls as turns reads as a function that breaks no rule, and
-- answers as the function that calls itself.
pub record IsUntailed (s : Schema) (f : Function) (text : List ℕ) (checked : Function)
    (slots : List Slot) : Type 0 where
  pub text_of : IsUntailedText s f text
  pub written : Function
  pub file : IsFileOf text written
  pub answers : AnswersLikeSelfCaller s f written checked slots

-- such a text outgrows a limit
pub record Outgrown (s : Schema) (f : Function) (which : Grown) (found : ℕ) : Type 0 where
  pub text : List ℕ
  pub text_of : IsUntailedText s f text
  pub outgrows : Outgrows text which found

-- by what is told
abbrev pub Refuses : Schema → Function → WriteRefusal → Type 0
Refuses s f (refusal.Limit which found) = Outgrown s f which found
Refuses s f refusal.NoMemory = Unit {0}
