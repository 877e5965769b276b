-- What `explain` tells of a function's file that is refused: where, by which rule, and why.
use Rattle.std.specs.Prelude.{◌≡◌, ◌⊎◌, ◌==◌, ℕ, ◌+◌, Bool, true, false, List, [], ◌++◌, length, codes, Some, None}
use Rattle.std.specs.declared.option.Option.{Option}
use Rattle.std.specs.Fmt.{decimal}
use Rattle.away_grammar.specs.FunctionFile.{LexesFile}
use Rattle.away_grammar.specs.Tokens.{Lexeme}
use Rattle.away_lex.specs.declared.refusals.ReadRefusal.{ReadRefusal}
use Rattle.away_lex.specs.declared.refusals.ReadRefusal.TheVariants.{
  NotText,
  Token,
  NoTree,
  Outside,
  Limit,
  NoMemory,
}
use Rattle.away_names.specs.declared.rule.Rule.{Rule}
use Rattle.away_names.specs.declared.rule.Rule.TheVariants as broken
use Rattle.away_names.specs.Rules.{number}
use Rattle.away_trees.specs.declared.schemas.Schema.{Schema}
use Rattle.away_trees.specs.declared.statements.Function.{Function}
use Rattle.away_types.specs.declared.finding.Finding.{Finding}
use Rattle.away_types.specs.FunctionChecks.{function_note, head_note}
use Rattle.broken_names.specs.declared.culprit.Culprit.{Culprit}
use Rattle.broken_names.specs.NameTokens.{IsNameToken}
use Rattle.broken_names.specs.Reasons.{culprit_reason}
use Rattle.broken_names.specs.StatementCulprits.{IsCulpritOf}
use Rattle.function_places.specs.declared.stuck_places.Stuck.{Stuck}
use Rattle.function_places.specs.Hints.{IsHint}
use Rattle.function_places.specs.LimitPlaces.{IsElementPlace, IsLimitPlace}
use Rattle.function_places.specs.StuckPlaces.{IsStuckPlace}
use Rattle.function_places.specs.TokenPlaces.{IsNamePlace, IsToken, IsWordPlace}
use Rattle.plsql_parse.specs.Refusals as functions
use Rattle.refusal_reasons.specs.Reasons.{read_reason, rule_reason}
use Rattle.text_places.specs.Lines.{Around, IsInLine, column, display, line as line_number}
use Rattle.text_places.specs.TextEnds.{IsTextEnd}
use Rattle.away_top.specs.declared.status.Status.{Status}
use Rattle.away_top.specs.declared.status.Status.TheVariants.{Refused}
use Rattle.away_top.specs.Lines.{line, numbered_rule}
use Rattle.away_top.specs.Refusals.{IsRule, ReadsAsFunction, RefusesFunction}

-- ---- what is written

abbrev pub place_text : ℕ → ℕ → List ℕ
place_text at column = codes ":" ++ (decimal at ++ (codes ":" ++ decimal column))

abbrev pub reason_text : List ℕ → List ℕ → List ℕ
reason_text rule reason = codes ": " ++ (rule ++ (codes ": " ++ reason))

-- FILE:LINE:COLUMN: RULE: REASON
abbrev pub headline : List ℕ → ℕ → ℕ → List ℕ → List ℕ → List ℕ
headline name at column rule reason = name ++ (place_text at column ++ reason_text rule reason)

-- Three lines: the place of the byte with the rule and the reason, the line in which it stands, and
-- a caret under it.
pub record IsTold (name bytes : List ℕ) (offset : ℕ) (rule reason output : List ℕ) : Type 0 where
  pub around : Around bytes offset
  pub output_is : output ≡ line (headline name (line_number around) (column around) rule reason) ++ display around

-- ---- a file that isn't read

-- where it is refused
abbrev pub RefusedAt : List ℕ → ReadRefusal → Stuck → Type 0
RefusedAt bytes NotText found = IsTextEnd bytes found.offset
RefusedAt bytes (Token offset) found = found.offset ≡ offset
RefusedAt bytes NoTree found =
    IsStuckPlace bytes found ⊎ (IsTextEnd bytes found.offset × (found.ended ≡ true))
RefusedAt bytes (Outside word) found = IsWordPlace bytes found.offset
RefusedAt bytes (Limit which count) found = IsLimitPlace bytes which found.offset
RefusedAt bytes NoMemory found = ⊥

-- What is told behind the reason: where no function goes on, what could stand there.
abbrev pub IsHinted : ReadRefusal → Bool → List ℕ → Type 0
IsHinted NotText ended hint = hint ≡ []
IsHinted (Token offset) ended hint = hint ≡ []
IsHinted NoTree ended hint = IsHint ended hint
IsHinted (Outside word) ended hint = hint ≡ []
IsHinted (Limit which count) ended hint = hint ≡ []
IsHinted NoMemory ended hint = hint ≡ []

-- the reason, and the hint behind it
pub record IsReason (refusal : ReadRefusal) (ended : Bool) (reason : List ℕ) : Type 0 where
  pub hint : List ℕ
  pub hinted : IsHinted refusal ended hint
  pub reason_is : reason ≡ read_reason refusal ended ++ hint

-- the reader's refusal is told at such a place for such a reason
pub record IsReadTold (name bytes : List ℕ) (refusal : ReadRefusal) (output : List ℕ) : Type 0 where
  pub rule : List ℕ
  pub rule_is : IsRule refusal rule
  pub found : Stuck
  pub place : RefusedAt bytes refusal found
  pub reason : List ℕ
  pub reasoned : IsReason refusal found.ended reason
  pub told : IsTold name bytes found.offset rule reason output

-- ---- a function that breaks a rule

-- whether the head breaks the rule that is printed so
abbrev pub is_of_head : Option Rule → Rule → Bool
is_of_head None rule = false
is_of_head (Some broken) rule = number broken == number rule

-- Where a finding stands in a function with so many parameters, whose head breaks this rule, if any:
-- what the head breaks is told at the name of the function, else it is told at its node.
abbrev pub IsFindingPlace : List ℕ → ℕ → Option Rule → Finding → ℕ → Type 0
IsFindingPlace bytes params head finding offset =
    ((is_of_head head finding.rule ≡ true) × IsNamePlace bytes offset)
    ⊎ ((is_of_head head finding.rule ≡ false) × IsElementPlace bytes params finding.node offset)

-- the rules that a name breaks: it stands for nothing or for two things, is no table, or is a
-- CONSTANT that is set
abbrev pub is_of_name : Rule → Bool
is_of_name broken.Names = true
is_of_name broken.Ambiguity = true
is_of_name broken.Tables = true
is_of_name broken.Constants = true
is_of_name _ = false

-- The culprit is written at the byte, which isn't before the place of the finding's node.
pub record IsWrittenAt (f : Function) (bytes : List ℕ) (finding : Finding) (it : Culprit) (offset : ℕ) : Type 0 where
  pub start : ℕ
  pub begins : IsElementPlace bytes (length f.params) finding.node start
  pub token : IsNameToken bytes start it offset

-- The finding is told of what breaks the rule, by its name, where this is written.
pub record IsOfName (s : Schema) (f : Function) (bytes : List ℕ) (finding : Finding) (offset : ℕ) (reason : List ℕ) : Type 0 where
  pub culprit : Culprit
  pub node : ℕ
  pub counted : finding.node ≡ length f.params + node
  pub breaks : IsCulpritOf s f finding.rule node culprit
  pub written : IsWrittenAt f bytes finding culprit offset
  pub reason_is : reason ≡ culprit_reason finding.rule culprit
  pub one_line : IsInLine reason

-- It is told of the place alone.
pub record IsOfPlace (f : Function) (bytes : List ℕ) (finding : Finding) (offset : ℕ) (reason : List ℕ) : Type 0 where
  pub place : IsFindingPlace bytes (length f.params) (head_note f).least finding offset
  pub reason_is : reason ≡ rule_reason finding.rule

-- of a name where the rule is one of names
abbrev pub IsFoundAt : Schema → Function → List ℕ → Finding → ℕ → List ℕ → Type 0
IsFoundAt s f bytes finding offset reason =
    ((is_of_name finding.rule ≡ true) × IsOfName s f bytes finding offset reason)
    ⊎ ((is_of_name finding.rule ≡ false) × IsOfPlace f bytes finding offset reason)

-- the finding is told so
pub record IsFindingTold (name : List ℕ) (s : Schema) (f : Function) (bytes : List ℕ) (finding : Finding) (output : List ℕ) : Type 0 where
  pub offset : ℕ
  pub reason : List ℕ
  pub found : IsFoundAt s f bytes finding offset reason
  pub told : IsTold name bytes offset (numbered_rule (number finding.rule)) reason output

-- ---- a refused file

-- The bytes aren't read as a function, and that is told.
pub record IsUnread (name bytes output : List ℕ) : Type 0 where
  pub refusal : ReadRefusal
  pub refuses : functions.Refuses bytes refusal
  pub told : IsReadTold name bytes refusal output

-- The function that the bytes read as breaks a rule, and the first such finding is told.
pub record IsBroken (name : List ℕ) (s : Schema) (bytes output : List ℕ) : Type 0 where
  pub function : Function
  pub reads_as : ReadsAsFunction bytes function
  pub finding : Finding
  pub first : (function_note s function).first ≡ Some finding
  pub told : IsFindingTold name s function bytes finding output

abbrev pub Explains : List ℕ → Schema → List ℕ → List ℕ → Type 0
Explains name s bytes output = IsUnread name bytes output ⊎ IsBroken name s bytes output

abbrev pub ExplainedBy : List ℕ → Schema → List ℕ → Status → List ℕ → Type 0
ExplainedBy name s bytes status output = Explains name s bytes output × (status ≡ Refused)

-- ---- what each of them says

-- a bad token begins at the byte
abbrev pub IsBadToken : List ℕ → ℕ → Type 0
IsBadToken bytes offset =
    (outer : List Lexeme) × ((inner : List Lexeme) × LexesFile bytes outer inner (Some offset))

-- a token of the file begins at the byte, or a bad one, or no more of the file is a text
abbrev pub IsPlace : List ℕ → ℕ → Type 0
IsPlace bytes offset = IsToken bytes offset ⊎ (IsBadToken bytes offset ⊎ IsTextEnd bytes offset)

-- A rule that refuses the file elsewhere too is told at such a place of it, for a reason of one line.
pub record IsExplanation (name : List ℕ) (s : Schema) (bytes output : List ℕ) : Type 0 where
  pub rule : List ℕ
  pub refuses : RefusesFunction s bytes rule
  pub offset : ℕ
  pub place : IsPlace bytes offset
  pub reason : List ℕ
  pub one_line : IsInLine reason
  pub told : IsTold name bytes offset rule reason output

abbrev pub AreExplanations : Type 0
AreExplanations = (name bytes output : List ℕ) (s : Schema)
    → Explains name s bytes output → IsExplanation name s bytes output
