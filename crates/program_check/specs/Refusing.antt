-- When functions are refused as a program: by a name, by a call in a wrong place, by recursion, by
-- a rule; each with the first function of which it holds, and only where none breaks one of those
-- before it.
use Rattle.std.specs.Prelude.{
  ◌≡◌,
  ◌<◌,
  ℕ,
  Bool,
  true,
  ◌||◌,
  List,
  length,
  Option,
  Some,
  None,
  is_some,
}
use Rattle.away_trees.specs.declared.schemas.Schema.{Schema}
use Rattle.away_trees.specs.declared.statements.Function.{Function}
use Rattle.away_names.specs.Functions.{function}
use Rattle.away_names.specs.Lookups.{Name, is_among}
use Rattle.away_names.specs.declared.rule.Rule.{Rule}
use Rattle.away_types.specs.declared.finding.Finding.{Finding}
use Rattle.away_types.specs.declared.finding.Report.{Report}
use Rattle.away_types.specs.FunctionChecks.{function_note}
use Rattle.call_expand.specs.Expanding.{function_at, names_of}
use Rattle.call_expand.specs.Judging.{judged}
use Rattle.call_expand.specs.Placing.{misplaces}
use Rattle.program_check.specs.declared.refusals.ProgramRefusal.{ProgramRefusal}
use Rattle.program_check.specs.declared.refusals.ProgramRefusal.TheVariants as refusal
use Rattle.program_check.specs.Firsts.{IsFirst, Nowhere}
use Rattle.program_check.specs.Reaching.{Recurs}

-- ---- names

-- it is the name of an operator's function, or one of these
abbrev pub is_taken : Name → List Name → Bool
is_taken name others = is_some (function name) || is_among name others

-- A function's name is that of an operator's function, or that of a function before it.
pub data Taken (fs : List Function) (k : ℕ) : Type 0 where
  of_operator : is_some (function (function_at fs k).name) ≡ true → Taken fs k
  of_earlier : {j : ℕ} → j < k → (function_at fs j).name ≡ (function_at fs k).name → Taken fs k

-- ---- rules

-- a report has a finding of the rule, its first
pub record HasRule (report : Report) (rule : Rule) : Type 0 where
  pub finding : Finding
  pub finds : report.first ≡ Some finding
  pub is : finding.rule ≡ rule

abbrev pub TellsRule : Report → Option Rule → Type 0
TellsRule report None = report.first ≡ None
TellsRule report (Some rule) = HasRule report rule

-- ---- a program's

module _ (fs : List Function) where
  -- a call of one of the functions stands elsewhere than as a whole assignment or RETURN
  abbrev pub Misplaced : ℕ → Type 0
  Misplaced k = misplaces (names_of fs) (function_at fs k).body ≡ true

  -- what is found where each call is judged as a value of its function's result type
  abbrev pub note : Schema → Function → Report
  note s f = function_note s (judged fs f)

  abbrev pub note_at : Schema → ℕ → Report
  note_at s k = note s (function_at fs k)

  abbrev pub Breaks : Schema → ℕ → Type 0
  Breaks s k = (rule : Rule) × HasRule (note_at s k) rule

  -- ---- refusals

  pub record RefusesPlace (k : ℕ) : Type 0 where
    pub names : Nowhere (Taken fs) (length fs)
    pub first : IsFirst Misplaced (length fs) k

  pub record RefusesRecursion (k : ℕ) : Type 0 where
    pub names : Nowhere (Taken fs) (length fs)
    pub places : Nowhere Misplaced (length fs)
    pub first : IsFirst (Recurs fs) (length fs) k

  -- each has a name of its own, calls stand where they may, and none reaches itself
  pub record AreCallers : Type 0 where
    pub names : Nowhere (Taken fs) (length fs)
    pub places : Nowhere Misplaced (length fs)
    pub recursion : Nowhere (Recurs fs) (length fs)

  -- the first that breaks a rule, and the least that it breaks
  pub record BreaksFirst (s : Schema) (k : ℕ) (rule : Rule) : Type 0 where
    pub first : IsFirst (Breaks s) (length fs) k
    pub has : HasRule (note_at s k) rule

  -- what is told of names and calls
  abbrev pub RefusesCallers : ProgramRefusal → Type 0
  RefusesCallers (refusal.Names k) = IsFirst (Taken fs) (length fs) k
  RefusesCallers (refusal.Place k) = RefusesPlace k
  RefusesCallers (refusal.Recursion k) = RefusesRecursion k
  RefusesCallers (refusal.Rule k rule) = ⊥
  RefusesCallers refusal.NoMemory = Unit {0}

  -- what is told of rules
  abbrev pub RefusesRules : Schema → ProgramRefusal → Type 0
  RefusesRules s (refusal.Names k) = ⊥
  RefusesRules s (refusal.Place k) = ⊥
  RefusesRules s (refusal.Recursion k) = ⊥
  RefusesRules s (refusal.Rule k rule) = BreaksFirst s k rule
  RefusesRules s refusal.NoMemory = Unit {0}

  -- ---- the whole

  -- none is refused
  pub record IsProgram (s : Schema) : Type 0 where
    pub callers : AreCallers
    pub unbroken : Nowhere (Breaks s) (length fs)

  -- by what is told
  abbrev pub RefusesProgram : Schema → ProgramRefusal → Type 0
  RefusesProgram s (refusal.Names k) = IsFirst (Taken fs) (length fs) k
  RefusesProgram s (refusal.Place k) = RefusesPlace k
  RefusesProgram s (refusal.Recursion k) = RefusesRecursion k
  RefusesProgram s (refusal.Rule k rule) = AreCallers × BreaksFirst s k rule
  RefusesProgram s refusal.NoMemory = Unit {0}
