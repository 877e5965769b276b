-- When a function that calls itself is refused: by a self call that stands elsewhere than as a whole
-- RETURN, and else by the least rule that it breaks. There each self call is judged as a value of
-- the result's type that asks of each argument the type of its parameter.
use Rattle.std.specs.Prelude.{◌≡◌, Bool, true, false, Option, Some, None}
use Rattle.away_trees.specs.declared.schemas.Schema.{Schema}
use Rattle.away_trees.specs.declared.statements.Function.{Function}
use Rattle.away_names.specs.declared.rule.Rule.{Rule}
use Rattle.away_types.specs.declared.finding.Finding.{Finding}
use Rattle.away_types.specs.declared.finding.Report.{Report}
use Rattle.away_types.specs.FunctionChecks.{function_note}
use Rattle.call_expand.specs.Judging.{judged_alone}
use Rattle.call_expand.specs.Placing.{misplaces_self}
use Rattle.call_expand.specs.Untailing.{self_names}
use Rattle.tail_calls.specs.declared.refusals.SelfRefusal.{SelfRefusal}
use Rattle.tail_calls.specs.declared.refusals.SelfRefusal.TheVariants as refusal

-- whether a self call stands elsewhere
abbrev pub Misplaces : Function → Bool → Type 0
Misplaces f answer = misplaces_self (self_names f) f.body ≡ answer

-- what is found where each self call is judged so
abbrev pub note : Schema → Function → Report
note s f = function_note s (judged_alone (self_names f) f)

-- the first finding of the least rule that is broken
abbrev pub Finds : Schema → Function → Option Finding → Type 0
Finds s f found = (note s f).first ≡ found

-- a report has a finding of the rule, its first
pub record HasRule (report : Report) (rule : Rule) : Type 0 where
  pub finding : Finding
  pub finds : report.first ≡ Some finding
  pub is : finding.rule ≡ rule

-- it is refused by nothing
pub record IsSelfCaller (s : Schema) (f : Function) : Type 0 where
  pub places : Misplaces f false
  pub unbroken : Finds s f None

-- by what is told of the rules
abbrev pub RefusesBy : Report → SelfRefusal → Type 0
RefusesBy report refusal.Place = ⊥
RefusesBy report (refusal.Rule rule) = HasRule report rule
RefusesBy report refusal.NoMemory = Unit {0}

-- by what is told
abbrev pub RefusesSelf : Schema → Function → SelfRefusal → Type 0
RefusesSelf s f refusal.Place = Misplaces f true
RefusesSelf s f (refusal.Rule rule) = Misplaces f false × HasRule (note s f) rule
RefusesSelf s f refusal.NoMemory = Unit {0}
