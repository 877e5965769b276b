-- `untail SCHEMA FUNC`: a function whose self calls are whole RETURNs is written with these as turns
-- of a loop.
use Rattle.std.specs.Prelude.{◌≡◌, ◌⊎◌, ℕ, List, [], ◌∷◌, Some, codes}
use Rattle.std.specs.declared.option.Option.{Option}
use Rattle.std.specs.Io.KnownBytes.{Appends}
use Rattle.away_names.specs.Rules.{number}
use Rattle.away_trees.specs.declared.schemas.Schema.{Schema}
use Rattle.away_trees.specs.declared.statements.Function.{Function}
use Rattle.away_types.specs.declared.slots.Slot.{Slot}
use Rattle.plsql_parse.specs.Refusals as functions
use Rattle.tail_calls.specs.declared.refusals.Grown.{Grown}
use Rattle.tail_calls.specs.declared.refusals.SelfRefusal.{SelfRefusal}
use Rattle.tail_calls.specs.declared.refusals.SelfRefusal.TheVariants as refusal
use Rattle.tail_calls.specs.declared.refusals.WriteRefusal.TheVariants.{Limit}
use Rattle.tail_calls.specs.SelfCalls.{IsSelfCaller, RefusesSelf}
use Rattle.tail_calls.specs.Untailed.{IsUntailed, Refuses}
use Rattle.away_top.specs.declared.status.Status.{Status}
use Rattle.away_top.specs.declared.status.Status.TheVariants.{Done}
use Rattle.away_top.specs.Course.{Course, Exactly, RefusedBy, and_then, ends, gives, judges, reads}
use Rattle.away_top.specs.Files.{schema_course}
use Rattle.away_top.specs.Lines.{growth_rule, numbered_rule}
use Rattle.away_top.specs.Refusals.{IsSchema, ReadsAsFunction, RefusesRead}

-- ---- the function's file

-- the rule that a refusal is printed as; want of memory is no refusal of the file
abbrev pub IsSelfRule : SelfRefusal → List ℕ → Type 0
IsSelfRule refusal.Place rule = rule ≡ codes "E5"
IsSelfRule (refusal.Rule broken) rule = rule ≡ numbered_rule (number broken)
IsSelfRule refusal.NoMemory rule = ⊥

-- the function is refused by the rule as one that calls itself
abbrev pub BreaksSelfRule : Schema → Function → List ℕ → Type 0
BreaksSelfRule s f rule = (e : SelfRefusal) × RefusesSelf s f e × IsSelfRule e rule

-- the function that the bytes read as, which may call itself in whole RETURNs, and breaks no rule
pub record IsSelfCallerFile (schema : Schema) (bytes : List ℕ) : Type 0 where
  pub written : Function
  pub reads_as : ReadsAsFunction bytes written
  pub unrefused : IsSelfCaller schema written

-- it isn't read, or it is refused
abbrev pub RefusesSelfCaller : Schema → List ℕ → List ℕ → Type 0
RefusesSelfCaller schema bytes rule =
    RefusesRead (functions.Refuses bytes) rule
    ⊎ ((function : Function) × ReadsAsFunction bytes function × BreaksSelfRule schema function rule)

abbrev pub self_caller_course : Schema → List ℕ → Course Function
self_caller_course schema name =
    reads name 1048576
    (λ bytes. judges (RefusedBy name (RefusesSelfCaller schema bytes))
    (IsSelfCallerFile schema bytes) (λ f. gives f.written))

-- ---- its end

-- The text is the function's with its self calls as turns of a loop, and reads as a function that
-- answers as it does.
pub record IsUntailedOf (s : Schema) (f : Function) (text : List ℕ) : Type 0 where
  pub checked : Function
  pub slots : List Slot
  pub untailed : IsUntailed s f text checked slots

-- what would be written exceeds a limit
abbrev pub OutgrowsBy : Schema → Function → List ℕ → Type 0
OutgrowsBy s f rule = (which : Grown) × ((found : ℕ) × Refuses s f (Limit which found)
    × (rule ≡ growth_rule which found))

-- the text is written, or the function's file is refused
abbrev pub EndsWith : List ℕ → Schema → Function → List ℕ → Status → List ℕ → Type 0
EndsWith func s f made status output =
    (IsUntailedOf s f made × Exactly Done made status output)
    ⊎ RefusedBy func (OutgrowsBy s f) status output

abbrev pub untail_course : List ℕ → List ℕ → List ℕ → Course ⊥
untail_course schema func made =
    and_then (schema_course schema) (λ s. and_then (self_caller_course s func)
    (λ f. ends (EndsWith func s f made)))

-- ---- the whole run

-- The bytes of one file read as a schema, which breaks no rule, and those of the other as a function
-- whose self calls are whole RETURNs. The output is the text of the function with these as turns of
-- a loop. It reads as a function that breaks no rule, and answers as the one that calls itself.
pub record IsUntailedFor (schema func output : List ℕ) : Type 0 where
  pub tables : IsSchema schema
  pub function : IsSelfCallerFile tables.schema func
  pub untailed : IsUntailedOf tables.schema function.written output

-- Where the words are those of `untail` and the files tell what they hold, such a text was written.
abbrev pub WritesUntailed : (List ℕ → Option (List ℕ)) → Option (List ℕ) → Option (List ℕ)
    → List (List ℕ) → Type 0
WritesUntailed held before after words =
    (schema func tables function : List ℕ)
    → words ≡ codes "untail" ∷ schema ∷ func ∷ []
    → held schema ≡ Some tables → held func ≡ Some function
    → (output : List ℕ) × IsUntailedFor tables function output × Appends before after output
