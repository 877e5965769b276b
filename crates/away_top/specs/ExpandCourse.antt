-- `expand SCHEMA MAIN FUNC..`: the function of a file is written with its calls of the others'
-- functions expanded.
use Rattle.std.specs.Prelude.{
  ◌≡◌,
  ◌⊎◌,
  ◌<◌,
  ℕ,
  List,
  [],
  ◌∷◌,
  ◌++◌,
  Some,
  None,
  codes,
  get_or,
  if◌then◌else◌,
  length,
  nat_lt,
}
use Rattle.std.specs.declared.option.Option.{Option}
use Rattle.std.specs.Io.KnownBytes.{Appends}
use Rattle.away_names.specs.Rules.{number}
use Rattle.away_trees.specs.declared.schemas.Schema.{Schema}
use Rattle.away_trees.specs.declared.statements.Function.{Function}
use Rattle.away_trees.specs.Limits.{KeepsLimits}
use Rattle.away_types.specs.declared.slots.Slot.{Slot}
use Rattle.call_expand.specs.Expanding.{function_at}
use Rattle.expanding.specs.Expanded.{IsExpanded, Refuses}
use Rattle.plsql_parse.specs.Refusals as reading
use Rattle.program_check.specs.declared.refusals.ProgramRefusal.{ProgramRefusal}
use Rattle.program_check.specs.declared.refusals.ProgramRefusal.TheVariants as refusal
use Rattle.program_check.specs.Refusing.{IsProgram, RefusesProgram}
use Rattle.tail_calls.specs.declared.refusals.Grown.{Grown}
use Rattle.tail_calls.specs.declared.refusals.WriteRefusal.TheVariants.{Limit}
use Rattle.away_top.specs.declared.status.Status.{Status}
use Rattle.away_top.specs.declared.status.Status.TheVariants.{Done, Refused}
use Rattle.away_top.specs.Course.{Course, Exactly, RefusedBy, and_then, ends, gives, judges, reads}
use Rattle.away_top.specs.Files.{schema_course}
use Rattle.away_top.specs.FormatCourse.{IsReadable}
use Rattle.away_top.specs.Lines.{growth_rule, numbered_rule, refusal as refusal_line}
use Rattle.away_top.specs.Refusals.{IsSchema, ReadsAsFunction, RefusesRead}
use Rattle.away_top.specs.RunCourse.{spelled}

-- ---- the words

-- 2^32 - 1 or more files behind the main one are no form
abbrev pub few : List (List ℕ) → Option (List (List ℕ))
few others = if nat_lt (length others) 4294967295 then Some others else None

-- ---- the functions' files

-- a file is read, and refused by the rules of its reader alone
abbrev pub reading_course : List ℕ → Course Function
reading_course name =
    reads name 1048576
    (λ bytes. judges (RefusedBy name (RefusesRead (reading.Refuses bytes))) (IsReadable bytes)
    (λ f. gives f.written))

-- the files that are left are read in their order, behind those that were
abbrev pub functions_behind : List Function → List (List ℕ) → Course (List Function)
functions_behind done [] = gives done
functions_behind done (name ∷ left) =
    and_then (reading_course name) (λ f. functions_behind (done ++ f ∷ []) left)

abbrev pub functions_course : List (List ℕ) → Course (List Function)
functions_course names = functions_behind [] names

-- what was read keeps the limits on what is counted of a function
abbrev pub KeepLimits : List Function → Type 0
KeepLimits fs = (k : ℕ) → k < length fs → KeepsLimits (function_at fs k)

-- ---- the functions together

-- The number of the file that is refused, and the rule that is printed. Want of memory is no
-- refusal.
abbrev pub IsProgramRule : ProgramRefusal → ℕ → List ℕ → Type 0
IsProgramRule (refusal.Names k) file rule = (file ≡ k) × (rule ≡ codes "E1")
IsProgramRule (refusal.Place k) file rule = (file ≡ k) × (rule ≡ codes "E2")
IsProgramRule (refusal.Recursion k) file rule = (file ≡ k) × (rule ≡ codes "E3")
IsProgramRule (refusal.Rule k broken) file rule =
    (file ≡ k) × (rule ≡ numbered_rule (number broken))
IsProgramRule refusal.NoMemory file rule = ⊥

-- the functions are no program because of this one, by this rule
abbrev pub BreaksProgram : Schema → List Function → ℕ → List ℕ → Type 0
BreaksProgram s fs file rule =
    (e : ProgramRefusal) × RefusesProgram fs s e × IsProgramRule e file rule

abbrev pub file_at : List ℕ → List (List ℕ) → ℕ → List ℕ
file_at main others k = get_or (main ∷ others) k main

-- the refusal is told so
abbrev pub ToldAs : List ℕ → List (List ℕ) → ProgramRefusal → Status → List ℕ → Type 0
ToldAs main others e status output =
    (file : ℕ) × ((rule : List ℕ) × IsProgramRule e file rule
    × Exactly Refused (refusal_line (file_at main others file) rule) status output)

-- that file is refused
abbrev pub RefusesFiles : Schema → List ℕ → List (List ℕ) → List Function → Status → List ℕ → Type 0
RefusesFiles s main others fs status output =
    (file : ℕ) × ((rule : List ℕ) × BreaksProgram s fs file rule
    × Exactly Refused (refusal_line (file_at main others file) rule) status output)

-- ---- the end

-- The text is that of the main function with its calls expanded, and reads as a function that
-- answers as the program does.
pub record IsExpandedOf (s : Schema) (fs : List Function) (text : List ℕ) : Type 0 where
  pub checked : Function
  pub slots : List Slot
  pub expanded : IsExpanded s fs text checked slots

-- what would be written exceeds a limit
abbrev pub OutgrowsBy : Schema → List Function → List ℕ → Type 0
OutgrowsBy s fs rule = (which : Grown) × ((found : ℕ) × Refuses s fs (Limit which found)
    × (rule ≡ growth_rule which found))

-- the text is written, or the main file is refused
abbrev pub EndsWith : List ℕ → Schema → List Function → List ℕ → Status → List ℕ → Type 0
EndsWith main s fs made status output =
    (IsExpandedOf s fs made × Exactly Done made status output)
    ⊎ RefusedBy main (OutgrowsBy s fs) status output

-- how a run ends on what the files read as
abbrev pub EndsOnProgram : List ℕ → List (List ℕ) → List ℕ → Schema → List Function → Status
    → List ℕ → Type 0
EndsOnProgram main others made s fs status output =
    RefusesFiles s main others fs status output
    ⊎ (IsProgram fs s × EndsWith main s fs made status output)

-- ---- the course

abbrev pub with_functions : List ℕ → List (List ℕ) → List ℕ → Schema → List Function → Course ⊥
with_functions main others made s fs =
    judges (RefusesFiles s main others fs) (IsProgram fs s) (λ p. ends (EndsWith main s fs made))

abbrev pub with_schema : List ℕ → List (List ℕ) → List ℕ → Schema → Course ⊥
with_schema main others made s =
    and_then (functions_course (main ∷ others)) (with_functions main others made s)

abbrev pub with_others : List ℕ → List ℕ → List ℕ → List (List ℕ) → Course ⊥
with_others schema main made others =
    and_then (schema_course schema) (with_schema main others made)

-- all files are read before the functions are judged
abbrev pub expand_course : List ℕ → List ℕ → List (List ℕ) → List ℕ → Course ⊥
expand_course schema main others made =
    and_then (spelled (few others)) (with_others schema main made)

-- ---- the whole run

-- each file holds these bytes
abbrev pub AllHeld : (List ℕ → Option (List ℕ)) → List (List ℕ) → List (List ℕ) → Type 0
AllHeld held [] [] = Unit {0}
AllHeld held [] (bytes ∷ more) = ⊥
AllHeld held (name ∷ names) [] = ⊥
AllHeld held (name ∷ names) (bytes ∷ more) = (held name ≡ Some bytes) × AllHeld held names more

-- each bytes read as this function
abbrev pub AllRead : List (List ℕ) → List Function → Type 0
AllRead [] [] = Unit {0}
AllRead [] (f ∷ fs) = ⊥
AllRead (bytes ∷ more) [] = ⊥
AllRead (bytes ∷ more) (f ∷ fs) = ReadsAsFunction bytes f × AllRead more fs

-- The bytes of one file read as a schema, which breaks no rule, and those of the others as
-- functions that are a program. The output is the text of the first of them with its calls
-- expanded. It reads as a function that breaks no rule, and answers as the program does.
pub record IsExpandedFor (schema : List ℕ) (files : List (List ℕ)) (output : List ℕ) : Type 0 where
  pub tables : IsSchema schema
  pub functions : List Function
  pub read : AllRead files functions
  pub program : IsProgram functions tables.schema
  pub expanded : IsExpandedOf tables.schema functions output

-- Where the words are those of `expand` and the files tell what they hold, such a text was written.
abbrev pub WritesExpanded : (List ℕ → Option (List ℕ)) → Option (List ℕ) → Option (List ℕ)
    → List (List ℕ) → Type 0
WritesExpanded held before after words =
    (schema main tables : List ℕ) (others files : List (List ℕ))
    → words ≡ codes "expand" ∷ schema ∷ main ∷ others
    → held schema ≡ Some tables → AllHeld held (main ∷ others) files
    → (output : List ℕ) × IsExpandedFor tables files output × Appends before after output
