-- When a check refuses a tree, by the least rule that the tree breaks.
use Rattle.std.specs.Prelude.{◌≡◌, Some, None}
use Rattle.away_names.specs.declared.note.Note.{Note}
use Rattle.away_types.specs.declared.checked.FunctionRefusal.{FunctionRefusal}
use Rattle.away_types.specs.declared.checked.FunctionRefusal.TheVariants as function
use Rattle.away_types.specs.declared.checked.RuleRefusal.{RuleRefusal}
use Rattle.away_types.specs.declared.checked.RuleRefusal.TheVariants.{Broken, NoMemory}
use Rattle.away_types.specs.declared.finding.Report.{Report}

abbrev pub IsUnbroken : Note → Type 0
IsUnbroken note = note.least ≡ None

-- the least rule that is broken, or want of memory, which is free
abbrev pub Refuses : Note → RuleRefusal → Type 0
Refuses note (Broken rule) = note.least ≡ Some rule
Refuses note NoMemory = Unit {0}

-- ---- functions

abbrev pub HasNoFinding : Report → Type 0
HasNoFinding report = report.first ≡ None

-- the first finding, or want of memory, which is free
abbrev pub RefusesFunction : Report → FunctionRefusal → Type 0
RefusesFunction report (function.Broken finding) = report.first ≡ Some finding
RefusesFunction report function.NoMemory = Unit {0}
