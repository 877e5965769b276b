-- A text reads as one tree, so where that breaks no rule it isn't refused for one.
use Rattle.std.proofs.Common.{◌≡◌, ℕ, List, ap, refl, subst}
use Rattle.away_trees.specs.declared.schemas.Schema.{Schema}
use Rattle.away_grammar.specs.Texts.{ReadsSchema}
use Rattle.away_names.specs.declared.note.Note.{Note}
use Rattle.away_types.specs.Refusals.{HasNoFinding, IsUnbroken, Refuses, RefusesFunction}
use Rattle.away_types.specs.declared.checked.FunctionRefusal.{FunctionRefusal}
use Rattle.away_types.specs.declared.checked.FunctionRefusal.TheVariants as function
use Rattle.away_types.specs.declared.checked.RuleRefusal.{RuleRefusal}
use Rattle.away_types.specs.declared.checked.RuleRefusal.TheVariants.{Broken, NoMemory}
use Rattle.away_types.specs.declared.finding.Report.{Report}
use Rattle.sql_text.proofs.OneTree.{one_text}

unbroken_kept : (note : Note) → IsUnbroken note → (why : RuleRefusal) → Refuses note why → why ≡ NoMemory
unbroken_kept note kept (Broken rule) h = absurd (cc)
unbroken_kept note kept NoMemory h = refl

clean_kept : (report : Report) → HasNoFinding report → (why : FunctionRefusal) → RefusesFunction report why → why ≡ function.NoMemory
clean_kept report kept (function.Broken finding) h = absurd (cc)
clean_kept report kept function.NoMemory h = refl

-- of one tree and of another that is the same
pub tree_kept : {A : Type 0} (note_of : A → Note) (tree other : A) → other ≡ tree → IsUnbroken (note_of tree) → (why : RuleRefusal) → Refuses (note_of other) why → why ≡ NoMemory
tree_kept note_of tree other same kept why h = unbroken_kept (note_of tree) kept why (subst (λ t. Refuses (note_of t) why) same h)

pub code_kept : {A : Type 0} (report_of : A → Report) (tree other : A) → other ≡ tree → HasNoFinding (report_of tree) → (why : FunctionRefusal) → RefusesFunction (report_of other) why → why ≡ function.NoMemory
code_kept report_of tree other same kept why h = clean_kept (report_of tree) kept why (subst (λ t. RefusesFunction (report_of t) why) same h)

-- a text reads as one schema
pub one_schema : {z : List ℕ} {s t : Schema} → ReadsSchema z s → ReadsSchema z t → s ≡ t
one_schema a b = ap (λ tables. record { tables = tables }) (one_text a b)
