-- Whose calls the code judges, to the definitions.
use Rattle.std.specs.Prelude.{Bool, true, false, List, [], ◌∷◌}
use Rattle.away_trees.specs.declared.statements.Function.{Function}
use Rattle.away_names.specs.Lookups.{Name}
use Rattle.call_expand.specs.declared.judged.Callees.{Callees}
use Rattle.call_expand.specs.declared.judged.Callees.TheVariants.{All, Own}
use Rattle.call_expand.specs.Expanding.{names_of}
use Rattle.call_expand.specs.Untailing.{self_names}

abbrev pub everywhere : Callees → Bool
everywhere (All fs) = true
everywhere (Own f) = false

abbrev pub names : Callees → List Name
names (All fs) = names_of fs.now
names (Own f) = self_names f.now

abbrev pub functions : Callees → List Function
functions (All fs) = fs.now
functions (Own f) = f.now ∷ []
