-- The loops and blocks around a statement, as a list.
use Rattle.std.specs.Prelude.{ℕ, List, [], ◌∷◌, Option, Some, None}
use Rattle.std.specs.Option.{option_copied}
use denote.Bor.{Bor}
use Rattle.plsql_meaning.specs.Outcomes.{Label}
use Rattle.goto_check.specs.declared.enclosing.Enclosing.{Enclosing}
use Rattle.goto_check.specs.declared.enclosing.Enclosing.TheBlock as b
use Rattle.block_forms.specs.Around.{Around}

abbrev pub label_of : Option (Bor (List ℕ)) → Label
label_of l = option_copied l

abbrev pub around_of : Enclosing → Around
around_of b.Outside = []
around_of (b.Loop' label exit again p outer) = record { label = label_of label; exit = exit; again = Some again } ∷ around_of outer
around_of (b.Block' label exit p outer) = record { label = label_of label; exit = exit; again = None } ∷ around_of outer
