-- The loops and blocks around a statement, as a list.
use Rattle.std.specs.Prelude.{ℕ, List, [], ◌∷◌, Option, Some, None}
use Rattle.std.specs.Option.{option_copied}
use denote.Bor.{Bor}
use Rattle.plsql_meaning.specs.Outcomes.{Label}
use Rattle.block_forms.specs.Around.{Around}
use Rattle.goto_lower.specs.declared.enclosing.Enclosing.{Enclosing}
use Rattle.goto_lower.specs.declared.enclosing.Enclosing.TheBlock as b

abbrev pub label_of : Option (Bor (List ℕ)) → Label
label_of l = option_copied l

abbrev pub frames_of : Enclosing → Around
frames_of b.Outside = []
frames_of (b.Loop' label exit again p outer) = record { label = label_of label; exit = exit; again = Some again } ∷ frames_of outer
frames_of (b.Block' label exit p outer) = record { label = label_of label; exit = exit; again = None } ∷ frames_of outer
