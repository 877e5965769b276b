-- What stands around a statement, and where EXIT and CONTINUE lead there.
use Rattle.std.specs.Prelude.{ℕ, Bool, List, [], ◌∷◌, Option, Some, None, if◌then◌else◌}
use Rattle.plsql_meaning.specs.Outcomes.{Label, names_loop, names_block}

-- a loop or a block: where EXIT leads, and CONTINUE where it is a loop
pub record Enclosing : Type 0 where
  pub label : Label
  pub exit : ℕ
  pub again : Option ℕ

-- innermost first
abbrev pub Around : Type 0
Around = List Enclosing

abbrev pub exits_at : Label → Label → Option ℕ → Bool
exits_at l own None = names_block l own
exits_at l own (Some again) = names_loop l own

-- what nothing names means the end of the function
abbrev pub exit_to : ℕ → Around → Label → ℕ
exit_to finish [] l = finish
exit_to finish (x ∷ around) l = if exits_at l x.label x.again then x.exit else exit_to finish around l

abbrev pub again_at : Option ℕ → Label → Label → ℕ → ℕ
again_at None l own outer = outer
again_at (Some again) l own outer = if names_loop l own then again else outer

abbrev pub again_to : ℕ → Around → Label → ℕ
again_to finish [] l = finish
again_to finish (x ∷ around) l = again_at x.again l x.label (again_to finish around l)
