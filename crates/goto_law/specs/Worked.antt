-- What is live at the entry of two small forms with one parameter: in one the parameter alone is,
-- in the other a variable that nothing has set.
use Rattle.std.specs.Prelude.{false, [], ◌∷◌}
use Rattle.block_forms.specs.declared.forms.Goto.{Goto}
use Rattle.block_forms.specs.Patterns.{term, jumps, returns}
use Rattle.block_forms.specs.Worked.{sign_of_form}
use Rattle.block_forms.specs.Live.{Live, OnlyParametersLive}

-- it returns slot 1
abbrev pub unset_form : Goto
unset_form = record { entry = 0; finish = 0; nodes = 1 ∷ []; blocks = jumps false 1 ∷ returns (term 0 (1 ∷ [])) ∷ [] }

pub record WorkedEntries : Type 0 where
  pub parameter : Live sign_of_form.blocks 2 sign_of_form.entry 0
  pub alone : OnlyParametersLive 1 sign_of_form
  pub unset : OnlyParametersLive 1 unset_form → ⊥
