-- A select with slots in the places of its calls, to the definitions.
use Rattle.inline_law.specs.Filled.{CallingSelect}
use Rattle.inline_calls.specs.declared.forms.PartedSelect.{PartedSelect}

abbrev pub seen : PartedSelect → CallingSelect
seen c = record { select = c.select; calls = c.calls }
