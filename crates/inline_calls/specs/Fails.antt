-- Telling whether a run of a goto form may come to a fault.
use Rattle.std.specs.Prelude.{◌≡◌, ◌↔◌, Bool, true}
use Rattle.block_forms.specs.declared.forms.Goto.{Goto}
pub use Rattle.inline_law.specs.Fails.{Fails, IsFail, Leads, Reached, at_entry, by_end}

abbrev pub TellsFails : Goto → Bool → Type 0
TellsFails goto told = (told ≡ true) ↔ Fails goto
