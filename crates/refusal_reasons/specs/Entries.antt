-- An entry of the code's table.
use Rattle.std.specs.Prelude.{ℕ, List}
use Rattle.std.specs.Borrow.{Bor}
use Rattle.refusal_reasons.specs.declared.instead.Advice.{Advice}
use Rattle.refusal_reasons.specs.Instead.{Entry, entry as entry_of}

abbrev pub entry : Bor (List ℕ) × Advice → Entry
entry e = entry_of e.0.now e.1
