-- An entry of the code's table.
use Rattle.std.specs.Prelude.{List, ℕ}
use Rattle.std.specs.Borrow.{Bor}
use Rattle.function_places.specs.declared.hint_table.Part.{Part}

-- a sample, its label, what the label names, and what the sample may be a part of
abbrev pub Entry : Type 0
Entry = Bor (List ℕ) × Bor (List ℕ) × Part × Bor (List Part)

abbrev pub label_of : Entry → List ℕ
label_of e = e.1.now
