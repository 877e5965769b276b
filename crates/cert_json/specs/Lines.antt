-- Bytes that are one line.
use Rattle.std.specs.Prelude.{◌≢◌, ℕ, List}
use Rattle.block_forms.specs.Places.{Each}

-- no byte ends a line
abbrev pub IsLine : List ℕ → Type 0
IsLine bytes = Each (λ b. b ≢ 10) bytes
