-- Slots below a number.
use Rattle.std.specs.Prelude.{ℕ, ◌<◌, List}
use Rattle.block_forms.specs.Places.{Each}

abbrev pub AreBelow : ℕ → List ℕ → Type 0
AreBelow slots names = Each (λ s. s < slots) names
