-- Where bytes cease to be a text.
use Rattle.std.specs.Prelude.{◌≤◌, ◌<◌, ℕ, List, length, take}
use Rattle.away_grammar.specs.Texts.{IsText}

-- The bytes before the place are a text, and no longer front of the bytes is one.
pub record IsTextEnd (bytes : List ℕ) (offset : ℕ) : Type 0 where
  pub within : offset ≤ length bytes
  pub is_text : IsText (take offset bytes)
  pub longest : (n : ℕ) → offset < n → n ≤ length bytes → ¬ (IsText (take n bytes))
