-- The class that a text is, as words that proofs look into by their equations alone.
use Rattle.std.specs.Prelude.{ℕ, Bool, true, ◌==◌, ◌&&◌, if◌then◌else◌, List, Option, Some, None}
use Rattle.away_values.specs.declared.values.Class.{Class}
use Rattle.away_values.specs.Results.{class}
use Rattle.away_values.specs.Classes.{is_class, is_class_char}

unfoldable pub class_char : ℕ → Bool
class_char c = is_class_char c

unfoldable pub zeros : ℕ → ℕ → ℕ → ℕ → ℕ → Bool
zeros a b c d e = (a == 48) && ((b == 48) && ((c == 48) && ((d == 48) && ((e == 48) && true))))

unfoldable pub class_told : List ℕ → Option Class
class_told t = if is_class t then Some (class t) else None
