-- The lines of the file of runs.
use Rattle.std.specs.Prelude.{ℕ, List, ◌==◌, if◌then◌else◌}
use Rattle.std.specs.List.{list_any}

-- what stands between the words of a line: a TAB where it has one, else a blank
abbrev pub separator : List ℕ → ℕ
separator line = if list_any (λ byte. byte == 9) line then 9 else 32
