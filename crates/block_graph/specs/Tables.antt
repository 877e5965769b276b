-- The tables of live blocks of all slots.
use Rattle.std.specs.Prelude.{ℕ, ◌<◌, Bool, List, [], length, get_or}
use Rattle.block_forms.specs.declared.forms.Block.{Block}
use Rattle.block_graph.specs.Liveness.{LiveTable, marked}

abbrev pub live_by : List (List Bool) → ℕ → ℕ → Bool
live_by tables b s = marked (get_or tables s []) b

-- one table for each slot
abbrev pub AreLiveTables : List Block → List (List Bool) → Type 0
AreLiveTables g tables = (s : ℕ) → s < length tables → LiveTable g s (get_or tables s [])
