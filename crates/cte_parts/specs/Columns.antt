-- The columns that stand for slots.
use Rattle.std.specs.Prelude.{ℕ, List, [], ◌∷◌, if◌then◌else◌, nat_eq}
use Rattle.away_trees.specs.declared.queries.Col.{Col}

-- The column beside the first slot that is i. Another column stands for what has none.
unfoldable pub column_beside : List ℕ → List Col → Col → ℕ → Col
column_beside [] columns other i = other
column_beside (slot ∷ slots) [] other i = other
column_beside (slot ∷ slots) (column ∷ columns) other i = if nat_eq slot i then column else column_beside slots columns other i
