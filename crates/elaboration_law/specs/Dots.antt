-- A tree with names in place of columns has no marks, as it is written.
use Rattle.std.specs.Prelude.{◌≡◌}
use Rattle.away_trees.specs.declared.queries.Query.{Query}
use Rattle.qualified_names.specs.Trees.{qualified}
use Rattle.elaboration.specs.Erasing.{erased_query}

-- It's that of the tree without marks, and has none itself.
pub record NamesWithoutMarks : Type 0 where
  pub blind : (q : Query) → qualified (erased_query q) ≡ qualified q
  pub plain : (q : Query) → erased_query (qualified q) ≡ qualified q
