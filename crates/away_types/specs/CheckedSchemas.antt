-- What a checked schema is.
use Rattle.away_trees.specs.declared.schemas.Schema.{Schema}
use Rattle.away_names.specs.Schemas.{schema_note}
use Rattle.away_types.specs.Refusals.{IsUnbroken}

-- Tables have names of their own, and so have the columns of a table; none of them begins as the
-- query's own.
pub record IsCheckedSchema (s : Schema) : Type 0 where
  pub unbroken : IsUnbroken (schema_note s)
