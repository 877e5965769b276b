-- The events of a query determine the query, its names aside.
use Rattle.std.specs.Prelude.{◌≡◌, ◌↔◌}
use Rattle.away_trees.specs.declared.queries.Query.{Query}
use Rattle.sql_meaning.specs.Names.{bare}
use Rattle.tree_events.specs.Events.{events_of_query}

abbrev pub EventsDetermine : Type 0
EventsDetermine = (q r : Query) → (events_of_query q ≡ events_of_query r) ↔ (bare q ≡ bare r)
