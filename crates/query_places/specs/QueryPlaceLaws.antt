-- What holds of places in a query's file.
use Rattle.std.specs.Prelude.{ℕ, List}
use Rattle.query_places.specs.declared.stops.Stop.{Stop}
use Rattle.query_places.specs.QueryPlaces.{IsFirstToken, IsQueryDeep, IsQueryStop, IsQueryToken}

-- Each place is that of a token of the file.
pub record PlacesAreTokens : Type 0 where
  pub first : (bytes : List ℕ) (offset : ℕ) → IsFirstToken bytes offset → IsQueryToken bytes offset
  pub deep : (bytes : List ℕ) (offset : ℕ) → IsQueryDeep bytes offset → IsQueryToken bytes offset
  pub stopped : (bytes : List ℕ) (stop : Stop) → IsQueryStop bytes stop → IsQueryToken bytes stop.offset
