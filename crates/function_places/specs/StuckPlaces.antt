-- Where the reader of functions stopped.
use Rattle.std.specs.Prelude.{◌≡◌, ◌⊎◌, ℕ, List, [], ◌∷◌, ◌++◌, None}
use Rattle.std.specs.Bool.{OnTrue}
use Rattle.away_grammar.specs.FunctionFile.{LexesFile}
use Rattle.away_grammar.specs.Tokens.{Lexeme}
use Rattle.function_places.specs.declared.stuck_places.Stuck.{Stuck}

-- A token of the list begins there. Where the list ended and something was still to come, it is the
-- last one.
pub record StandsAt (list : List Lexeme) (stuck : Stuck) : Type 0 where
  pub before : List Lexeme
  pub here : Lexeme
  pub after : List Lexeme
  pub whole : list ≡ before ++ here ∷ after
  pub offset_is : stuck.offset ≡ here.start
  pub last : OnTrue stuck.ended (after ≡ [])

-- it stands in the file, or in its body
pub record IsStuckPlace (bytes : List ℕ) (stuck : Stuck) : Type 0 where
  pub outer : List Lexeme
  pub inner : List Lexeme
  pub lexes : LexesFile bytes outer inner None
  pub stands : StandsAt outer stuck ⊎ StandsAt inner stuck
