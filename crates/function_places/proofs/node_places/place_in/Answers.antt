use Rattle.std.proofs.Common.{ap, map, ◌∙◌}
use Rattle.away_lex.specs.Lexed.{seen}
use Rattle.sql_text.specs.CodeTerminals.{meaning_of}
use Rattle.function_places.proofs.Starts.{placed_by}
use Rattle.function_places.proofs.node_places.place_in.Goals as goal

pub returns-in-Ok-Some : goal.returns-in-Ok-Some
returns-in-Ok-Some c =
    placed_by (map seen c.args.inner.now) _ _ (c.new-tokens.ensures ∙ ap (map meaning_of) c.as_slice.ensures ∙ c.in_ok-terminals.ensures.values)
    (rw c.in-Ok-Some.field-0-is at c.in-Ok-Some.ensures) c.start_of.ensures
