use Rattle.std.proofs.Common.{string_bytes, sym}
use Rattle.away_top.proofs.ParameterSteps.{other_count}
use Rattle.away_top.proofs.over_tables.arguments.values_for.Goals as goal

pub returns-else-params-words : goal.returns-else-params-words
returns-else-params-words c = sym (other_count string_bytes c.args.params.now c.args.words.now c.if-params-words.false)
