use Rattle.std.proofs.Common.{refl}
use Rattle.away_names.specs.Rules.{number}
use Rattle.away_names.proofs.rule.rules_have_their_numbers.Goals as goal

pub returns : goal.returns
unfolding number
returns c = record {
  duplicates = refl;
  names = refl;
  ambiguity = refl;
  tables = refl;
  labels = refl;
  constants = refl;
  defaults = refl;
  types = refl;
  reserved = refl;
  aggregates = refl;
  raises = refl;
  recursion = refl;
  answer = refl;
}
