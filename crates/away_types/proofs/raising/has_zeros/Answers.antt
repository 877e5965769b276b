use Rattle.std.proofs.Common.{rules}
use Rattle.std.specs.Prelude.{◌==◌}
use Rattle.std.proofs.lemmas.Iterator.{YieldsList-from_chars}
use Rattle.std.proofs.lemmas.Iterator.Search.{all_from_yields_List}
use borrow.Author.Tests.{tests}
use Rattle.away_types.proofs.raising.has_zeros.Goals as goal

pub returns : goal.returns
returns c = all_from_yields_List (λ x. x == 48) _ _ _ c.all.ensures.ran (YieldsList-from_chars c.args.text.now c.utf8.text cc) (λ x b q k. search (rules, tests))
