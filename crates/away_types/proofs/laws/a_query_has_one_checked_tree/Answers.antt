use Rattle.std.proofs.Common.{sym, ◌∙◌}
use Rattle.away_types.proofs.laws.a_query_has_one_checked_tree.Goals as goal

pub returns : goal.returns
returns c = λ s q a b ps qs t u x y. (x.query ∙ sym y.query, x.params_are ∙ sym y.params_are, x.first_is ∙ sym y.first_is)
