use Rattle.std.proofs.Common.{sym, ◌∙◌}
use Rattle.away_types.proofs.laws.a_function_has_one_checked_tree.Goals as goal

pub returns : goal.returns
returns c = λ s f a b xs ys x y. (x.function ∙ sym y.function, x.slots_are ∙ sym y.slots_are)
