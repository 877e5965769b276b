use Rattle.std.proofs.Common.{◌≡◌, ◌++◌, ◌∷◌, drop}
use Rattle.away_values.specs.declared.types.Ty.TheVariants as ty
use Rattle.inline_calls.proofs.tree.carried_types.Given as goal

abbrev pub invariant-loop-t : goal.invariant-loop-t
invariant-loop-t l = l.types ++ drop l.t-index l.params ≡ ty.Bigint ∷ l.params
