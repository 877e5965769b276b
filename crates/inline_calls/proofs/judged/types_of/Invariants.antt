use Rattle.std.proofs.Common.{◌≡◌, ◌++◌, drop, map}
use Rattle.inline_calls.proofs.judged.types_of.Given as goal

abbrev pub invariant-loop-p : goal.invariant-loop-p
invariant-loop-p l = l.types ++ map (λ p. p.1) (drop l.p-index l.params) ≡ map (λ p. p.1) l.params
