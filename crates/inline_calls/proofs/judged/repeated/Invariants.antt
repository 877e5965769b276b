use Rattle.std.proofs.Common.{◌≡◌, ◌++◌, List, drop, flat_map}
use Rattle.away_trees.specs.declared.queries.Expr.{Expr}
use Rattle.inline_calls.proofs.judged.repeated.Given as goal

abbrev pub invariant-loop-call : goal.invariant-loop-call
invariant-loop-call l = l.all ++ flat_map (λ (es : List Expr). l.types) (drop l._call-index l.calls) ≡ flat_map (λ (es : List Expr). l.types) l.calls
