use Rattle.std.proofs.Common.{refl, sym, subst}
use Rattle.away_trees.specs.declared.statements.LoopKind.TheVariants as kind
use Rattle.moved_slots.specs.Moved.{slots_by}
use Rattle.call_answers.specs.Walking.{KindRenamed}
use Rattle.call_answers.proofs.PairRules.{same_bool}
use Rattle.call_answers.proofs.leaf_pairs.same_kind.Goals as goal

pub returns-else-not-same_expr-2 : goal.returns-else-not-same_expr-2
returns-else-not-same_expr-2 c = λ q. subst (λ k. KindRenamed (slots_by c.args.pairs.now) k c.args.x.now) (sym c.in-Count.is) (subst (λ x. KindRenamed (slots_by c.args.pairs.now) (kind.Count c.in-Count.var c.in-Count.reverse c.in-Count.first c.in-Count.last c.in-Count.step) x) (sym c.in-Count-x.is) (same_bool c.in-Count.reverse c.in-Count-x.other c.if-reverse-other.false, c.if-not-same_expr.ensures refl, c.if-not-same_expr-2.ensures refl, c.same_maybe.ensures q))
