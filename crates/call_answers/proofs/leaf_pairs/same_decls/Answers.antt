use Rattle.std.proofs.Common.{◌≡◌, refl, sym, subst, suc, ◌+◌, arith, length, get_or, drop}
use Rattle.std.proofs.lemmas.Option.{slice_get_read}
use Rattle.away_trees.specs.declared.statements.Decl.{Decl}
use Rattle.moved_slots.specs.Moved.{slots_by}
use Rattle.call_answers.specs.Walking.{DeclsBecome, MaybeRenamed, rules_of}
use Rattle.call_answers.proofs.PairRules.{decls_end, decls_step}
use Rattle.call_answers.proofs.Pairs.{put_more}
use Rattle.call_answers.proofs.leaf_pairs.same_decls.Goals as goal

pub loop-i-init : goal.loop-i-init
loop-i-init c = λ wide q h. subst (λ ps. DeclsBecome (rules_of c.args.w.now) (slots_by ps) c.args.p c.args.decls.now c.args.others.now wide q) c.in_ok-slots.ensures h

pub loop-i-preserved : goal.loop-i-preserved
loop-i-preserved c = λ wide q h. let one : c.loop-i.i + 1 ≡ suc c.loop-i.i = omega arith in c.loop-i.invariant wide q (decls_step c.args.w.now wide q (slots_by c.loop-i.slots) (slots_by c.push.new.self) c.args.decls.now c.args.others.now c.loop-i.i c.index-decls-i.result c.index-others-i.result c.loop-i.spot (slice_get_read c.args.decls.now (length c.args.decls.now) c.loop-i.i c.index-decls-i.result refl c.loop-i-test.true c.index-decls-i.is) (slice_get_read c.args.others.now (length c.args.decls.now) c.loop-i.i c.index-others-i.result c.if-decls-others.false c.loop-i-test.true c.index-others-i.is)
    (same c.index-decls-i.result c.index-others-i.result _ _ c.index-decls-i.is c.index-others-i.is (subst (λ ps. MaybeRenamed (slots_by ps) (get_or c.args.decls.now c.loop-i.i c.index-decls-i.result).default (get_or c.args.others.now c.loop-i.i c.index-others-i.result).default) c.as_slice.ensures (c.if-not-same.ensures refl))) (c.if-not-same_null.ensures refl)
    (put_more c.push.new.self c.loop-i.slots c.loop-i.spot.at c.loop-i.spot.new c.in_ok-push.ensures.ok)
    (subst (λ p. DeclsBecome (rules_of c.args.w.now) (slots_by c.push.new.self) p (drop (suc c.loop-i.i) c.args.decls.now) (drop (suc c.loop-i.i) c.args.others.now) wide q) c.in-Some.ensures (subst (λ i. DeclsBecome (rules_of c.args.w.now) (slots_by c.push.new.self) c.in-Some.behind (drop i c.args.decls.now) (drop i c.args.others.now) wide q) one h)))
  where
    same : (d x d' x' : Decl) → d ≡ d' → x ≡ x' → MaybeRenamed (slots_by c.loop-i.slots) d'.default x'.default → MaybeRenamed (slots_by c.loop-i.slots) d.default x.default
    same d x d' x' e f h = subst (λ d. MaybeRenamed (slots_by c.loop-i.slots) d.default x.default) (sym e) (subst (λ x. MaybeRenamed (slots_by c.loop-i.slots) d'.default x.default) (sym f) h)

pub returns : goal.returns
returns c = c.loop-i.invariant (slots_by c.loop-i.slots) c.loop-i.spot (decls_end c.args.w.now (slots_by c.loop-i.slots) c.loop-i.spot c.args.decls.now c.args.others.now c.loop-i.i c.loop-i-test.false c.if-decls-others.false)
