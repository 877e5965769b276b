use Rattle.std.proofs.Common.{[], ◌∷◌, ◌++◌, ap, sym, ◌∙◌, take, flat_map}
use Rattle.std.proofs.lemmas.List.{take_more}
use Rattle.away_trees.specs.declared.statements.Arm.{Arm}
use Rattle.block_forms.specs.Slots.{variables, variables_of_arm, types_of}
use Rattle.block_forms.proofs.TypeEquations.{arms_more}
use Rattle.block_forms.proofs.shown_types.+types.Goals as goal

pub push_arms-loop-i-preserved : goal.push_arms-loop-i-preserved
push_arms-loop-i-preserved t c =
    let x = c.index-arms-i.result in
    let arms = c.args.arms.now in
    let old = c.args.list.now in
    let next = take_more arms c.loop-i.i x c.loop-i-test.true ∙ ap (λ y. take c.loop-i.i arms ++ y ∷ []) (sym c.index-arms-i.is) in
    c.in_ok-push_statements.ensures
    ∙ (ap (λ l. c.loop-i.list ++ types_of (flat_map variables l)) (c.as_slice.ensures ∙ ap (λ (y : Arm). y.body) (sym c.index-arms-i.is))
    ∙ (ap (λ l. l ++ types_of (flat_map variables x.body)) c.loop-i.invariant
    ∙ (arms_more old (take c.loop-i.i arms) x ∙ ap (λ l. old ++ types_of (flat_map variables_of_arm l)) (sym next))))
