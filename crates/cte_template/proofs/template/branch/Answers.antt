use Rattle.std.proofs.Common.{List, ◌≡◌, le_of_lt, ◌∷◌, [], ap, ◌∙◌}
use Rattle.away_values.specs.declared.types.Ty.{Ty}
use Rattle.call_forms.specs.Scopes.{paired}
use Rattle.cte_template.specs.Making.{Making, making}
use Rattle.cte_template.specs.Places.{place_of, carried_place, nowhere}
use Rattle.cte_template.specs.CarriedTree.{at_label}
use Rattle.cte_parts.specs.Trees.{gate_as}
use Rattle.cte_template.proofs.BranchRules.{branch_is, branch_fits}
use Rattle.cte_template.proofs.template.branch.Goals as goal

pub returns-clause-is : goal.returns-clause-is
returns-clause-is c =
    let m : Making = making c.args.w.now in
    let carried : List Ty = c.args.w.now.carried.now in
    branch_is m carried c.args.label c.args.block c.len-most.result (place_of c.in_ok-pairs.pairs) c.in_ok-draft.draft c.body_of.new.draft c.in_ok-list.list c.select.result
    (c.in_ok-pairs.ensures ∙ (λ i. paired (carried_place carried) nowhere (c.params_of-params.ensures i) (c.places_at.ensures i)))
    (c.in_ok-draft.ensures.items ∙ ap (λ e. gate_as 1 e ∷ []) (c.in_ok-at_label.ensures ∙ ap (λ k. at_label m k) c.in_ok-after.ensures))
    c.in_ok-draft.ensures.next c.len-most.ensures c.in_ok-list.ensures c.select.ensures

pub returns-clause-fits : goal.returns-clause-fits
returns-clause-fits c =
    let m : Making = making c.args.w.now in
    let carried : List Ty = c.args.w.now.carried.now in
    branch_fits m carried c.args.label c.args.block c.len-most.result (place_of c.in_ok-pairs.pairs) c.in_ok-draft.draft c.body_of.new.draft c.in_ok-list.list
    (c.in_ok-pairs.ensures ∙ (λ i. paired (carried_place carried) nowhere (c.params_of-params.ensures i) (c.places_at.ensures i)))
    (c.in_ok-draft.ensures.items ∙ ap (λ e. gate_as 1 e ∷ []) (c.in_ok-at_label.ensures ∙ ap (λ k. at_label m k) c.in_ok-after.ensures))
    c.in_ok-draft.ensures.next c.len-most.ensures c.in_ok-list.ensures (le_of_lt c.fits_word.ensures)
