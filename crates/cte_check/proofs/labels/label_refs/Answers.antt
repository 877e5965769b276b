use Rattle.std.proofs.Common.{[], ◌∷◌, ◌++◌, ◌+◌, drop, sym, ap, ◌∙◌}
use Rattle.std.proofs.lemmas.List.{append_assoc, append-nil}
use Rattle.cte_check.specs.Labels.{label_refs}
use Rattle.cte_check.proofs.LabelPlaces.{refs_next, refs_over}
use Rattle.cte_check.proofs.labels.label_refs.Goals as goal

pub loop-i-init : goal.loop-i-init
loop-i-init c = ap (λ l. l ++ label_refs c.args.params.now c.args.places.now) c.new-refs.ensures

pub loop-i-preserved : goal.loop-i-preserved
loop-i-preserved c =
    let rest = label_refs (drop (c.loop-i.i + 1) c.args.params.now) (drop (c.loop-i.i + 1) c.args.places.now) in
    ap (λ l. l ++ rest) c.in_ok-push.ensures.ok
    ∙ (append_assoc c.loop-i.refs (c.row_ref.result ∷ []) rest
    ∙ (ap (λ r. c.loop-i.refs ++ (r ∷ rest)) c.row_ref.ensures
    ∙ (ap (λ l. c.loop-i.refs ++ l) (refs_next c.args.params.now c.args.places.now c.loop-i.i c.loop-i-test.true) ∙ c.loop-i.invariant)))

pub returns : goal.returns
returns c =
    sym (append-nil c.loop-i.refs)
    ∙ (ap (λ l. c.loop-i.refs ++ l) (sym (refs_over c.args.params.now c.args.places.now c.loop-i.i c.loop-i-test.false)) ∙ c.loop-i.invariant)
