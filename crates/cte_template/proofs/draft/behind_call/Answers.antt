use Rattle.std.proofs.Common.{List, ◌≡◌, ap, sym, ◌∙◌, map}
use Rattle.call_forms.specs.Scopes.{paired}
use Rattle.sql_meaning.specs.Trees.{item}
use Rattle.away_values.specs.declared.types.Ty.{Ty}
use Rattle.cte_template.specs.Making.{Making, making}
use Rattle.cte_template.specs.Places.{nowhere, place_of}
use Rattle.cte_template.specs.CarriedWalks.{call_row}
use Rattle.cte_template.specs.Written.{keys_of}
use Rattle.cte_template.proofs.WalkRules.{called_label, called_on}
use Rattle.cte_template.proofs.draft.behind_call.Goals as goal

pub returns-in_ok-call_row-in-Some : goal.returns-in_ok-call_row-in-Some
returns-in_ok-call_row-in-Some c =
    let m : Making = making c.args.w.now in
    let carried : List Ty = c.args.w.now.carried.now in
    let places = place_of c.args.pairs.now in
    let l = c.in-Some.label in
    called_label m carried c.args.left c.args.depth places c.args.draft.now c.args.call.now l c.in_ok-call_row-in-Some.field-0 (sym c.label_of.ensures ∙ c.in-Some.is)
    (c.in_ok-call_row-in-Some.ensures ∙ ap (λ args. map item (call_row m carried c.args.depth places l (keys_of m l) args)) c.as_slice-args.ensures)

pub returns-in_ok-entered-in-None : goal.returns-in_ok-entered-in-None
returns-in_ok-entered-in-None c =
    let m : Making = making c.args.w.now in
    let carried : List Ty = c.args.w.now.carried.now in
    let places = place_of c.args.pairs.now in
    called_on m carried c.args.left c.args.depth places (place_of c.in_ok-entered-in-None.field-0) c.args.draft.now c.args.call.now (sym c.label_of.ensures ∙ c.in-None.is)
    (c.in_ok-entered-in-None.ensures ∙ (λ i. paired places nowhere (c.params_of-params.ensures i) (c.as_slice-args.ensures i)))
