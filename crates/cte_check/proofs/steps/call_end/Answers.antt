use Rattle.std.proofs.Common.{length, sym, ap, ◌∙◌, subst}
use Rattle.call_forms.specs.Bodies.{calls}
use Rattle.cte_reads.specs.Puts.{exprs_put}
use Rattle.cte_reads.specs.Read.{Reads}
use Rattle.cte_reads.specs.Rows.{call_list, cells_at}
use Rattle.cte_check.specs.Walks.{BodyRead}
use Rattle.cte_check.proofs.Walking as walking
use Rattle.cte_check.proofs.steps.call_end.Goals as goal

pub returns-then-len-places : goal.returns-then-len-places
returns-then-len-places c = λ table.
    walking.not_called table c.args.g.now c.args.w.now c.args.label _ c.args.call.now.args
    (λ same. c.if-len-places.true (c.len.ensures ∙ same ∙ ap length (sym c.places_of-places.ensures)))

pub returns : goal.returns
returns c = λ table.
    let places = c.places_of-places.result.now in
    let row = subst
    (λ columns. Reads (exprs_put (call_list c.args.label (cells_at c.args.w.now.depth 0 places c.args.refs.now columns) c.args.g.now.result)) c.args.g.now.events.now c.to_list-at.result c.call_row.result)
    c.as_slice-columns.ensures c.call_row.ensures in
    subst (λ places. BodyRead table c.args.g.now c.args.w.now (calls c.args.label places c.args.call.now.args) c.close.result) c.places_of-places.ensures
    (walking.after_calling table c.args.g.now c.args.w.now c.args.label places c.args.call.now.args c.args.refs.now c.to_list-at.result c.call_row.result c.close.result
    c.requires.found (sym c.len.ensures ∙ c.if-len-places.false) c.to_list-at.ensures row c.close.ensures)
