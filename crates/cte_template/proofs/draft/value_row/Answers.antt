use Rattle.std.proofs.Common.{List, ◌≡◌, ap, ◌∙◌, map}
use Rattle.call_forms.specs.Bodies.{returns as returning}
use Rattle.sql_meaning.specs.Trees.{col, item}
use Rattle.away_values.specs.declared.types.Ty.{Ty}
use Rattle.cte_template.specs.Making.{Making, making}
use Rattle.cte_template.specs.Places.{place_of}
use Rattle.cte_template.specs.CarriedWalks.{end_row, rest, written}
use Rattle.cte_parts.proofs.Results.{ok_by}
use Rattle.cte_template.proofs.WalkRules.{returned_row}
use Rattle.cte_template.proofs.draft.value_row.Goals as goal

pub returns : goal.returns
returns c =
    let m : Making = making c.args.w.now in
    let carried : List Ty = c.args.w.now.carried.now in
    let places = place_of c.args.pairs.now in
    let d = c.args.draft.now in
    let after = c.add_let.new.draft in
    ok_by c.end_row.result (λ list. list ≡ map item (end_row m carried c.args.depth c.in_ok-value.value c.in_ok-null.field-0))
    (λ list. written after list ≡ rest m carried c.args.depth places d (returning c.args.term.now))
    (λ list h.
    returned_row m carried c.args.depth places d after c.args.term.now list c.in_ok-add_let.ensures.items c.in_ok-add_let.ensures.next
    (h ∙ (λ i. map item (end_row m carried c.args.depth ((c.in_ok-value.ensures ∙ ap (λ k. col 0 k 0) c.len-item.ensures) i) (c.in_ok-null.ensures i))))) c.end_row.ensures
