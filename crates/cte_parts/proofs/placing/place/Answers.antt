use Rattle.std.proofs.Common.{◌≡◌, true, false, sym, ap, ◌∙◌}
use Rattle.sql_meaning.specs.Placed.{placed_at}
use Rattle.sql_meaning.specs.Reads.{slots_of}
use Rattle.cte_parts.specs.Columns.{column_beside}
use Rattle.cte_parts.specs.Placing.{column_at, expr_in}
use Rattle.cte_parts.specs.declared.columns.Leaves.{Leaves}
use Rattle.cte_parts.proofs.PlacingRules.{columns_are, whole_other}
use Rattle.cte_parts.proofs.Results.{ok_by}
use Rattle.cte_parts.proofs.placing.place.Goals as goal
use Rattle.cte_parts.proofs.placing.place.Goals.{in-Null, in_default}

pub returns : goal.returns
returns c =
    let e = c.args.e.now in
    let l : Leaves = record { slots = c.as_slice.result; columns = c.args.columns; other = c.args.other } in
    elim c.match-matches.branch [
      | in-Null w ↦ absurd (let wrong : true ≡ false = sym w.matches-is ∙ c.if-matches.false in cc)
      | in_default w ↦ ok_by c.place_expr.result (λ x. x ≡ expr_in (column_at l) 0 e)
          (λ x. x ≡ placed_at c.args.ty (column_beside (slots_of e) c.args.columns.now c.args.other) e)
          (λ x h.
          h ∙ (sym (whole_other c.args.ty (column_at l) e w.in_default.not-Null)
          ∙ ap (λ ref. placed_at c.args.ty ref e)
          (columns_are l ∙ ap (λ slots. column_beside slots c.args.columns.now c.args.other) (c.as_slice.ensures ∙ c.in_ok-slots.ensures)))) c.place_expr.ensures
    ]
