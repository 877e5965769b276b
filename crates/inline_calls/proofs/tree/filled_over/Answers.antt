use Rattle.std.proofs.Common.{◌≡◌, ◌∙◌, ap, map, refl}
use Rattle.away_trees.specs.declared.queries.Expr.TheViews.{out-Select}
use Rattle.cte_parts.proofs.Results.{ok_by}
use Rattle.inline_law.specs.Moved.{item_filled}
use Rattle.inline_law.specs.Written.{call_leaf, filled_select, inner_calls}
use Rattle.inline_calls.specs.Forms.{with_list}
use Rattle.inline_calls.specs.Seen.{seen}
use Rattle.inline_calls.proofs.TreeRules.{calls_filled}
use Rattle.inline_calls.proofs.tree.filled_over.Goals as goal

pub returns : goal.returns
returns c =
    let x = c.args.c.now.select in
    let table = c.args.table.now in
    let columns = c.args.columns in
    let inner = inner_calls c.args.c.now.calls in
    let calls : c.as_slice-2.result.now ≡ inner = c.as_slice-2.ensures ∙ (c.in_ok-calls.ensures ∙ ap inner_calls c.as_slice.ensures) in
    let list : c.in_ok-list.list ≡ map (item_filled (call_leaf table columns inner)) (out-Select x).list =
    c.in_ok-list.ensures
    ∙ (calls_filled _ table columns inner c.as_slice-3.result.now (refl, (refl, calls)) ∙ ap (map (item_filled (call_leaf table columns inner))) c.as_slice-3.ensures) in
    ok_by c.with_list.result (λ y. y ≡ with_list x c.in_ok-list.list) (λ y. y ≡ filled_select table columns (seen c.args.c.now)) (λ y h. h ∙ ap (with_list x) list) c.with_list.ensures
