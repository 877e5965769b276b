use Rattle.std.proofs.Common.{◌≡◌, refl, ap, sym, ◌∙◌, Some, length, map}
use Rattle.std.specs.Prelude.{slice_get}
use Rattle.std.proofs.lemmas.Bool.{ltb-true}
use Rattle.std.proofs.lemmas.Option.{slice_get_read}
use Rattle.sql_meaning.specs.Placed.{placed_at}
use Rattle.sql_meaning.specs.Trees.{null_of}
use Rattle.sql_meaning.specs.Reads.{slots_of}
use Rattle.cte_parts.specs.Columns.{column_beside}
use Rattle.cte_template.specs.Making.{Making, making}
use Rattle.cte_template.specs.Places.{place_of, seen}
use Rattle.cte_template.specs.Written as walks
use Rattle.cte_parts.proofs.Results.{ok_by}
use Rattle.cte_template.proofs.ValueRules.{value_missing, value_some}
use Rattle.cte_template.proofs.terms.value_at.Goals as goal

pub returns-in_default : goal.returns-in_default
returns-in_default c =
    let m : Making = making c.args.w.now in
    let places = place_of c.args.pairs.now in
    ok_by c.null.result (λ e. e ≡ null_of c.args.ty) (λ e. e ≡ walks.value_at m c.args.depth places c.args.ty c.args.term.now)
    (λ e h. h ∙ value_missing m c.args.depth places c.args.ty c.args.term.now c.in_default.ensures.lookup.0) c.null.ensures

pub returns : goal.returns
returns c =
    let m : Making = making c.args.w.now in
    let places = place_of c.args.pairs.now in
    let e = c.in-Some.e.now in
    let k = c.args.term.now.expr in
    let table = c.args.w.now.table.now in
    let there : slice_get table k ≡ Some e = slice_get_read table (length table) k e refl (ltb-true k (length table) (sym c.in-Some.ensures.lookup.0)) c.in-Some.ensures.lookup.1 in
    ok_by c.place.result (λ x. x ≡ placed_at c.args.ty (column_beside (slots_of e) c.as_slice-2.result.now c.in_ok-other.other) e)
    (λ x. x ≡ walks.value_at m c.args.depth places c.args.ty c.args.term.now)
    (λ x h. h ∙ value_some m c.args.depth c.in_ok-inside.inside places c.args.ty c.args.term.now e c.as_slice-2.result.now c.in_ok-other.other there c.in_ok-inside.ensures
    (c.as_slice-2.ensures ∙ (c.in_ok-columns.ensures ∙ ap (map (walks.column_at c.in_ok-inside.inside places)) c.as_slice.ensures))
    (c.in_ok-other.ensures ∙ ap (seen c.in_ok-inside.inside) c.nowhere.ensures)) c.place.ensures
