use Rattle.std.proofs.Common.{◌≡◌, ◌∙◌, ◌++◌, suc, pos, [], ◌∷◌, map, ap, get_or, arith, true}
use Rattle.std.specs.Prelude.{slice_get}
use Rattle.away_values.specs.declared.types.Ty.TheVariants as ty
use Rattle.batch_law.specs.Batches.{entry_place}
use Rattle.call_forms.specs.Forms.{params_of}
use Rattle.sql_meaning.specs.Trees.{item, null_of, number, truth}
use Rattle.inline_law.specs.Written.{argument_cells, cast_arguments}
use Rattle.inline_calls.specs.Tree.{cells}
use Rattle.inline_calls.proofs.StartRules.{cells_are, row_of_steps}
use Rattle.inline_calls.proofs.starts.start_list.Goals as goal

pub returns : goal.returns
returns c =
    let w = c.args.w.now in
    let place = entry_place w.result w.anf.now w.tail.now w.entry in
    let cast = cast_arguments w.params.now c.args.es.now in
    let keys = get_or w.tail.now.places place [] in
    let names = params_of (slice_get w.anf.now.blocks w.entry) in
    let columns = w.tail.now.columns in
    let next : c.in_ok-after.field-0 ≡ suc place = omega (arith, c.in_ok-after.ensures, c.label_of-label.ensures) in
    let arguments : c.as_slice.result.now ≡ cast = c.as_slice.ensures ∙ c.in_ok-args.ensures in
    let again : c.as_slice-2.result.now ≡ cast = c.as_slice-2.ensures ∙ c.in_ok-args.ensures in
    let places : c.places_at-keys.result.now ≡ keys = c.places_at-keys.ensures ∙ ap (λ l. get_or w.tail.now.places l []) c.label_of-label.ensures in
    row_of_steps c.in_ok-list.list c.add.new.list c.add-2.new.list c.add_copies.new.list c.add_cells.new.list c.add-3.new.list c.add-4.new.list
    (truth true) (number (pos (suc place))) (number (pos c.args.n)) (null_of w.result) (null_of ty.Text) cast (cells cast 0 keys names columns) (argument_cells cast 0 keys names columns)
    (c.in_ok-list.ensures ∙ ap (λ e. item e ∷ []) c.in_ok-truth.ensures)
    (c.in_ok-add.ensures ∙ ap (λ e. c.in_ok-list.list ++ (item e ∷ [])) (c.in_ok-number.ensures ∙ ap (λ k. number (pos k)) next))
    (c.in_ok-add-2.ensures ∙ ap (λ e. c.add.new.list ++ (item e ∷ [])) c.in_ok-number-2.ensures)
    (c.in_ok-add_copies.ensures ∙ ap (λ es. c.add-2.new.list ++ map item es) arguments)
    (c.in_ok-add_cells.ensures ∙ (λ z. c.add_copies.new.list ++ map item (cells (again z) 0 (places z) (c.params_of-params.ensures z) (c.as_slice-columns.ensures z))))
    (c.in_ok-add-3.ensures ∙ ap (λ e. c.add_cells.new.list ++ (item e ∷ [])) c.in_ok-null.ensures)
    (c.in_ok-add-4.ensures ∙ ap (λ e. c.add-3.new.list ++ (item e ∷ [])) c.in_ok-null-2.ensures)
    (cells_are cast 0 keys names columns)
