use Rattle.std.proofs.Common.{◌≡◌, refl, ap, sym, ◌∙◌, Some, length}
use Rattle.std.specs.Prelude.{slice_get}
use Rattle.std.proofs.lemmas.Bool.{ltb-true}
use Rattle.std.proofs.lemmas.Option.{slice_get_read}
use Rattle.sql_meaning.specs.Reads.{slots_of}
use Rattle.sql_meaning.specs.Trees.{null_of}
use Rattle.call_forms.specs.Scopes.{paired}
use Rattle.turn_template.specs.TurnTemplate.{no_ref, placed_ref}
use Rattle.turn_terms.specs.References.{on_row, scope_of}
use Rattle.turn_terms.specs.Writing.{term_in}
use Rattle.turn_terms.proofs.Results.{ok_by}
use Rattle.turn_terms.proofs.TermRules.{term_missing, term_some}
use Rattle.turn_terms.proofs.terms.term_reference.Goals as goal

pub returns-in_default : goal.returns-in_default
returns-in_default c =
    let w = c.args.w.now in
    let s = scope_of c.args.refs.now in
    ok_by c.null.result (λ x. x ≡ null_of c.args.ty) (λ x. on_row x ≡ term_in w s c.args.ty c.args.term.now)
    (λ x h. ap on_row h ∙ term_missing w s c.args.ty c.args.term.now c.in_default.ensures.lookup.0) c.null.ensures

pub returns : goal.returns
returns c =
    let w = c.args.w.now in
    let s = scope_of c.args.refs.now in
    let e = c.in-Some.e.now in
    let k = c.args.term.now.expr in
    let table = w.table.now in
    let there : slice_get table k ≡ Some e = slice_get_read table (length table) k e refl (ltb-true k (length table) (sym c.in-Some.ensures.lookup.0)) c.in-Some.ensures.lookup.1 in
    ok_by c.placed.result (λ x. on_row x ≡ placed_ref c.args.ty (paired s no_ref (slots_of e) c.as_slice.result.now) e) (λ x. on_row x ≡ term_in w s c.args.ty c.args.term.now)
    (λ x h. h ∙ term_some w s c.args.ty c.args.term.now c.as_slice.result.now e there c.as_slice.ensures) c.placed.ensures
