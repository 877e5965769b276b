use Rattle.std.proofs.Common.{◌≡◌, true, false, sym, ap, ◌∙◌}
use Rattle.call_forms.specs.Scopes.{paired}
use Rattle.sql_meaning.specs.Reads.{slots_of}
use Rattle.sql_meaning.specs.Trees.{null_of}
use Rattle.turn_template.specs.TurnTemplate.{no_ref, placed_ref}
use Rattle.turn_terms.specs.Placing.{expr_in}
use Rattle.turn_terms.specs.References.{on_row, scope_of}
use Rattle.turn_terms.specs.declared.leaves.Leaves.TheVariants as leaves
use Rattle.turn_terms.proofs.PlacedOverRows.{names_placed, null_placed}
use Rattle.turn_terms.proofs.Results.{ok_by}
use Rattle.turn_terms.proofs.placing.placed.Goals as goal
use Rattle.turn_terms.proofs.placing.placed.Goals.{in-Null, in_default}

pub returns-then-matches : goal.returns-then-matches
returns-then-matches c =
    let e = c.args.e.now in
    let refs = paired (scope_of c.args.refs.now) no_ref (slots_of e) c.args.names.now in
    elim c.match-matches.branch [
      | in-Null w ↦ ok_by c.null.result (λ x. x ≡ null_of c.args.ty) (λ x. on_row x ≡ placed_ref c.args.ty refs e)
          (λ x h. ap on_row h ∙ (null_placed c.args.ty refs ∙ sym (ap (λ e. placed_ref c.args.ty refs e) w.in-Null.is))) c.null.ensures
      | in_default w ↦ absurd (let wrong : true ≡ false = sym c.if-matches.true ∙ w.matches-is in cc)
    ]

pub returns : goal.returns
returns c =
    let e = c.args.e.now in
    elim c.match-matches.branch [
      | in-Null w ↦ absurd (let wrong : true ≡ false = sym w.matches-is ∙ c.if-matches.false in cc)
      | in_default w ↦ ok_by c.place_expr.result (λ x. x ≡ expr_in (leaves.Names c.as_slice.result c.args.names c.args.refs) 0 e)
          (λ x. on_row x ≡ placed_ref c.args.ty (paired (scope_of c.args.refs.now) no_ref (slots_of e) c.args.names.now) e)
          (λ x h. ap on_row h ∙ names_placed c.args.ty c.as_slice.result c.args.names c.args.refs e w.in_default.not-Null (c.as_slice.ensures ∙ c.in_ok-slots.ensures)) c.place_expr.ensures
    ]
