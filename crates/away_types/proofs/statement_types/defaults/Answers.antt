use Rattle.std.proofs.Common.{sym, ap, ◌∙◌, ◌+◌, drop, fold}
use Rattle.std.proofs.lemmas.List.{at_drop_more}
use Rattle.away_trees.specs.declared.statements.Decl.{Decl}
use Rattle.away_names.specs.Notes.{joined}
use Rattle.away_types.specs.AskedBy.{asked_by}
use Rattle.away_types.specs.StatementTypes as t
use Rattle.away_types.proofs.statement_types.defaults.Goals as goal

pub loop-d-init : goal.loop-d-init
loop-d-init c =
    ap (λ z. fold (λ n (d : Decl). joined n (t.maybe_asked (asked_by c.args.a.now) d.ty d.default)) z c.args.decls.now) (sym c.clean-note.ensures)

pub loop-d-preserved : goal.loop-d-preserved
loop-d-preserved c =
    let decls = c.args.decls.now in
    let note = c.loop-d.note in
    let i = c.loop-d.d-index in
    c.loop-d.invariant
    ∙ at_drop_more (λ ds. fold (λ n (d : Decl). joined n (t.maybe_asked (asked_by c.args.a.now) d.ty d.default)) note ds) decls i c.d-item.result c.loop-d-test.true
    ∙ ap (λ z. fold (λ n (d : Decl). joined n (t.maybe_asked (asked_by c.args.a.now) d.ty d.default)) z (drop (i + 1) decls))
    (ap (λ (d : Decl). joined note (t.maybe_asked (asked_by c.args.a.now) d.ty d.default)) (sym c.d-item.is)
    ∙ ap (joined note) (sym c.in_ok-maybe_asked.ensures) ∙ sym c.joined-note.ensures)
