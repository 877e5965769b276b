use Rattle.std.proofs.Common.{sym, ap, ◌∙◌, ◌+◌, drop, fold}
use Rattle.std.proofs.lemmas.List.{at_drop_more}
use Rattle.away_names.specs.Notes.{joined}
use Rattle.away_names.specs.Naming.{written}
use Rattle.away_names.specs.Places.{scope}
use Rattle.away_names.proofs.references.all_written.Goals as goal

pub loop-n-init : goal.loop-n-init
loop-n-init c = ap (λ z. fold (λ a n. joined a (written (scope c.args.s.now) n)) z c.args.names.now) (sym c.clean-note.ensures)

pub loop-n-preserved : goal.loop-n-preserved
loop-n-preserved c =
    let names = c.args.names.now in
    let note = c.loop-n.note in
    let i = c.loop-n.n-index in
    c.loop-n.invariant
    ∙ at_drop_more (λ xs. fold (λ a n. joined a (written (scope c.args.s.now) n)) note xs) names i c.n-item.result c.loop-n-test.true
    ∙ ap (λ z. fold (λ a n. joined a (written (scope c.args.s.now) n)) z (drop (i + 1) names))
    (ap (λ n. joined note (written (scope c.args.s.now) n)) (sym c.n-item.is) ∙ ap (joined note) (sym c.written.ensures) ∙ sym c.joined-note.ensures)
