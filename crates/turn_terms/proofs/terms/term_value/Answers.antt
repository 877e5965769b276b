use Rattle.std.proofs.Common.{◌≡◌, ap, ◌∙◌, ℕ}
use Rattle.away_trees.specs.declared.queries.Expr.{Expr}
use Rattle.turn_terms.specs.References.{on_row, scope_of}
use Rattle.turn_terms.specs.Writing.{term_in}
use Rattle.turn_terms.proofs.Results.{ok_by}
use Rattle.turn_terms.proofs.terms.term_value.Goals as goal

pub returns : goal.returns
returns c =
    ok_by c.written.result (λ x. x ≡ on_row c.in_ok-value.value 0) (λ x. x ≡ term_in c.args.w.now (scope_of c.args.refs.now) c.args.ty c.args.term.now 0)
    (λ x h. h ∙ ap (λ (r : ℕ → Expr). r 0) c.in_ok-value.ensures) c.written.ensures
