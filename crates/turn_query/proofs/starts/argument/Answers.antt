use Rattle.std.proofs.Common.{◌≡◌, sym, ◌∙◌, subst, IfOk}
use Rattle.turn_terms.specs.Writing.{types_in}
use Rattle.turn_query.proofs.StartRules.{no_argument, an_argument}
use Rattle.turn_query.proofs.starts.argument.Goals as goal

pub returns-in-None : goal.returns-in-None
returns-in-None c =
    subst (λ x. IfOk c.null.result (λ e. e ≡ x))
    (no_argument (types_in c.args.w.now) c.args.ty c.args.places.now c.args.params.now c.args.place (sym c.passed.ensures ∙ c.in-None.is)) c.null.ensures

pub returns-in-Some : goal.returns-in-Some
returns-in-Some c =
    subst (λ x. IfOk c.parameter.result (λ e. e ≡ x))
    (an_argument (types_in c.args.w.now) c.args.ty c.args.places.now c.args.params.now c.args.place c.in-Some.name (sym c.passed.ensures ∙ c.in-Some.is))
    c.parameter.ensures
