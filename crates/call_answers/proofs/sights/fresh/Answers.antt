use Rattle.std.proofs.Common.{ap, sym, ◌∙◌, subst, option_map}
use Rattle.call_meaning.specs.Alike.{Fresh}
use Rattle.call_answers.specs.Walking.{labels}
use Rattle.call_answers.proofs.sights.fresh.Goals as goal

pub returns-in-None : goal.returns-in-None
returns-in-None c = λ yes. subst (λ z. Fresh (labels c.args.c.now) z c.args.own.now c.args.new.now) (sym (ap (option_map (λ n. n.now)) c.in-None.is) ∙ c.way.ensures) (c.fresh_inside.ensures yes)

pub returns-in-Some : goal.returns-in-Some
returns-in-Some c = λ yes. subst (λ z. Fresh (labels c.args.c.now) z c.args.own.now c.args.new.now) (sym (ap (option_map (λ n. n.now)) c.in-Some.is) ∙ c.way.ensures) (c.fresh_beside.ensures yes)
