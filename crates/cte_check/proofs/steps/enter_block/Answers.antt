use Rattle.std.proofs.Common.{None, length, refl, sym, ap, ◌∙◌, subst}
use Rattle.call_forms.specs.Bodies.{enters}
use Rattle.cte_reads.specs.declared.scope.Scope as names
use Rattle.cte_check.specs.Walks.{BodyRead, further_blocks}
use Rattle.cte_check.proofs.Standing.{as_many_found, passed_in_sight}
use Rattle.cte_check.proofs.Walking as walking
use Rattle.cte_check.proofs.steps.enter_block.Goals as goal

pub returns-then-len-params-clause-read : goal.returns-then-len-params-clause-read
returns-then-len-params-clause-read c = λ table.
    walking.not_entered table c.args.g.now c.args.w _ c.args.call.now.args (further_blocks c.args.g.now c.args.w c.args.call.now.target)
    (λ same. c.if-len-params.true (c.len.ensures ∙ same ∙ ap length (sym c.params_of-params.ensures)))

pub returns-clause-sound : goal.returns-clause-sound
returns-clause-sound c =
    let found = c.requires.found in
    record {
      sound = record {
        as_many = as_many_found c.args.w.scope c.args.call.now.args c.args.refs found ∙ sym c.len.ensures ∙ c.if-len-params.false;
        in_sight = passed_in_sight c.args.w.depth c.args.w.scope c.args.call.now.args c.args.refs c.requires.sound.in_sight found;
        few_selects = c.requires.sound.few_selects;
        few_items = c.requires.sound.few_items;
      };
      fresh = refl;
      as_many = refl;
    }

pub returns-clause-read : goal.returns-clause-read
returns-clause-read c = λ table to rest.
    let scope : names.Scope = record { set = None; names = c.params_of-params.result; refs = c.args.refs } in
    let next = further_blocks c.args.g.now c.args.w c.args.call.now.target in
    subst (λ params. BodyRead table c.args.g.now c.args.w (enters params c.args.call.now.args next) to) c.params_of-params.ensures
    (walking.after_entering table c.args.g.now c.args.w c.args.call.now.target scope c.args.call.now.args refl c.requires.found
    (sym c.len.ensures ∙ c.if-len-params.false) next to rest)
