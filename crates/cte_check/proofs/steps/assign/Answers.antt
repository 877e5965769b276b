use Rattle.cte_check.proofs.Walking as walking
use Rattle.cte_check.proofs.steps.assign.Goals as goal

pub returns-clause-read : goal.returns-clause-read
returns-clause-read c = λ table given x to rest.
    walking.after_assigning table c.args.g.now c.args.w c.args.n c.args.t.now c.type_of_name-ty.result c.in_ok-at.at c.requires.fresh c.type_of_name-ty.ensures
    (c.in_ok-at.ensures table given.entries) x to rest
