use Rattle.std.proofs.Common.{sym, ap, ◌∙◌}
use Rattle.cte_check.specs.Walks.{further_blocks}
use Rattle.cte_check.proofs.Walking as walking
use Rattle.cte_reads.specs.References.{founds}
use Rattle.cte_check.proofs.steps.go.Goals as goal

pub returns-in_default-clause-read : goal.returns-in_default-clause-read
returns-in_default-clause-read c = λ table given.
    walking.nothing_found table c.args.g.now c.args.w (further_blocks c.args.g.now c.args.w) c.args.call.now c.requires.as_many
    (ap (founds c.args.w.scope) (sym c.as_slice.ensures) ∙ sym c.in_ok-refs.ensures ∙ c.in_default.is)

pub returns-in-None-clause-read : goal.returns-in-None-clause-read
returns-in-None-clause-read c = λ table given.
    walking.entering table c.args.g.now c.args.w c.args.call.now c.enter_block.result
    (sym (c.label_of.ensures given.labels given.all_blocks given.of_form) ∙ c.in-None.is) (c.enter_block.ensures.read table)

pub returns-clause-read : goal.returns-clause-read
returns-clause-read c = λ table given.
    walking.calling table c.args.g.now c.args.w c.args.call.now c.in-Some-label_of.label c.call_end.result
    (sym (c.label_of.ensures given.labels given.all_blocks given.of_form) ∙ c.in-Some-label_of.is) (c.call_end.ensures table)
