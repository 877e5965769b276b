-- A plan in memory as the plan that it is.
use Rattle.turn_template.specs.TurnTemplate.{Plan, Settled}
use Rattle.turn_query.specs.declared.plans.Plan.{Plan as Made}
use Rattle.turn_query.specs.declared.plans.Settling.{Settling}
use Rattle.turn_terms.specs.References.{on_row}

abbrev pub as_plan : Made → Plan
as_plan p = record { steps = p.steps; cells = p.cells }

-- what stands for a term, and its step
abbrev pub as_settled : Settling → Settled
as_settled s = record { ref = on_row s.value; steps = s.steps }
