use Rattle.std.proofs.Common.{◌≡◌, ◌++◌, drop}
use Rattle.turn_template.specs.TurnTemplate.{choices}
use Rattle.turn_terms.specs.Sameness.{same}
use Rattle.turn_query.proofs.cells.choices.Given as goal

abbrev pub invariant-loop-i : goal.invariant-loop-i
invariant-loop-i l = l.list ++ choices same l.condition (drop l.i l.yes) (drop l.i l.no) ≡ choices same l.condition l.yes l.no
