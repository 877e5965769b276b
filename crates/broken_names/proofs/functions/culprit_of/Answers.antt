use Rattle.std.proofs.Common.{[], ap, subst, ◌∙◌}
use Rattle.away_names.specs.Places.{scope}
use Rattle.broken_names.specs.StatementCulprits.{IsAt, of_statement, with_params}
use Rattle.broken_names.proofs.Finding.{found_on}
use Rattle.broken_names.proofs.Entries.{at_entry}
use Rattle.broken_names.proofs.functions.culprit_of.Goals as goal

pub returns : goal.returns
returns c =
    let seen = at_entry c.args.s.now c.args.f.now (scope c.entry-place.result) _ _ c.entry-place.ensures c.in_ok-known.ensures
    (c.as_slice-2.ensures ∙ c.in_ok-variables.ensures ∙ ap (with_params []) c.as_slice.ensures) in
    found_on (λ x h. subst (λ s. IsAt c.args.broken s (of_statement c.args.f.now.body) c.args.node x) seen h) _ c.in_statement.ensures
