use Rattle.std.proofs.Common.{arith, sym, ap, ◌∙◌, option_map, sum_by}
use Rattle.away_trees.specs.Count.{nodes_of, nodes_of_else}
use Rattle.away_trees.proofs.CountLemmas.{else_nodes}
use Rattle.plsql_meaning.specs.Outcomes.{faults}
use Rattle.plsql_meaning.specs.Slots.{slots_of, slots_of_else}
use Rattle.plsql_meaning.specs.Statements.{in_else, in_row, meanings}
use Rattle.plsql_meaning.proofs.Slots.{else_slots_are}
use Rattle.plsql_run.specs.Continues.{lacking, unwound}
use Rattle.plsql_run.specs.Layouts.{layouts_of, layouts_of_else}
use Rattle.plsql_run.proofs.Unwound.{goes_as, passes}
use Rattle.plsql_run.proofs.Arms.{if_ends}
use Rattle.plsql_run.proofs.enter.enter_else.Goals as goal

pub invariant_of-enter_list : goal.invariant_of-enter_list
invariant_of-enter_list c = record {
  laid = c.requires.laid ∙ ap layouts_of_else c.in-Some.is ∙ ap layouts_of (sym c.as_slice.ensures);
  few = omega (arith, c.requires.few, ap slots_of_else c.in-Some.is, else_slots_are c.in-Some.body, ap (sum_by slots_of) c.as_slice.ensures);
}

pub returns-in-Some-clause-runs : goal.returns-in-Some-clause-runs
returns-in-Some-clause-runs c = λ set env.
    let fs = c.args.stack.now in
    let at = c.args.at in
    goes_as set c.enter_list.new.stack env c.enter_list.result
    (λ n. ap (λ ss. unwound set fs (in_row (meanings set ss) at env n)) c.as_slice.ensures
    ∙ ap (λ o. unwound set fs (in_else set (option_map (λ body. meanings set body) o) (lacking c.args.missing) at env n)) (sym c.in-Some.is))
    (c.enter_list.ensures.runs set env)

pub returns-in-Some-clause-ends : goal.returns-in-Some-clause-ends
returns-in-Some-clause-ends c =
    if_ends c.enter_list.result (λ e. omega (arith, e, ap (sum_by nodes_of) c.as_slice.ensures, ap nodes_of_else c.in-Some.is, else_nodes c.in-Some.body)) c.enter_list.ensures.ends

pub returns-in-Some-missing-clause-runs : goal.returns-in-Some-missing-clause-runs
returns-in-Some-missing-clause-runs c = λ set env n.
    passes set c.args.stack.now (faults c.in-Some-missing.class) tt (in_else set (option_map (λ body. meanings set body) c.args.other.now) (lacking c.args.missing) c.args.at env n)
    (ap (λ o. (in_else set (option_map (λ body. meanings set body) o) (lacking c.args.missing) c.args.at env n).outcome) c.in-None.is ∙ ap lacking c.in-Some-missing.is)
