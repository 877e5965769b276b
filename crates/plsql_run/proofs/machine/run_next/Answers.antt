use Rattle.std.proofs.Common.{arith, sym, ap, ◌∙◌, ◌+◌, sum_by}
use Rattle.std.proofs.lemmas.List.Sums.{sum_by-cons}
use Rattle.plsql_meaning.specs.Outcomes.{and_then}
use Rattle.plsql_meaning.specs.Slots.{slots_of}
use Rattle.plsql_meaning.specs.Statements.{meaning, meanings, in_row}
use Rattle.plsql_meaning.proofs.Slots.{takes}
use Rattle.plsql_run.specs.Continues.{body_of, unwound}
use Rattle.plsql_run.specs.Layouts.{slots}
use Rattle.plsql_run.specs.Places.{ListPosition}
use Rattle.plsql_run.specs.Settings.{meant}
use Rattle.plsql_run.specs.declared.frames.Frame.TheVariants as frame
use Rattle.plsql_run.proofs.Layouts.{first_laid, rest_laid, slots_are}
use Rattle.plsql_run.proofs.Unwound.{goes_as, unwound_on}
use Rattle.plsql_run.proofs.machine.run_next.Goals as goal

pub overflow_add-behind : goal.overflow_add-behind
overflow_add-behind c =
    let place = c.place.inside in
    let first = c.in-Some.first.now in
    let rest = c.in-Some.rest.now in
    let laid = first_laid place.layouts.now place.list.now c.index-layouts-0.result first rest c.place.invariant.laid c.in-Some.ensures.cases.0 c.index-layouts-0.is in
    omega (arith, c.place.invariant.few, ap slots laid ∙ slots_are first, ap (sum_by slots_of) c.in-Some.ensures.cases.0, sum_by-cons slots_of first rest)

pub invariant_of-behind : goal.invariant_of-behind
invariant_of-behind c =
    let place = c.place.inside in
    let first = c.in-Some.first.now in
    let rest = c.in-Some.rest.now in
    let laid = first_laid place.layouts.now place.list.now c.index-layouts-0.result first rest c.place.invariant.laid c.in-Some.ensures.cases.0 c.index-layouts-0.is in
    record {
      laid = rest_laid place.layouts.now place.list.now first rest c.place.invariant.laid c.in-Some.ensures.cases.0;
      few = omega (arith, c.place.invariant.few, ap slots laid ∙ slots_are first, ap (sum_by slots_of) c.in-Some.ensures.cases.0, sum_by-cons slots_of first rest);
    }

pub enter-requires : goal.enter-requires
enter-requires c =
    let place = c.place.inside in
    let first = c.in-Some.first.now in
    let rest = c.in-Some.rest.now in
    record {
      few = omega (arith, c.place.invariant.few, ap (sum_by slots_of) c.in-Some.ensures.cases.0, sum_by-cons slots_of first rest);
      laid = first_laid place.layouts.now place.list.now c.index-layouts-0.result first rest c.place.invariant.laid c.in-Some.ensures.cases.0 c.index-layouts-0.is;
    }

pub returns-in_ok-push-in-Some-clause-runs : goal.returns-in_ok-push-in-Some-clause-runs
returns-in_ok-push-in-Some-clause-runs c =
    let set = meant c.args.setting.now in
    let fs = c.args.stack.now in
    let env = c.args.env.now in
    let place = c.place.inside in
    let at = place.at in
    let first = c.in-Some.first.now in
    let rest = c.in-Some.rest.now in
    let laid = first_laid place.layouts.now place.list.now c.index-layouts-0.result first rest c.place.invariant.laid c.in-Some.ensures.cases.0 c.index-layouts-0.is in
    let behind : ListPosition = record { list = rest; at = at + slots c.index-layouts-0.result } in
    goes_as set c.enter.new.stack c.enter.new.env c.enter.result
    (λ n. unwound_on set fs c.push.new.self (frame.Rest behind) c.in_ok-push-in-Some.ensures.ok ((meaning set first).run at env n)
    ∙ ap (λ k. unwound set fs (and_then ((meaning set first).run at env n) (in_row (meanings set rest) (at + k)))) (ap slots laid ∙ slots_are first ∙ sym (takes set first))
    ∙ ap (λ ss. unwound set fs (in_row (meanings set ss) at env n)) (sym c.in-Some.ensures.cases.0)
    ∙ ap (λ p. unwound set fs (body_of set p env n)) c.place.view_is)
    c.enter.ensures.runs
