use Rattle.away_types.specs.CheckedQueries.{resolved_query}
use Rattle.inline_calls.specs.Resolving.{resolved}
use Rattle.inline_answers.specs.Answering.{params_of}
use Rattle.inline_answers.proofs.SameFails.{fails}
use Rattle.inline_answers.proofs.laws.inlined_queries_answer.Goals as goal

pub returns : goal.returns
returns c = λ s given forms one q written bytes text checked few accepted reads x.
    let f = c.args.f.now.function in
    let slots = c.args.f.now.slots in
    let calling = c.accepted_calls_fit.ensures s f forms.goto bytes q x.calls few reads x.are in
    let equivalent = c.accepted_forms_are_equivalent_at_all.ensures s given forms one checked few accepted in
    record {
      each = λ tables fits args supplied.
          c.queries_answer_filled.ensures s given f slots forms.goto forms.ssa forms.anf forms.tail one (resolved_query s written) (resolved s f x.calls) (params_of s f x.calls)
          checked few accepted.lowered accepted.named accepted.called accepted.templated (λ h. x.are.no_fails (fails forms.goto h)) x.reads.inlined calling equivalent tables fits args supplied;
    }
