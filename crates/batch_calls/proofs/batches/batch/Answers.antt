use Rattle.std.proofs.Common.{rules, ◌≡◌, refl, ◌<◌, ◌^◌, length, arith}
use Rattle.away_trees.specs.declared.queries.Query.{Query}
use Rattle.batch_law.specs.Batches.{Batched}
use Rattle.block_forms.specs.Expressions.{expressions}
use Rattle.call_forms.specs.Template.{query_of}
use Rattle.call_forms.specs.Templated.{Templated, types_of}
use Rattle.batch_calls.proofs.batches.batch.Goals as goal

pub returns-in-Ok-clause-answers : goal.returns-in-Ok-clause-answers
returns-in-Ok-clause-answers c = λ written checked.
    let s = c.args.s.now.schema in
    let f = c.args.f.now.function in
    let slots = c.args.f.now.slots in
    let x = c.args.forms.now in
    let few : length s.tables < 2 ^ 64 = search rules in
    let b = c.in-Ok.ensures.batched in
    let one : Query = query_of (expressions f) (types_of slots x.ssa) f.result x.anf x.tail x.goto.entry (length s.tables) in
    let templated : Templated f slots (length s.tables) x.goto x.ssa x.anf x.tail one = record { entry = b.entry; trees = b.trees; query = refl } in
    let equivalent = c.accepted_forms_are_equivalent.ensures s written x one checked few (record {
      lowered = c.requires.lowered;
      named = c.requires.named;
      called = c.requires.called;
      merged = c.requires.merged;
      columned = c.requires.columned;
      templated = templated;
    }) in
    record {
      each = λ tables fits. c.batches_answer_as_functions.ensures s written f slots x.goto x.ssa x.anf x.tail one _ c.args.table checked few c.requires.lowered c.requires.named c.requires.called
          templated b c.in-Ok.ensures.batch.table equivalent tables fits;
    }
