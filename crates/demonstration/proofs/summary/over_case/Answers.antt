use Rattle.std.proofs.Common.{subst, sym}
use Rattle.away_types.specs.declared.checked_function.CheckedFunction.{CheckedFunction}
use Rattle.away_types.specs.declared.checked_schema.CheckedSchema.{CheckedSchema}
use Rattle.cte_prints.specs.Texts.{IsOfTexts}
use Rattle.demonstration.proofs.summary.over_case.Goals as goal

pub compiled_query-requires : goal.compiled_query-requires
compiled_query-requires c =
    let trial = c.args.trial.now in
    record {
      texts = subst (λ (s : CheckedSchema). IsOfTexts s.schema c.get-2.result.now.function c.get-2.result.now.slots) (sym c.get.ensures)
          (subst (λ (f : CheckedFunction). IsOfTexts trial.schema.schema f.function f.slots) (sym c.get-2.ensures) c.requires.texts);
    }
