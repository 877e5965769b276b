use Rattle.std.proofs.Common.{subst, sym}
use Rattle.away_types.specs.CheckedFunctions.{IsChecked}
use Rattle.away_types.specs.declared.checked_function.CheckedFunction.{CheckedFunction}
use Rattle.away_gen.specs.Valid.{IsFunctionText}
use Rattle.demonstration.proofs.trial.function_of.Goals as goal

pub returns-in_ok-new-in-Ok-check_function : goal.returns-in_ok-new-in-Ok-check_function
returns-in_ok-new-in-Ok-check_function c =
    let schema = c.args.schema.now.schema in
    let written = c.in-Ok.function in
    let reads : IsFunctionText schema c.args.bytes.now written =
    record {
      may_be_read = c.in-Ok.ensures.ok.0;
      reads = c.in-Ok.ensures.ok.1;
      within_limits = c.in-Ok.ensures.ok.2;
      unbroken = c.in-Ok-check_function.ensures.ok.unbroken;
    } in
    let boxed = c.in_ok-new-in-Ok-check_function.ensures in (
      written,
      reads,
      record {
        checked = subst (λ (x : CheckedFunction). IsChecked schema written x.function x.slots) (sym boxed) c.in-Ok-check_function.ensures.ok;
        nodes_are = c.nodes-count.ensures;
      },
    )
