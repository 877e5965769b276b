use Rattle.std.proofs.Common.{◌∙◌, ap}
use Rattle.away_trees.specs.declared.statements.Function.{Function}
use Rattle.away_types.specs.declared.checked_function.CheckedFunction.{CheckedFunction}
use Rattle.away_gen.specs.Valid.{IsFunctionText}
use Rattle.away_gen.proofs.judging.function_of.Goals as goal

pub returns-in_ok-new-in-Ok-check_function : goal.returns-in_ok-new-in-Ok-check_function
returns-in_ok-new-in-Ok-check_function c =
    let function = c.in-Ok.function in
    let reads : IsFunctionText c.args.schema.now.schema c.args.bytes.now function =
    record {
      may_be_read = c.in-Ok.ensures.ok.0;
      reads = c.in-Ok.ensures.ok.1;
      within_limits = c.in-Ok.ensures.ok.2;
      unbroken = c.in-Ok-check_function.ensures.ok.unbroken;
    } in
    let boxed = c.in_ok-new-in-Ok-check_function.ensures in
    let params = ap (λ (f : Function). f.params) c.in-Ok-check_function.ensures.ok.function in
    (function, reads, ap (λ (checked : CheckedFunction). checked.function.params) boxed ∙ params)
