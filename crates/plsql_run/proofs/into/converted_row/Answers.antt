use Rattle.std.proofs.Common.{◌++◌, ap, sym, ◌∙◌, ◌+◌, slice_index_or}
use Rattle.away_values.specs.Results.{mapped}
use Rattle.plsql_meaning.specs.Conversions.{conversion_by, converted_value}
use Rattle.plsql_run.specs.Settings.{meant}
use Rattle.plsql_run.proofs.Converted.{item_at, rest, value_converted}
use Rattle.plsql_run.proofs.into.converted_row.Goals as goal

pub loop-i-preserved : goal.loop-i-preserved
loop-i-preserved c =
    let types = (meant c.args.setting.now).types in
    let target = slice_index_or c.args.targets.now c.loop-i.i c.index-targets-i.result in
    (λ j. mapped (λ vs. c.in_ok-push.ensures.ok j ++ vs) (rest types c.args.targets.now c.args.items.now c.args.row.now (c.loop-i.i + 1)))
    ∙ value_converted types c.args.targets.now c.args.items.now c.args.row.now c.loop-i.i target (ap (slice_index_or c.args.targets.now c.loop-i.i) c.index-targets-i.is) c.loop-i-test.true c.in_ok-v.v c.in_ok-v.ensures.value c.loop-i.done c.in_ok-converted_value.field-0
    (ap (λ t. converted_value t c.in_ok-v.v) (sym (c.conversion-ty.ensures ∙ ap (conversion_by types target.1) (item_at c.args.items.now c.loop-i.i c.get.result c.get.ensures.lookup.0 c.get.ensures.lookup.1))) ∙ c.in_ok-converted_value.ensures)
    ∙ c.loop-i.invariant
