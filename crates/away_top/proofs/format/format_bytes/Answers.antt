use Rattle.away_top.specs.Refusals.{ReadsAsFunction}
use Rattle.away_top.specs.Steps.{run_end}
use Rattle.away_top.proofs.Formatting.{printed_so}
use Rattle.away_top.proofs.format.format_bytes.Goals as goal

pub returns-in-Ok : goal.returns-in-Ok
returns-in-Ok c =
    let bytes = c.args.bytes.now in
    let function = c.in-Ok.function in
    let ok = c.in-Ok.ensures.ok in
    let reads : ReadsAsFunction bytes function = record { may_be_read = ok.0; reads = ok.1; within_limits = ok.2 } in
    printed_so c.args.func.now bytes function (run_end c.printed.result) reads c.printed.ensures
