use Rattle.away_top.specs.Steps.{run_end}
use Rattle.away_top.proofs.Explaining.{unread_so}
use Rattle.away_top.proofs.explain.explained_function.Goals as goal

pub judged-requires : goal.judged-requires
judged-requires c =
    let ok = c.in-Ok.ensures.ok in
    record { limits = ok.2; reads = record { may_be_read = ok.0; reads = ok.1; within_limits = ok.2 } }

pub returns-in-Ok : goal.returns-in-Ok
returns-in-Ok c = c.judged.ensures

pub returns-in-Err : goal.returns-in-Err
returns-in-Err c = unread_so c.args.func.now c.args.bytes.now c.in-Err.error c.args.tables.now.schema (run_end c.unread.result) c.in-Err.ensures.err c.unread.ensures
