use Rattle.std.proofs.Common.{subst}
use Rattle.away_types.specs.CheckedRows.{rows_note}
use Rattle.away_types.specs.Refusals.{Refuses}
use Rattle.away_top.specs.Steps.{run_end}
use Rattle.away_top.proofs.QueryExplaining.{query_broken_so, query_counted_so}
use Rattle.away_top.proofs.explain_query.judged.Goals as goal

pub returns-in-Ok : goal.returns-in-Ok
returns-in-Ok c =
    query_counted_so c.args.name.now c.args.tables.now.schema c.args.bytes.now c.args.query c.requires c.in-Ok.checked (run_end c.counted.result) c.in-Ok.ensures.ok c.counted.ensures

pub returns-in-Err-Broken : goal.returns-in-Err-Broken
returns-in-Err-Broken c =
    let least = subst (Refuses (rows_note c.args.tables.now.schema c.args.query)) c.in-Err-Broken.field-0-is c.in-Err-Broken.ensures.err in
    query_broken_so c.args.name.now c.args.tables.now.schema c.args.bytes.now c.args.query c.requires c.in-Err-Broken.rule (run_end c.broken.result) least c.broken.ensures
