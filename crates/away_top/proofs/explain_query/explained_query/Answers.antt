use Rattle.away_top.specs.Steps.{run_end}
use Rattle.away_top.proofs.QueryExplaining.{query_unread_so}
use Rattle.away_top.proofs.explain_query.explained_query.Goals as goal

pub judged-requires : goal.judged-requires
judged-requires c = let ok = c.in-Ok.ensures.ok in record { may_be_read = ok.0; reads = ok.1 }

pub returns-in-Err : goal.returns-in-Err
returns-in-Err c = query_unread_so c.args.name.now c.args.bytes.now c.in-Err.error c.args.tables.now.schema (run_end c.unread.result) c.in-Err.ensures.err c.unread.ensures
