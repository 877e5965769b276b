use Rattle.inline_law.proofs.WorkedQueries.{queries_are}
use Rattle.inline_law.proofs.laws.worked_queries_hold.Goals as goal

pub returns : goal.returns
returns c = queries_are
