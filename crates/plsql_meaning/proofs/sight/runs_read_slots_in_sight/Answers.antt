use Rattle.std.proofs.Common.{sym, ap, length, nat_lt}
use Rattle.plsql_meaning.specs.Functions.{answer_of, begun}
use Rattle.plsql_meaning.proofs.InSight.{statement_alike}
use Rattle.plsql_meaning.proofs.Readers.{expressions_are_readers}
use Rattle.plsql_meaning.proofs.sight.runs_read_slots_in_sight.Goals as goal

pub returns-clause-statement : goal.returns-clause-statement
returns-clause-statement c = statement_alike

pub returns-clause-body : goal.returns-clause-body
returns-clause-body c = λ set r are f args env n sees agree.
    ap answer_of (sym (statement_alike set r are f.body (length f.params) (λ i. nat_lt i (length f.params)) sees (begun set f args) env n agree).outcome)

pub returns-clause-expressions : goal.returns-clause-expressions
returns-clause-expressions c = expressions_are_readers
