use Rattle.away_top.proofs.InlineRefusals.{calls_unrefused}
use Rattle.away_top.proofs.ProgramEnds.{program_unrefused}
use Rattle.away_top.proofs.Unrefused.{cert_unrefused, function_kept_over, query_kept_over, query_read_unrefused, read_unrefused, row_query_kept_over, schema_unrefused, self_caller_unrefused}
use Rattle.away_top.proofs.fitting.what_fits_is_not_refused.Goals as goal

pub returns-clause-schema : goal.returns-clause-schema
returns-clause-schema c = λ bytes rule s. schema_unrefused s rule

pub returns-clause-function : goal.returns-clause-function
returns-clause-function c = λ schema bytes rule f. function_kept_over schema bytes f rule

pub returns-clause-self_caller : goal.returns-clause-self_caller
returns-clause-self_caller c = λ schema bytes rule f. self_caller_unrefused schema bytes f rule

pub returns-clause-readable : goal.returns-clause-readable
returns-clause-readable c = λ bytes rule f. read_unrefused bytes f.written f.reads_as rule

pub returns-clause-program : goal.returns-clause-program
returns-clause-program c = λ schema program file rule p. program_unrefused schema program p file rule

pub returns-clause-query : goal.returns-clause-query
returns-clause-query c = λ schema bytes rule q. query_kept_over schema bytes q rule

pub returns-clause-readable_query : goal.returns-clause-readable_query
returns-clause-readable_query c = λ bytes rule q. query_read_unrefused bytes q rule

pub returns-clause-calls : goal.returns-clause-calls
returns-clause-calls c = λ schema f goto q calls e are. calls_unrefused schema f goto q calls are e

pub returns-clause-rows : goal.returns-clause-rows
returns-clause-rows c = λ schema bytes rule q. row_query_kept_over schema bytes q rule

pub returns-clause-certificate : goal.returns-clause-certificate
returns-clause-certificate c = λ bytes rule cert. cert_unrefused cert rule
