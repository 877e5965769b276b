use Rattle.away_names.specs.Schemas.{schema_note}
use Rattle.away_types.specs.CheckedQueries.{query_note}
use Rattle.away_types.specs.FunctionChecks.{function_note}
use Rattle.plsql_parse.proofs.OneFile.{one_function}
use Rattle.sql_text.proofs.OneTree.{one_text}
use Rattle.text_laws.proofs.Judging.{code_kept, one_schema, tree_kept}
use Rattle.text_laws.proofs.laws.what_breaks_no_rule_is_kept.Goals as goal

pub returns-clause-schema : goal.returns-clause-schema
returns-clause-schema c = λ bytes s other why reads kept again. tree_kept schema_note s other (one_schema again reads) kept why

pub returns-clause-query : goal.returns-clause-query
returns-clause-query c = λ tables bytes q other why reads kept again. tree_kept (query_note tables) q other (one_text again reads) kept why

pub returns-clause-function : goal.returns-clause-function
returns-clause-function c = λ tables bytes f other why reads kept again. code_kept (function_note tables) f other (one_function again reads) kept why
