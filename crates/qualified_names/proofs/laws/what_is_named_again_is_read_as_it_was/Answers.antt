use Rattle.qualified_names.proofs.FilesBack.{file_back}
use Rattle.qualified_names.proofs.laws.what_is_named_again_is_read_as_it_was.Goals as goal

pub returns-clause-query : goal.returns-clause-query
returns-clause-query c schema q h = (file_back schema q h).query

pub returns-clause-unbroken : goal.returns-clause-unbroken
returns-clause-unbroken c schema q h = (file_back schema q h).quiet
