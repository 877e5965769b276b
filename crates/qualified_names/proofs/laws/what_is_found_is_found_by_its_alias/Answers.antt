use Rattle.qualified_names.proofs.ReadColumns.{qualified_read, named_read}
use Rattle.qualified_names.proofs.laws.what_is_found_is_found_by_its_alias.Goals as goal

pub returns-clause-named : goal.returns-clause-named
returns-clause-named c n s hit h = let r = named_read n s hit h in (r.alias, r.is, r.found)

pub returns-clause-qualified : goal.returns-clause-qualified
returns-clause-qualified c a n s hit h = qualified_read a n s hit h
