-- Where calls of a program's functions stand: as a whole assignment or RETURN, or elsewhere.
use Rattle.std.specs.Prelude.{Bool, List}
use Rattle.away_trees.specs.declared.statements.Stmt.{Stmt}
use Rattle.away_names.specs.Lookups.{Name}
use Rattle.moved_names.specs.Finding.{in_expr}
use Rattle.moved_names.specs.Words.{Looking, beside, calls_of, in_stmt}

module _ (names : List Name) where
  -- places are assignments and RETURNs: there the arguments of a call are looked at
  abbrev pub elsewhere : Looking
  elsewhere = record {
    sought = calls_of names;
    assigned = beside (calls_of names) names;
    returned = beside (calls_of names) names;
  }

  -- places are RETURNs alone
  abbrev pub not_returned : Looking
  not_returned = record {
    sought = calls_of names;
    assigned = in_expr (calls_of names);
    returned = beside (calls_of names) names;
  }

  -- a call of one of these functions stands elsewhere
  abbrev pub misplaces : Stmt → Bool
  misplaces s = in_stmt elsewhere s

  abbrev pub misplaces_self : Stmt → Bool
  misplaces_self s = in_stmt not_returned s
