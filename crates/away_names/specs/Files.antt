-- A whole query with what its names stand for.
use Rattle.std.specs.Prelude.{◌∷◌, length, decimal, true, List, Option, Some, None}
use Rattle.away_trees.specs.declared.schemas.Schema.{Schema}
use Rattle.away_trees.specs.declared.queries.Select.{Select}
use Rattle.away_trees.specs.declared.queries.Recursive.{Recursive}
use Rattle.away_trees.specs.declared.queries.Query.{Query}
use Rattle.away_trees.specs.declared.queries.Expr.TheViews.{
  roll-Recursive,
  roll-Query,
  out-Query,
  out-Recursive,
}
use Rattle.away_names.specs.declared.rule.Rule.TheVariants as rule
use Rattle.away_names.specs.declared.scope.Working.{Working}
use Rattle.away_names.specs.declared.note.File.{File}
use Rattle.away_names.specs.declared.note.Terms.{Terms}
use Rattle.away_names.specs.Notes.{clean, joined, breaks}
use Rattle.away_names.specs.Lookups.{Scope, has_double, table_before}
use Rattle.away_names.specs.Trees.{named_select}
use Rattle.away_names.specs.NamingLists.{named_selects}
use Rattle.away_names.specs.Tables.{table_of, outermost}

-- the recursive table has the place behind the last table of the schema
abbrev pub working : Schema → Recursive → Working
working s r = record {
  name = (out-Recursive r).name;
  table =
      record {
        written = decimal (length s.tables) ∷ (out-Recursive r).columns;
        recursive = true;
      };
}

-- it is in sight everywhere in the query, in its own terms too
abbrev pub with_working : Schema → Recursive → Scope
with_working s r = record (outermost s) { table = table_before (Some (working s r)) (table_of s) }

abbrev pub named_terms : Scope → Recursive → Terms
named_terms scope r =
    let first = named_selects scope (out-Recursive r).first in
    let second = named_select (out-Recursive r).second scope in
    record {
      it = roll-Recursive (record { name = (out-Recursive r).name; columns = (out-Recursive r).columns; first = first.it.it; second = second.it.it });
      columns = breaks rule.Duplicates (has_double (out-Recursive r).columns);
      first = first.note;
      second = second.note;
    }

-- a query without WITH, and one behind it
abbrev pub file_alone : Scope → List Select → File
file_alone scope selects =
    let x = named_selects scope selects in
    record { query = roll-Query (record { recursive = None; selects = x.it.it }); first = clean; second = clean; note = x.note }

abbrev pub file_behind : Scope → Recursive → List Select → File
file_behind scope r selects =
    let t = named_terms scope r in
    let x = named_selects scope selects in
    record {
      query = roll-Query (record { recursive = Some t.it; selects = x.it.it });
      first = t.first;
      second = t.second;
      note = joined (joined t.columns (joined t.first t.second)) x.note;
    }

abbrev pub file_of : Schema → Option Recursive → List Select → File
file_of s None selects = file_alone (outermost s) selects
file_of s (Some r) selects = file_behind (with_working s r) r selects

unfoldable pub file : Schema → Query → File
file s q = file_of s (out-Query q).recursive (out-Query q).selects
