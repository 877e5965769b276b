-- What the code looks for, to the definitions.
use Rattle.std.specs.Prelude.{Bool, List, []}
use Rattle.away_trees.specs.declared.queries.Expr.{Expr}
use Rattle.away_names.specs.Lookups.{Name}
use Rattle.moved_names.specs.declared.sought.Sought.{Sought as Here}
use Rattle.moved_names.specs.declared.sought.Sought.TheVariants.{Word, Calls, Kept}
use Rattle.moved_names.specs.declared.words.Looking.{Looking as Asked}
use Rattle.moved_names.specs.declared.words.Places.{Places}
use Rattle.moved_names.specs.declared.words.Places.TheVariants.{Nowhere, Returns, Everywhere}
use Rattle.moved_names.specs.Finding.{Sought, in_expr}
use Rattle.moved_names.specs.Words.{Looking, as_word, beside, calls_of, kept_words}

abbrev pub sought : Here → Sought
sought (Word n) = as_word n.now
sought (Calls names) = calls_of names.now
sought Kept = kept_words

abbrev pub functions : Here → List Name
functions (Word n) = []
functions (Calls names) = names.now
functions Kept = []

abbrev pub assigned_by : Places → Here → Expr → Bool
assigned_by Nowhere s e = in_expr (sought s) e
assigned_by Returns s e = in_expr (sought s) e
assigned_by Everywhere s e = beside (sought s) (functions s) e

abbrev pub returned_by : Places → Here → Expr → Bool
returned_by Nowhere s e = in_expr (sought s) e
returned_by Returns s e = beside (sought s) (functions s) e
returned_by Everywhere s e = beside (sought s) (functions s) e

abbrev pub looking : Asked → Looking
looking l = record {
  sought = sought l.sought;
  assigned = assigned_by l.places l.sought;
  returned = returned_by l.places l.sought;
}
