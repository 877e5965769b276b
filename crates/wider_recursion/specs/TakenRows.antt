-- The tables whose rows a select takes.
use Rattle.std.specs.Prelude.{Bool, false, List, [], ◌∷◌, Option, None, bytes_eq}
use Rattle.std.specs.List.{list_any}
use Rattle.away_names.specs.Lookups.{Name}
use Rattle.away_trees.specs.Algebra.{Algebra, source_of, select_of, query_of}
use Rattle.away_trees.specs.AlgebraEquations.{algebra}
use Rattle.away_trees.specs.declared.queries.Expr.TheOpen.{Source-F}
use Rattle.away_trees.specs.declared.queries.Expr.TheOpen as ex
use Rattle.away_trees.specs.declared.queries.Expr.TheViews.{out-FromItem}
use Rattle.away_trees.specs.declared.queries.FromItem.{FromItem}
use Rattle.away_trees.specs.declared.queries.Query.{Query}
use Rattle.away_trees.specs.declared.queries.Select.{Select}
use Rattle.away_trees.specs.declared.queries.Source.{Source}

abbrev pub Nothing : Type 0
Nothing = Unit {0}

-- one select, without WITH and without UNION ALL
unfoldable pub of_alone : {A : Type 0} → Option A → List Bool → Bool
of_alone None (x ∷ []) = x
of_alone _ _ = false

abbrev pub of_source : Name → Source-F Nothing Bool Bool Nothing Nothing Bool Nothing Bool → Bool
of_source name (ex.Table n) = bytes_eq n name
of_source name (ex.Sub q lateral) = q

-- nothing but FROM is looked at
abbrev pub taking : Name → Algebra
taking name = algebra (record {
  no_expr = tt;
  no_query = false;
  expr = λ e. tt;
  source = of_source name;
  from = λ f. f.source;
  item = λ i. tt;
  key = λ k. tt;
  query = λ q. of_alone q.recursive q.selects;
  recursive = λ r. tt;
  select = λ s. list_any (λ b. b) s.from;
})

-- Whether the select takes rows of the table: its name stands in FROM, or in that of a select
-- without UNION ALL that stands in FROM, at any depth.
unfoldable pub takes_rows : Name → Select → Bool
takes_rows name s = select_of (taking name) s

unfoldable pub source_takes : Name → Source → Bool
source_takes name s = source_of (taking name) s

unfoldable pub query_takes : Name → Query → Bool
query_takes name q = query_of (taking name) q

abbrev pub any_takes : Name → List FromItem → Bool
any_takes name = list_any (λ f. source_takes name (out-FromItem f).source)

abbrev pub only_takes : Name → List Select → Bool
only_takes name (s ∷ []) = takes_rows name s
only_takes name _ = false
