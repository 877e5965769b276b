-- The grammar of printed expressions and queries with the depth of brackets: that of reading
-- without `::`, as CAST stands for each of them.
use Rattle.std.specs.Prelude.{ℕ, false, List}
use Rattle.away_grammar.specs.Terminals.{Terminal}
use Rattle.away_grammar.specs.Grammar.{Sort, Tree}
use Rattle.cte_prints.specs.ReadsIn.{ReadsIn}

-- As this sort, the terminals of the first list up to the second list derive the tree, with at most
-- so many brackets one inside another.
abbrev pub DerivesIn : ℕ → (n : Sort) → List Terminal → Tree n → List Terminal → Type 0
DerivesIn d n ts t rest = ReadsIn false d n ts t rest
